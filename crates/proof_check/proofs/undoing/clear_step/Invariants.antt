use Rattle.std.proofs.Common.{◌≡◌, length}
use Rattle.proof_check.specs.Inner.Held.{clauses_in}
use Rattle.proof_check.specs.Inner.Undo.{Clean}
use Rattle.proof_propagation.specs.Inner.Store.{proof_of}
use Rattle.proof_check.proofs.undoing.clear_step.Given as goal

abbrev pub invariant-loop-to : goal.invariant-loop-to
invariant-loop-to l = (length l.marks ≡ length l.initial.marks) × Clean (proof_of l.store) l.p.begin (clauses_in l.store l.starts l.p) l.marks l.to

abbrev pub decreases-loop-to : goal.decreases-loop-to
decreases-loop-to l = l.to
