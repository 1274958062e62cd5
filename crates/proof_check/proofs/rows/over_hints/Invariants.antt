use Rattle.std.proofs.Common.{◌≡◌, ◌-◌, length}
use Rattle.proof_check.proofs.Rowing.{Rowing}
use Rattle.proof_propagation.specs.Inner.Store.{proof_of}
use Rattle.proof_check.proofs.rows.over_hints.Given as goal

abbrev pub invariant-loop-store : goal.invariant-loop-store
invariant-loop-store l =
    Rowing l.store l.starts l.initial.marks l.initial.q l.marks l.trail l.q × (length l.marks ≡ length l.initial.marks) × (length l.trail ≡ length l.initial.trail)

abbrev pub decreases-loop-store : goal.decreases-loop-store
decreases-loop-store l = length (proof_of l.store) - l.q.at
