use Rattle.std.proofs.Common.{◌≡◌, ◌-◌, length}
use Rattle.proof_check.proofs.Going.{Going}
use Rattle.proof_propagation.specs.Inner.Store.{proof_of}
use Rattle.proof_check.proofs.turns.finish.Given as goal

abbrev pub invariant-loop-next : goal.invariant-loop-next
invariant-loop-next l =
    Going l.base l.store l.initial.starts l.initial.marks l.initial.q l.starts l.marks l.trail l.q × (length l.starts ≡ length l.initial.starts) × (length l.marks ≡ length l.initial.marks) × (length l.trail ≡ length l.initial.trail)

abbrev pub decreases-loop-next : goal.decreases-loop-next
decreases-loop-next l = length (proof_of l.store) - l.q.at
