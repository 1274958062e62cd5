use Rattle.std.proofs.Common.{◌≡◌, length}
use Rattle.proof_propagation.specs.Inner.Clear.{clear}
use Rattle.proof_propagation.proofs.clears.clear_literals.Given as goal

abbrev pub invariant-loop-l : goal.invariant-loop-l
invariant-loop-l g l =
    let m = g.L.Literals in
    m.readable l.rest × (length l.marks ≡ length l.initial.marks) × (clear l.marks (m.left l.rest) ≡ clear l.initial.marks (m.left l.fn.literals))

abbrev pub decreases-loop-l : goal.decreases-loop-l
decreases-loop-l g l = length (g.L.Literals.left l.rest)
