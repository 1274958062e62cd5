use Rattle.std.proofs.Common.{◌+◌, ◌≤◌, length}
use Rattle.proof_propagation.proofs.Scanning.{Counted}
use Rattle.proof_propagation.proofs.scans.scan.Given as goal

abbrev pub invariant-loop-l : goal.invariant-loop-l
invariant-loop-l g l =
    let m = g.L.Literals in
    m.readable l.rest × (l.left + length (m.left l.rest) ≤ length (m.left l.literals)) × Counted l.marks (m.left l.literals) l.left l.found (m.left l.rest)

abbrev pub decreases-loop-l : goal.decreases-loop-l
decreases-loop-l g l = length (g.L.Literals.left l.rest)
