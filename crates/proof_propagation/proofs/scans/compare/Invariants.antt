use Rattle.std.proofs.Common.{length}
use Rattle.proof_propagation.proofs.Scanning.{Scanned}
use Rattle.proof_propagation.proofs.scans.compare.Given as goal

abbrev pub invariant-loop-l : goal.invariant-loop-l
invariant-loop-l g l = let m = g.L.Literals in m.readable l.rest × Scanned l.marks (m.left l.fn.literals) l.found (m.left l.rest)

abbrev pub decreases-loop-l : goal.decreases-loop-l
decreases-loop-l g l = length (g.L.Literals.left l.rest)
