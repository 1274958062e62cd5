use native.Mathlib.Omega.{arith}
use Rattle.cnf.proofs.Appending.{written_then}
use Rattle.netlist.specs.Node.{netlist_clauses, node_clauses}
use Rattle.netlist.proofs.gates.and_gate.Goals as goal

pub returns : goal.returns
unfolding netlist_clauses node_clauses
returns c =
    rw (← c.opposite-na.ensures, ← c.opposite-nb.ensures)
    (written_then (written_then c.write_clause.ensures c.write_clause-2.ensures (omega arith) (omega arith)) c.write_clause-3.ensures (omega arith) (omega arith))
