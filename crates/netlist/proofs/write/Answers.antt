use Rattle.cnf.proofs.Appending.{written_none}
use Rattle.netlist.specs.Node.{netlist_clauses, node_clauses}
use Rattle.netlist.proofs.write.Goals as goal

pub returns-in-One : goal.returns-in-One
unfolding netlist_clauses node_clauses
returns-in-One c = rw c.in-One.is c.write_clause.ensures

pub returns-in-Input : goal.returns-in-Input
unfolding netlist_clauses node_clauses
returns-in-Input c = rw c.in-Input.is (written_none _ _ _ _)
