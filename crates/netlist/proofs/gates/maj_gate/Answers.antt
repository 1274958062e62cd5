use mathlib.Core.Path.{refl}
use Rattle.cnf.proofs.Appending.{written_threes}
use Rattle.netlist.specs.Node.{netlist_clauses, node_clauses}
use Rattle.netlist.proofs.gates.maj_gate.Goals as goal

pub returns : goal.returns
unfolding netlist_clauses node_clauses
returns c = written_threes 6 c.maj_words.ensures c.write_starts.ensures refl refl
