use mathlib.Core.Path.{refl}
use native.Mathlib.Omega.{arith}
use Rattle.cnf.proofs.Appending.{worded_then, written_threes}
use Rattle.netlist.specs.Node.{netlist_clauses, node_clauses}
use Rattle.netlist.proofs.gates.mux_gate.Goals as goal

pub returns : goal.returns
unfolding netlist_clauses node_clauses
returns c =
    rw (← c.opposite-na.ensures, ← c.opposite-nb.ensures, ← c.opposite-nc.ensures)
    (written_threes 4 (worded_then (worded_then (worded_then c.clause_words.ensures c.clause_words-2.ensures (omega arith)) c.clause_words-3.ensures (omega arith)) c.clause_words-4.ensures (omega arith)) c.write_starts.ensures refl refl)
