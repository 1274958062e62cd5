use mathlib.Core.Path.{refl}
use Rattle.netlist.proofs.Emitting.{nodes_then_lem}
use Rattle.netlist.proofs.Nodes.{node_sized}
use Rattle.netlist.specs.declared.Node.TheVariants.{Xor}
use Rattle.comparison.proofs.comparisons.write_same.Goals as goal

pub returns : goal.returns
returns c = nodes_then_lem _ _ c.xor_gate.ensures (node_sized (Xor _ _)) c.and_gate.ensures refl refl refl
