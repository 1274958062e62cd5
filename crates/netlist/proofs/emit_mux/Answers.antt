use mathlib.Core.Path.{◌∙◌, sym}
use Rattle.netlist.proofs.Emitting.{emitted_counted, emitted-written}
use Rattle.netlist.proofs.Nodes.{node_sized}
use Rattle.netlist.proofs.emit_mux.Goals as goal

pub returns-then-fits : goal.returns-then-fits
returns-then-fits c = emitted-written c.mux_gate.ensures c.counted-next.ensures (node_sized _)

pub returns : goal.returns
returns c = emitted_counted _ _ (sym c.fits.ensures ∙ c.if-fits.false) c.counted-next.ensures (node_sized _)
