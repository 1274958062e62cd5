use mathlib.Core.Path.{◌∙◌, sym}
use Rattle.netlist.proofs.Emitting.{emitted_counted, emitted-written}
use Rattle.arithmetic.proofs.Adder.{adder-sized}
use Rattle.arithmetic.proofs.sums.add_turned.Goals as goal

pub returns-then-fits : goal.returns-then-fits
returns-then-fits c = emitted-written c.write_sum.ensures c.counted-next.ensures (adder-sized _ _ _ _ _)

pub returns : goal.returns
returns c = emitted_counted _ _ (sym c.fits.ensures ∙ c.if-fits.false) c.counted-next.ensures (adder-sized _ _ _ _ _)
