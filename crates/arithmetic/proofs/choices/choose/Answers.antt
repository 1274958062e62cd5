use mathlib.Core.Path.{◌∙◌, sym}
use Rattle.netlist.proofs.Emitting.{emitted_counted, emitted-written}
use Rattle.arithmetic.proofs.Choose.{chooser-sized}
use Rattle.arithmetic.proofs.choices.choose.Goals as goal

pub returns-then-fits : goal.returns-then-fits
returns-then-fits c = record {
  emitted = emitted-written c.write_choice.ensures c.counted-net.ensures (chooser-sized _ _ _ _);
  bits = c.input_bits-bits.ensures;
}

pub returns : goal.returns
returns c = record {
  emitted = emitted_counted _ _ (sym c.fits.ensures ∙ c.if-fits.false) c.counted-net.ensures (chooser-sized _ _ _ _);
  bits = c.input_bits-bits.ensures;
}
