use Rattle.std.proofs.Common.{◌∙◌, ◌*◌, ◌+◌, ap, arith, sym, ℕ}
use Rattle.arithmetic.proofs.Laws.{filled_turn, laid_from, rising_high, rising_low}
use Rattle.arithmetic.specs.Bits.{places}
use Rattle.arithmetic.specs.Extend.{rising_bit}
use Rattle.arithmetic.proofs.extensions.rising.Goals as goal

pub loop-bit-preserved : goal.loop-bit-preserved
loop-bit-preserved c = (
  omega arith,
  filled_turn c.loop-bit.bit-items (λ i. c.args.l + c.args.d * i) c.loop-bit.bit-index _ (omega arith) c.loop-bit.invariant.0 c.loop-bit.invariant.1,
)

pub returns : goal.returns
returns c =
    laid_from (rising_bit c.args.l c.args.d c.args.k) 3 c.args.k places c.loop-bit.bit-items (omega arith) (omega arith)
    (rising_low c.args.l c.args.d c.args.k)
    (λ i h. c.loop-bit.invariant.1 i (omega arith) ∙ ap (λ (z : ℕ). c.args.l + c.args.d * z) (omega arith) ∙ sym (rising_high c.args.l c.args.d c.args.k (c.args.k + i) (omega arith)))
