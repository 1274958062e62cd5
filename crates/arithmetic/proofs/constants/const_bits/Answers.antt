use Rattle.std.proofs.Common.{ap, arith, ◌-◌, ◌%◌, sym, ℕ}
use native.Mathlib.Nat.{div-one}
use Rattle.arithmetic.proofs.Laws.{filled_turn, halved}
use Rattle.arithmetic.proofs.Values.{tabulate_ext}
use Rattle.arithmetic.specs.Bits.{places}
use Rattle.arithmetic.specs.Extend.{const_bit}
use Rattle.arithmetic.proofs.constants.const_bits.Goals as goal

pub loop-bit-init : goal.loop-bit-init
loop-bit-init c = (sym (div-one _), λ i h. absurd (omega arith))

pub loop-bit-preserved : goal.loop-bit-preserved
loop-bit-preserved c = (
  halved c.args.c c.loop-bit.bit-index c.loop-bit.invariant.0,
  filled_turn c.loop-bit.bit-items (const_bit c.args.c) c.loop-bit.bit-index _ (omega arith) (ap (λ (z : ℕ). 3 - z % 2) c.loop-bit.invariant.0) c.loop-bit.invariant.1,
)

pub returns : goal.returns
returns c = tabulate_ext _ _ places (omega arith) (λ i h. c.loop-bit.invariant.1 i (omega arith))
