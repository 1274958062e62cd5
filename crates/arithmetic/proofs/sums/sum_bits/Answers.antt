use mathlib.Core.Path.{◌∙◌}
use Prim.Native.Nat.{◌*◌, ◌+◌}
use native.Mathlib.Omega.{arith}
use Rattle.arithmetic.proofs.Laws.{rising_high, tabulate_cong}
use Rattle.arithmetic.specs.Bits.{places}
use Rattle.arithmetic.proofs.sums.sum_bits.Goals as goal

pub returns : goal.returns
returns c =
    c.rising.ensures ∙ tabulate_cong _ _ places (λ j. rising_high (2 * c.args.g + 2) 6 0 j (omega arith) ∙ (omega arith))
