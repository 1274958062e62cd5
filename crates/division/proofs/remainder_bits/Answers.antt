use mathlib.Core.Path.{◌∙◌}
use Prim.Native.Nat.{◌*◌, ◌+◌, ◌-◌, ◌≤◌, suc, ℕ}
use native.Mathlib.Omega.{arith}
use Rattle.division.proofs.Division.{last_chosen, steps-within}
use Rattle.arithmetic.proofs.Laws.{tabulate_cong}
use Rattle.arithmetic.specs.Bits.{places}
use Rattle.division.proofs.remainder_bits.Goals as goal

-- the last step's variables are the division's
below : (w : ℕ) → 1 ≤ w → 4 * suc w * (w - 1) + 4 * suc w ≤ 4 * suc w * w
below w h = steps-within (4 * suc w) (w - 1) w (omega arith)

pub overflow_mul-size-2 : goal.overflow_mul-size-2
overflow_mul-size-2 c = omega (arith, below c.args.w c.requires.1, c.requires.0)

pub returns : goal.returns
returns c = c.input_bits.ensures ∙ tabulate_cong _ _ places (λ j. last_chosen c.args.g c.args.w j c.requires.1)
