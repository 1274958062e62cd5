use Rattle.std.proofs.Common.{◌≡◌, ℕ, ◌^◌, ◌<◌, ◌≤◌, ℤ, nat_abs, sym, ap, ◌∙◌, subst}
use Rattle.bitvec.specs.Signed.{signed}
use Rattle.bitvec.specs.ByArithmetic.{by_arithmetic, whole_of, TwosComplement}
use Rattle.bitvec.specs.declared.Whole.{Whole}
use Rattle.bitvec.proofs.Integers.{back}
use Rattle.bitvec.proofs.Reading.{arithmetic_back, arithmetic_magnitude}
use Rattle.bitvec.proofs.signed.reading.Goals as goal

-- `reading` tells the number by its sign and magnitude, which note 3's law, promised with the number, says is the signed reading.
-- n is what `by_arithmetic` gave
module _ (w a : ℕ) (n : ℤ) (u : w ≤ 32) (e : n ≡ by_arithmetic w a) where
  same : back n ≡ by_arithmetic w a
  same = ap back e ∙ arithmetic_back w a u

  small : nat_abs (back n) < 2 ^ 32
  small = subst (λ (z : ℤ). nat_abs z < 2 ^ 32) (sym same) (arithmetic_magnitude w a u)

  told : (r : Whole) → r ≡ whole_of (back n) → TwosComplement w → r ≡ signed w a
  told r m t = m ∙ ap whole_of same ∙ t.equal a

pub whole_of-requires : goal.whole_of-requires
whole_of-requires c = small c.args.w c.args.a _ c.requires.1 c.by_arithmetic.ensures.value

pub returns : goal.returns
returns c =
    told c.args.w c.args.a _ c.requires.1 c.by_arithmetic.ensures.value _ c.whole_of.ensures c.by_arithmetic.ensures.twos_complement
