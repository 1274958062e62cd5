-- The signed reading of a word by arithmetic, note 3 of document 02: no test of the top bit.
use Rattle.std.specs.Prelude.{◌≡◌, ℕ, suc, ◌-◌, ◌^◌, ℤ, pos, negsuc, ◌-ℤ◌}
use Rattle.bitvec.specs.Word.{add}
use Rattle.bitvec.specs.Signed.{signed}
use Rattle.bitvec.specs.declared.Whole.{Whole}

-- half the range is added, the sum reduced to w bits, and half the range taken away
unfoldable pub by_arithmetic : (w a : ℕ) → ℤ
by_arithmetic w a = pos (add w a (2 ^ (w - 1))) -ℤ pos (2 ^ (w - 1))

-- a number by its sign and magnitude: `negsuc n` is -(n + 1)
unfoldable pub whole_of : ℤ → Whole
whole_of (pos n) = Whole.Natural n
whole_of (negsuc n) = Whole.Negative (suc n)

-- note 3's law: whatever is read at width w, the number by arithmetic is the two's complement number
pub record TwosComplement (w : ℕ) : Type 0 where
  pub equal : (a : ℕ) → whole_of (by_arithmetic w a) ≡ signed w a
