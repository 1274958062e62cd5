-- Laws of the division of words, each one proof for every width.
use Rattle.std.proofs.Common.{◌≡◌, ℕ, ◌+◌, ◌-◌, ◌*◌, ◌/◌, ◌%◌, ◌^◌, ◌<◌, ◌≤◌, Bool, true, false, eqb, refl, ap, ◌∙◌, subst, lt_of_le_of_lt, mod-lt, mod-eq_of_lt, div-add-mod', div-le_self, arith, pow_pos, ne_eqb}
use native.Mathlib.Nat.{sub-zero, mod-le}
use lib.Arith.{digits_div, digits_mod}
use lib.Pow.{ones_lt, not_mod}
use Rattle.bitvec.specs.Word.{quotient, remainder}

-- what is kept in w bits of 32 ones: w ones
pub ones_reduced : (w : ℕ) → w ≤ 32 → (2 ^ 32 - 1) % 2 ^ w ≡ 2 ^ w - 1
ones_reduced w l =
    let q : 32 - w + w ≡ 32 = omega arith in
    let ones = not_mod {a = 0} (32 - w) w (pow_pos w) in
    subst (λ (m : ℕ). (2 ^ m - 1) % 2 ^ w ≡ 2 ^ w - 1) q (rw (sub-zero (2 ^ (32 - w + w) - 1), sub-zero (2 ^ w - 1)) at ones)

-- every result is a word of its width
pub quotient-below : (w a b : ℕ) → quotient w a b < 2 ^ w
unfolding quotient
quotient-below w a b = pick (eqb b 0) refl
  where
    pick : (t : Bool) → eqb b 0 ≡ t → quotient w a b < 2 ^ w
    pick true e = rw e (ones_lt w)
    pick false e = rw e (mod-lt (a / b) (pow_pos w))

pub remainder-below : (w a b : ℕ) → remainder w a b < 2 ^ w
unfolding remainder
remainder-below w a b = pick (eqb b 0) refl
  where
    pick : (t : Bool) → eqb b 0 ≡ t → remainder w a b < 2 ^ w
    pick true e = rw e (mod-lt a (pow_pos w))
    pick false e = rw e (mod-lt (a % b) (pow_pos w))

-- a word divided by 0
pub quotient_zero : (w a : ℕ) → quotient w a 0 ≡ 2 ^ w - 1
unfolding quotient
quotient_zero w a = refl

pub remainder_zero : (w a : ℕ) → a < 2 ^ w → remainder w a 0 ≡ a
unfolding remainder
remainder_zero w a l = mod-eq_of_lt l

-- a word divided by another number: nothing is cut off
pub quotient_uncut : (w a b : ℕ) → a < 2 ^ w → 0 < b → quotient w a b ≡ a / b
unfolding quotient
quotient_uncut w a b l z = rw (ne_eqb b 0 (omega arith)) (mod-eq_of_lt (lt_of_le_of_lt (div-le_self a b) l))

pub remainder_uncut : (w a b : ℕ) → a < 2 ^ w → 0 < b → remainder w a b ≡ a % b
unfolding remainder
remainder_uncut w a b l z = rw (ne_eqb b 0 (omega arith)) (mod-eq_of_lt (lt_of_le_of_lt (mod-le a b) l))

-- the quotient times the divisor, with a remainder below the divisor, is the dividend
pub divided : (w a b : ℕ) → a < 2 ^ w → 0 < b → (quotient w a b * b + remainder w a b ≡ a) × (remainder w a b < b)
divided w a b l z = rw (quotient_uncut w a b l z, remainder_uncut w a b l z) (div-add-mod' a b, mod-lt a z)

-- no other two numbers make the dividend so
pub quotient_is : (w a b q r : ℕ) → a < 2 ^ w → a ≡ q * b + r → r < b → quotient w a b ≡ q
quotient_is w a b q r l e h = quotient_uncut w a b l (omega arith) ∙ ap (λ (n : ℕ). n / b) e ∙ digits_div q h

pub remainder_is : (w a b q r : ℕ) → a < 2 ^ w → a ≡ q * b + r → r < b → remainder w a b ≡ r
remainder_is w a b q r l e h = remainder_uncut w a b l (omega arith) ∙ ap (λ (n : ℕ). n % b) e ∙ digits_mod q h
