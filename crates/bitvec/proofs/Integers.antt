-- Integers of 64 bits: the difference of two natural numbers, and the sign and magnitude of a number.
use Rattle.std.proofs.Common.{◌≡◌, ℕ, zero, suc, ◌-◌, ◌^◌, ◌<◌, ◌≤◌, Bool, true, false, T, ltb, ℤ, pos, negsuc, ◌-ℤ◌, nat_abs, sym, refl, ap, subst, arith, w32, w64, Fits, SFits, to_z, of_z, ltb-false, ltb-true, le-ltb, lt-ltb}
use lib.Signed.{lt_z, non_neg}
use Rattle.bitvec.specs.ByArithmetic.{whole_of}
use Rattle.bitvec.specs.declared.Whole.{Whole}

-- what the machine reads back from the 64 bits of a number; where they hold it, that is the number (`to_z-of_z w64`)
abbrev pub back : ℤ → ℤ
back z = to_z w64 (of_z w64 z)

-- a difference of natural numbers, by which of them is less
pub minus_high : (m n : ℕ) → n ≤ m → pos m -ℤ pos n ≡ pos (m - n)
minus_high m zero l = ap pos (omega arith)
minus_high m (suc k) l = rw (le-ltb m (suc k) l)

pub minus_low : (m n : ℕ) → m < n → pos m -ℤ pos n ≡ negsuc (n - suc m)
minus_low m zero l = absurd (omega arith)
minus_low m (suc k) l = rw (lt-ltb m (suc k) l)

-- what holds of a difference in both cases holds of it
by_order : (P : ℤ → Type 0) (m n : ℕ) → (n ≤ m → P (pos (m - n))) → (m < n → P (negsuc (n - suc m))) → P (pos m -ℤ pos n)
by_order P m n f g = pick (ltb m n) refl
  where
    pick : (t : Bool) → ltb m n ≡ t → P (pos m -ℤ pos n)
    pick true e = subst P (sym (minus_low m n (ltb-true m n e))) (g (ltb-true m n e))
    pick false e = subst P (sym (minus_high m n (ltb-false m n e))) (f (ltb-false m n e))

-- the difference of two numbers of 32 bits fits 64
pub minus_fits : (m n : ℕ) → m < 2 ^ 32 → n < 2 ^ 32 → SFits w64 (pos m -ℤ pos n)
minus_fits m n h k = by_order (SFits w64) m n (λ l. record { sfits = omega arith }) (λ l. record { sfits = omega arith })

-- and its magnitude fits 32
pub minus_magnitude : (m n : ℕ) → m < 2 ^ 32 → n < 2 ^ 32 → nat_abs (pos m -ℤ pos n) < 2 ^ 32
minus_magnitude m n h k = by_order (λ (z : ℤ). nat_abs z < 2 ^ 32) m n (λ l. omega arith) (λ l. omega arith)

-- a number below 0: its opposite is a natural number, which is its magnitude
pub opposite-fits : (n : ℤ) → lt_z n (pos 0) ≡ true → nat_abs n < 2 ^ 32 → SFits w64 (pos 0 -ℤ n)
opposite-fits (pos n) b l = absurd (omega (arith, ltb-true n 0 b))
opposite-fits (negsuc n) b l = record { sfits = omega arith }

pub opposite_natural : (n : ℤ) → lt_z n (pos 0) ≡ true → nat_abs n < 2 ^ 32 → T (non_neg (pos 0 -ℤ n)) × Fits w32 (nat_abs (pos 0 -ℤ n))
opposite_natural (pos n) b l = absurd (omega (arith, ltb-true n 0 b))
opposite_natural (negsuc n) b l = (tt, record { fits = omega arith })

pub opposite-magnitude : (n : ℤ) → lt_z n (pos 0) ≡ true → Whole.Negative (nat_abs (pos 0 -ℤ n)) ≡ whole_of n
unfolding whole_of
opposite-magnitude (pos n) b = absurd (omega (arith, ltb-true n 0 b))
opposite-magnitude (negsuc n) b = ap Whole.Negative (omega arith)

-- any other number is a natural one already
pub natural : (n : ℤ) → lt_z n (pos 0) ≡ false → nat_abs n < 2 ^ 32 → T (non_neg n) × Fits w32 (nat_abs n)
natural (pos n) b l = (tt, record { fits = l })
natural (negsuc n) b l = let z : ◌≡◌ {A = Bool} true false = b in absurd (subst T z tt)

pub natural_magnitude : (n : ℤ) → lt_z n (pos 0) ≡ false → Whole.Natural (nat_abs n) ≡ whole_of n
unfolding whole_of
natural_magnitude (pos n) b = refl
natural_magnitude (negsuc n) b = let z : ◌≡◌ {A = Bool} true false = b in absurd (subst T z tt)
