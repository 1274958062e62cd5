-- The signed reading by arithmetic is the two's complement number, one proof for every width; and 64 bits hold it at the widths up to 32.
use Rattle.std.proofs.Common.{◌≡◌, ℕ, suc, ◌+◌, ◌-◌, ◌%◌, ◌^◌, ◌<◌, ◌≤◌, Bool, true, false, ltb, pos, negsuc, ◌-ℤ◌, nat_abs, sym, refl, ap, ◌∙◌, lt_of_lt_of_le, mod-lt, mod-eq_of_lt, arith, pow_pos, pow_mono, w64, ltb-false, ltb-true}
use native.Mathlib.Nat.{mod-eq-sub-mod, mod-add-mod}
use mir.ValLaws.{to_z-of_z}
use Rattle.bitvec.specs.Word.{add}
use Rattle.bitvec.specs.Signed.{signed}
use Rattle.bitvec.specs.ByArithmetic.{by_arithmetic, whole_of, TwosComplement}
use Rattle.bitvec.specs.declared.Whole.{Whole}
use Rattle.bitvec.proofs.Powers.{two_halves}
use Rattle.bitvec.proofs.Integers.{back, minus_fits, minus_high, minus_low, minus_magnitude}
use Rattle.bitvec.proofs.Laws.{add-below, reads_natural, reads_negative}

-- a number of w bits as its distance from the least signed number: half the range added, and reduced
abbrev pub distance : ℕ → ℕ → ℕ
distance w x = (x + 2 ^ (w - 1)) % 2 ^ w

module _ (w : ℕ) (k : 1 ≤ w) where
  -- the distance, by the top bit
  pub distance_low : (x : ℕ) → x < 2 ^ (w - 1) → distance w x ≡ x + 2 ^ (w - 1)
  distance_low x l = mod-eq_of_lt (omega (arith, two_halves w k))

  pub distance_high : (x : ℕ) → 2 ^ (w - 1) ≤ x → x < 2 ^ w → distance w x ≡ x - 2 ^ (w - 1)
  distance_high x l h =
      let e : x + 2 ^ (w - 1) - 2 ^ w ≡ x - 2 ^ (w - 1) = omega (arith, two_halves w k) in
      mod-eq-sub-mod (omega (arith, two_halves w k)) ∙ ap (λ (z : ℕ). z % 2 ^ w) e ∙ mod-eq_of_lt {n = x - 2 ^ (w - 1)} (omega arith)

  module _ (a : ℕ) where
    -- the number, by the distance of what is kept of a
    from : (x : ℕ) → distance w (a % 2 ^ w) ≡ x → by_arithmetic w a ≡ pos x -ℤ pos (2 ^ (w - 1))
    unfolding by_arithmetic add
    from x e = ap (λ (z : ℕ). pos z -ℤ pos (2 ^ (w - 1))) (sym (mod-add-mod a (2 ^ w) (2 ^ (w - 1))) ∙ e)

    low : a % 2 ^ w < 2 ^ (w - 1) → whole_of (by_arithmetic w a) ≡ signed w a
    unfolding whole_of
    low l =
        let h = 2 ^ (w - 1) in
        let n = a % 2 ^ w in
        let e : by_arithmetic w a ≡ pos n = from (n + h) (distance_low n l) ∙ minus_high (n + h) h (omega arith) ∙ ap pos (omega arith) in
        ap whole_of e ∙ sym (reads_natural w a l)

    high : 2 ^ (w - 1) ≤ a % 2 ^ w → whole_of (by_arithmetic w a) ≡ signed w a
    unfolding whole_of
    high l =
        let h = 2 ^ (w - 1) in
        let n = a % 2 ^ w in
        let m = mod-lt a (pow_pos w) in
        let e : by_arithmetic w a ≡ negsuc (h - suc (n - h)) = from (n - h) (distance_high n l m) ∙ minus_low (n - h) h (omega (arith, two_halves w k)) in
        let s : suc (h - suc (n - h)) ≡ 2 ^ w - n = omega (arith, two_halves w k) in
        ap whole_of e ∙ ap Whole.Negative s ∙ sym (reads_negative w a l)

  -- the law of note 3
  pub twos_complement : TwosComplement w
  twos_complement = record { equal = λ a. pick a (ltb (a % 2 ^ w) (2 ^ (w - 1))) refl }
    where
      pick : (a : ℕ) (t : Bool) → ltb (a % 2 ^ w) (2 ^ (w - 1)) ≡ t → whole_of (by_arithmetic w a) ≡ signed w a
      pick a true e = low a (ltb-true _ _ e)
      pick a false e = high a (ltb-false _ _ e)

-- half the range, and what is reduced, at the widths up to 32
module _ (w a : ℕ) (u : w ≤ 32) where
  half-below : 2 ^ (w - 1) < 2 ^ 32
  half-below = omega (arith, pow_mono {i = w - 1} {j = 31} (omega arith))

  sum_below : add w a (2 ^ (w - 1)) < 2 ^ 32
  sum_below = lt_of_lt_of_le (add-below w a (2 ^ (w - 1))) (pow_mono u)

  -- 64 bits hold the number, and its magnitude fits 32
  pub arithmetic_back : back (by_arithmetic w a) ≡ by_arithmetic w a
  unfolding by_arithmetic
  arithmetic_back = to_z-of_z w64 _ (minus_fits (add w a (2 ^ (w - 1))) (2 ^ (w - 1)) sum_below half-below)

  pub arithmetic_magnitude : nat_abs (by_arithmetic w a) < 2 ^ 32
  unfolding by_arithmetic
  arithmetic_magnitude = minus_magnitude (add w a (2 ^ (w - 1))) (2 ^ (w - 1)) sum_below half-below
