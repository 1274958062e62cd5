-- The ten relations are SMT-LIB's, at every width.
use Rattle.std.proofs.Common.{◌≡◌, ℕ, zero, suc, ◌-◌, ◌/◌, ◌^◌, ◌<◌, ◌≤◌, Bool, true, false, not, ◌&&◌, ◌||◌, eqb, ltb, leb, sym, refl, ap, ◌∙◌, mod-lt, arith, pow_pos, ltb-false, ltb-true, le-ltb, lt-ltb, eq-eqb, ne_eqb, eqb-true, leb-false, leb-true}
use native.Mathlib.Nat.{div-eq_of_lt, div-eq-sub-div}
use borrow.Author.Tests.{eqb-false}
use Rattle.bitvec.specs.Relation.{relates}
use Rattle.bitvec.specs.Signed.{signed, less}
use Rattle.bitvec.specs.SmtLib.{top_bit, bvult, bvule, bvugt, bvuge, bvslt, bvsle, bvsgt, bvsge, smt_lib}
use Rattle.bitvec.proofs.Laws.{signed_low, signed_high}
use Rattle.bitvec.proofs.Powers.{two_halves}

-- at most is not above
not_above : (a b : ℕ) → not (ltb b a) ≡ leb a b
not_above a b = pick (leb a b) refl
  where
    pick : (t : Bool) → leb a b ≡ t → not (ltb b a) ≡ t
    pick true e = ap not (le-ltb b a (leb-true a b e))
    pick false e = ap not (lt-ltb b a (leb-false a b e))

-- at most is below or the same
below_or_same : (a b : ℕ) → leb a b ≡ (ltb a b || eqb a b)
below_or_same a b = pick (leb a b) refl (eqb a b) refl
  where
    pick : (s : Bool) → leb a b ≡ s → (t : Bool) → eqb a b ≡ t → s ≡ (ltb a b || t)
    pick true p true q = rw (le-ltb a b (omega (arith, eqb-true a b q))) refl
    pick true p false q = rw (lt-ltb a b (omega (arith, leb-true a b p, eqb-false a b q))) refl
    pick false p true q = absurd (omega (arith, leb-false a b p, eqb-true a b q))
    pick false p false q = rw (le-ltb a b (omega (arith, leb-false a b p))) refl

same_swapped : (a b : ℕ) → eqb b a ≡ eqb a b
same_swapped a b = pick (eqb a b) refl
  where
    pick : (t : Bool) → eqb a b ≡ t → eqb b a ≡ t
    pick true e = eq-eqb b a (sym (eqb-true a b e))
    pick false e = ne_eqb b a (λ q. eqb-false a b e (sym q))

-- what is taken away from the same number goes the other way
mirrored : (p a b : ℕ) → a < p → b < p → ltb (p - b) (p - a) ≡ ltb a b
mirrored p a b k l = pick (ltb a b) refl
  where
    pick : (t : Bool) → ltb a b ≡ t → ltb (p - b) (p - a) ≡ t
    pick true e = lt-ltb (p - b) (p - a) (omega (arith, ltb-true a b e))
    pick false e = le-ltb (p - b) (p - a) (omega (arith, ltb-false a b e))

-- the top bit says in which half the word lies
top-low : (w a : ℕ) → a < 2 ^ (w - 1) → top_bit w a ≡ 0
unfolding top_bit
top-low w a l = rw (div-eq_of_lt l) refl

top-high : (w a : ℕ) → 1 ≤ w → 2 ^ (w - 1) ≤ a → a < 2 ^ w → top_bit w a ≡ 1
unfolding top_bit
top-high w a z h l =
    let r : a - 2 ^ (w - 1) < 2 ^ (w - 1) = omega (arith, two_halves w z) in
    rw (div-eq-sub-div (pow_pos (w - 1)) h, div-eq_of_lt r) refl

top_bit_lem : (w a : ℕ) → top_bit w a < 2
unfolding top_bit
top_bit_lem w a = mod-lt (a / 2 ^ (w - 1)) (omega arith)

-- of words with the top bits s and t: b is not below a as signed words where a is at most b
not_below : (s t a b : ℕ) → s < 2 → t < 2
    → not (eqb t 1 && eqb s 0 || eqb t s && ltb b a) ≡ (eqb s 1 && eqb t 0 || eqb s t && (ltb a b || eqb a b))
not_below zero zero a b i j = not_above a b ∙ below_or_same a b
not_below zero (suc zero) a b i j = refl
not_below zero (suc (suc t)) a b i j = absurd (omega arith)
not_below (suc zero) zero a b i j = refl
not_below (suc zero) (suc zero) a b i j = not_above a b ∙ below_or_same a b
not_below (suc zero) (suc (suc t)) a b i j = absurd (omega arith)
not_below (suc (suc s)) t a b i j = absurd (omega arith)

-- a <s b, by the halves in which the two words lie
less-signed : (w a b : ℕ) → 1 ≤ w → a < 2 ^ w → b < 2 ^ w → less (signed w a) (signed w b) ≡ bvslt w a b
unfolding less bvslt bvult
less-signed w a b z k l = pick (ltb a (2 ^ (w - 1))) refl (ltb b (2 ^ (w - 1))) refl
  where
    pick : (s : Bool) → ltb a (2 ^ (w - 1)) ≡ s → (t : Bool) → ltb b (2 ^ (w - 1)) ≡ t → less (signed w a) (signed w b) ≡ bvslt w a b
    pick true p true q =
        let x = ltb-true a _ p in
        let y = ltb-true b _ q in
        rw (signed_low w a x, signed_low w b y, top-low w a x, top-low w b y) refl
    pick true p false q =
        let x = ltb-true a _ p in
        let y = ltb-false b _ q in
        rw (signed_low w a x, signed_high w b y l, top-low w a x, top-high w b z y l) refl
    pick false p true q =
        let x = ltb-false a _ p in
        let y = ltb-true b _ q in
        rw (signed_high w a x k, signed_low w b y, top-high w a z x k, top-low w b y) refl
    pick false p false q =
        let x = ltb-false a _ p in
        let y = ltb-false b _ q in
        rw (signed_high w a x k, signed_high w b y l, top-high w a z x k, top-high w b z y l) (mirrored (2 ^ w) a b k l)

-- a ≤s b, which the definition says as: not b <s a
at_most_signed : (w a b : ℕ) → 1 ≤ w → a < 2 ^ w → b < 2 ^ w → not (less (signed w b) (signed w a)) ≡ bvsle w a b
unfolding bvslt bvsle bvult bvule
at_most_signed w a b z k l = ap not (less-signed w b a z l k) ∙ not_below (top_bit w a) (top_bit w b) a b (top_bit_lem w a) (top_bit_lem w b)

-- every relation says of two words of any width what SMT-LIB's says
pub relates_smt_lib : (r w a b : ℕ) → 1 ≤ w → a < 2 ^ w → b < 2 ^ w → relates r w a b ≡ smt_lib r w a b
unfolding relates smt_lib bvult bvule bvugt bvuge bvsgt bvsge
relates_smt_lib r w a b z k l =
    rw (
      at_most_signed w a b z k l,
      at_most_signed w b a z l k,
      less-signed w a b z k l,
      less-signed w b a z l k,
      below_or_same a b,
      below_or_same b a,
      same_swapped a b,
    ) refl
