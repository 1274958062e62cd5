-- The literal "above" says whether the index is above.
use mathlib.Core.Bool.{Bool, ◌&&◌, cond, false, not, true}
use mathlib.Core.Logic.{◌⊎◌, inl, inr}
use mathlib.Core.Path.{◌∙◌, ◌≡◌, ap, ap₂, refl, sym}
use Prim.Native.Nat.{◌*◌, ◌+◌, ◌-◌, ◌/◌, ◌<◌, ◌^◌, ◌≤◌, ℕ}
use native.Mathlib.Nat.{div-eq_of_lt, div-lt_iff_lt-mul, lt_of_lt_of_le, one-mul}
use native.Mathlib.Omega.{arith}
use lib.Dec.{leb, ltb}
use lib.ListN.{length}
use lib.Pow.{pow_mono, pow_pos}
use borrow.Author.Tests.{le-ltb, lt-leb, lt-ltb, ltb-false, ltb-true}
use Rattle.bitvec.proofs.Reading.{distance}
use Rattle.comparison.proofs.Compare.{signed-formed, signed-value, size_less}
use Rattle.arithmetic.proofs.Extend.{const_before, const_word}
use Rattle.arithmetic.proofs.Values.{AllBefore, not_less, order, value, value_lt}
use Rattle.comparison.specs.Access.{above, beyond}
use Rattle.arithmetic.specs.Circuit.{Predicate, never}
use Rattle.comparison.proofs.Relating.{below-before, below_length}
use Rattle.arithmetic.specs.Adder.{flipped}
use Rattle.arithmetic.specs.Bits.{Bits}
use Rattle.comparison.specs.Compare.{at_least_signed}
use Rattle.arithmetic.specs.Extend.{const_bit}
use Rattle.netlist.proofs.Formed.{before-neg, before-opp}
use Rattle.netlist.proofs.Literals.{lit_false, lit-opp}
use Rattle.netlist.proofs.Model.{Before, WellFormed}
use Rattle.netlist.proofs.Truth.{Models}
use Rattle.cnf.specs.Meaning.{Assign, lit}
use Rattle.netlist.specs.Meaning.{Inputs}

-- the signed index is at or above the size: not negative, and not below it
abbrev pub is_above : ℕ → ℕ → ℕ → Bool
is_above w x size = ltb x (2 ^ (w - 1)) && leb size x

negated : (t u : Bool) → not (cond t u true) ≡ (t && not u)
negated true u = refl
negated false u = refl

above-beyond : (w x s : ℕ) → 2 ^ (w - 1) ≤ s → is_above w x s ≡ false
above-beyond w x s h = pick (order x (2 ^ (w - 1)))
  where
    pick : (x < 2 ^ (w - 1)) ⊎ (2 ^ (w - 1) ≤ x) → is_above w x s ≡ false
    pick (inl l) = ap₂ (λ (a b : Bool). a && b) (lt-ltb x (2 ^ (w - 1)) l) (lt-leb s x (omega arith))
    pick (inr l) = ap (λ (a : Bool). a && leb s x) (le-ltb x (2 ^ (w - 1)) l)

small : (s p : ℕ) → 0 < p → s / p ≤ 0 → s < p
small s p z h = rw one-mul at ((div-lt_iff_lt-mul {k = p} {x = s} {y = 1} z).0 (omega arith))

large : (s p : ℕ) → 0 < s / p → p ≤ s
large s p h = pick (order s p)
  where
    pick : (s < p) ⊎ (p ≤ s) → p ≤ s
    pick (inl l) = absurd (omega (arith, div-eq_of_lt l))
    pick (inr l) = l

-- the condition, by whether the size is beyond every index
abbrev choice : ℕ → Bits → ℕ → ℕ → Bool → Predicate
choice g a size w t = cond t never (at_least_signed g a (const_bit size) w)

-- the literal says whether the index is above
pub above-value : (ins : Inputs) (ρ : Assign) (g : ℕ) (a : Bits) (size w : ℕ) → 0 < w → ρ 1 ≡ true → Models ins ρ g (above g a size w).nodes
    → lit ρ (above g a size w).lit ≡ is_above w (value ρ a w) size
above-value ins ρ g a size w z o m = pick (beyond size w) refl m
  where
    x : ℕ
    x = value ρ a w

    pick : (t : Bool) → beyond size w ≡ t → Models ins ρ g (choice g a size w t).nodes → lit ρ (choice g a size w t).lit ≡ is_above w x size
    pick true e k = lit_false ρ o ∙ sym (above-beyond w x size (large size (2 ^ (w - 1)) (ltb-true 0 (size / 2 ^ (w - 1)) e)))
    pick false e k =
        let l : size < 2 ^ (w - 1) = small size (2 ^ (w - 1)) (pow_pos (w - 1)) (ltb-false 0 (size / 2 ^ (w - 1)) e) in
        let v : value ρ (const_bit size) w ≡ size = const_word ρ size w o (lt_of_lt_of_le l (pow_mono (omega arith))) in
        lit-opp ρ _
        ∙ ap not (signed-value ins ρ g a (const_bit size) w z o k ∙ ap (λ (y : ℕ). ltb (distance w x) (distance w y)) v ∙ size_less w x size z (value_lt ρ a w) l)
        ∙ negated (ltb x (2 ^ (w - 1))) (ltb x size)
        ∙ ap (λ (b : Bool). ltb x (2 ^ (w - 1)) && b) (not_less x size)

module _ (g : ℕ) (a : Bits) (size w : ℕ) where
  pub above-short : length (above g a size w).nodes ≤ 3 * w
  above-short = pick (beyond size w)
    where
      pick : (t : Bool) → length (choice g a size w t).nodes ≤ 3 * w
      pick true = omega arith
      pick false = omega (arith, below_length g (flipped (w - 1) a) (flipped (w - 1) (const_bit size)) w)

  pub above-formed : 1 < g → AllBefore g a w → WellFormed g (above g a size w).nodes
  above-formed o h = pick (beyond size w)
    where
      pick : (t : Bool) → WellFormed g (choice g a size w t).nodes
      pick true = tt
      pick false = signed-formed g a (const_bit size) w o h (const_before g size w o)

  pub above_before : 1 < g → Before (g + length (above g a size w).nodes) (above g a size w).lit
  above_before o = pick (beyond size w)
    where
      pick : (t : Bool) → Before (g + length (choice g a size w t).nodes) (choice g a size w t).lit
      pick true = before-neg _ 1 (omega arith) (omega arith)
      pick false = before-opp (below-before g (flipped (w - 1) a) (flipped (w - 1) (const_bit size)) w o)
