-- An index against an array's size: what the literals of the top bit and of "above" say of where the index lies. Assumes nothing.
use Rattle.std.proofs.Common.{Option, None, Some}
use mathlib.Core.Path.{◌≡◌, refl, sym, ◌∙◌}
use mathlib.Core.Logic.{◌↔◌}
use mathlib.Core.Bool.{Bool, true, false, cond, not, ◌&&◌}
use Prim.Native.Nat.{ℕ, zero, suc, ◌-◌, ◌^◌, ◌<◌, ◌≤◌}
use native.Mathlib.Nat.{mod-eq_of_lt}
use native.Mathlib.Omega.{arith}
use lib.Dec.{ltb, leb}
use Rattle.bitvec.specs.Signed.{signed}
use Rattle.bitvec.specs.declared.Whole.{Whole}
use Rattle.run_state.specs.Side.{is_on}
use Rattle.run_state.specs.State.{lies}
use Rattle.run_state.specs.declared.Side.{Side}
use Rattle.run_state.specs.declared.Side.TheVariants.{Below, Above}
use Rattle.cnf.specs.Meaning.{Assign, lit}
use Rattle.netlist.specs.Meaning.{Inputs}
use Rattle.netlist.proofs.Truth.{Models}
use Rattle.arithmetic.specs.Bits.{Bits}
use Rattle.comparison.specs.Access.{above}
use Rattle.arithmetic.proofs.Values.{not_less, value, value_lt, top-value}
use Rattle.comparison.proofs.Access.{above-value}
use Rattle.translation_access.specs.Index.{top, claim}

-- not negative and below the size, at or above it, or negative: p says that the index is not negative, q that it is not below the size
abbrev pub placed : (p q : Bool) → Option Side
placed p q = cond p (cond q (Some Above) None) (Some Below)

lies_whole : (p : Bool) (size x n : ℕ) → lies size (cond p (Whole.Natural x) (Whole.Negative n)) ≡ placed p (leb size x)
unfolding lies
lies_whole true size x n = refl
lies_whole false size x n = refl

pub lies_placed : (w x size : ℕ) → x < 2 ^ w → lies size (signed w x) ≡ placed (ltb x (2 ^ (w - 1))) (leb size x)
unfolding signed
lies_placed w x size l = rw (mod-eq_of_lt l) (lies_whole (ltb x (2 ^ (w - 1))) size x (2 ^ w - x))

-- the index is inside where b is true, and outside where it is false
pub data Entered (l : Option Side) (b : Bool) : Type 0 where
  within : l ≡ None → b ≡ true → Entered l b
  outside : (side : Side) → l ≡ Some side → b ≡ false → Entered l b

entered_placed : (p q : Bool) → Entered (placed p q) (not (not p) && not (p && q))
entered_placed true true = outside Above refl refl
entered_placed true false = within refl refl
entered_placed false q = outside Below refl refl

below_placed : (p q : Bool) → (not p ≡ true) ↔ (is_on 0 (placed p q) ≡ true)
below_placed true true = ((λ e. let z : ◌≡◌ {A = ℕ} 0 1 = cc in absurd (omega arith)), (λ e. let z : ◌≡◌ {A = ℕ} 0 1 = cc in absurd (omega arith)))
below_placed true false = ((λ e. let z : ◌≡◌ {A = ℕ} 0 1 = cc in absurd (omega arith)), (λ e. let z : ◌≡◌ {A = ℕ} 0 1 = cc in absurd (omega arith)))
below_placed false q = ((λ e. refl), (λ e. refl))

above_placed : (p q : Bool) → ((p && q) ≡ true) ↔ (is_on 1 (placed p q) ≡ true)
above_placed true true = ((λ e. refl), (λ e. refl))
above_placed true false = ((λ e. let z : ◌≡◌ {A = ℕ} 0 1 = cc in absurd (omega arith)), (λ e. let z : ◌≡◌ {A = ℕ} 0 1 = cc in absurd (omega arith)))
above_placed false q = ((λ e. let z : ◌≡◌ {A = ℕ} 0 1 = cc in absurd (omega arith)), (λ e. let z : ◌≡◌ {A = ℕ} 0 1 = cc in absurd (omega arith)))

module _ (ins : Inputs) (ρ : Assign) (o : ρ 1 ≡ true) (a : Bits) (size w : ℕ) (z : 0 < w) where
  -- the index, whether it is not negative, and whether it is not below the size
  abbrev index : ℕ
  index = value ρ a w

  abbrev natural : Bool
  natural = ltb index (2 ^ (w - 1))

  top_says : lit ρ (top a w) ≡ not natural
  top_says = top-value ρ a w z ∙ sym (not_less index (2 ^ (w - 1)))

  lies_says : lies size (signed w index) ≡ placed natural (leb size index)
  lies_says = lies_placed w index size (value_lt ρ a w)

  -- inside: not below and not above
  pub inside_says : (g : ℕ) → Models ins ρ g (above g a size w).nodes
      → Entered (lies size (signed w index)) (not (lit ρ (top a w)) && not (lit ρ (above g a size w).lit))
  inside_says g m = rw (lies_says, top_says, above-value ins ρ g a size w z o m) (entered_placed natural (leb size index))

  -- the literal of the side
  pub side_says : (side g : ℕ) → side ≤ 1 → Models ins ρ g (claim side g a size w).nodes
      → (lit ρ (claim side g a size w).lit ≡ true) ↔ (is_on side (lies size (signed w index)) ≡ true)
  unfolding claim
  side_says zero g l m = rw (lies_says, top_says) (below_placed natural (leb size index))
  side_says (suc zero) g l m = rw (lies_says, above-value ins ρ g a size w z o m) (above_placed natural (leb size index))
  side_says (suc (suc n)) g l m = absurd (omega arith)
