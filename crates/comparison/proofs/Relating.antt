-- The ten relations: what their literals say, how many gates they take, and well-formedness.
use mathlib.Core.Bool.{Bool, cond, false, not, true}
use mathlib.Core.Logic.{◌⊎◌, inl, inr}
use mathlib.Core.Path.{◌∙◌, ◌≡◌, ap, ap₂, subst, sym}
use Prim.Native.Nat.{◌*◌, ◌+◌, ◌-◌, ◌<◌, ◌^◌, ◌≤◌, ℕ}
use native.Mathlib.Omega.{arith}
use lib.Dec.{eqb, ltb}
use lib.ListN.{length}
use borrow.Author.Tests.{le-ltb, lt-ltb}
use Rattle.bitvec.proofs.Laws.{signed_high, signed_low}
use Rattle.bitvec.proofs.Powers.{two_halves}
use Rattle.bitvec.proofs.Reading.{distance, distance_high, distance_low}
use Rattle.bitvec.specs.Relation.{relates}
use Rattle.bitvec.specs.Signed.{less, signed}
use Rattle.arithmetic.proofs.Adder.{carry_before, length-adder, less-value, subtractor-formed}
use Rattle.comparison.proofs.Compare.{equality-formed, equality-sized, equality-value, ltb_iff, same-before, signed-formed, signed-value}
use Rattle.arithmetic.proofs.Values.{AllBefore, not_less, order, value, value_lt}
use Rattle.arithmetic.specs.Adder.{flipped, opp_bits}
use Rattle.arithmetic.specs.Circuit.{Predicate, never, opposite}
use Rattle.arithmetic.specs.Bits.{Bits}
use Rattle.comparison.specs.Compare.{below, below_signed, same_at, same_number}
use Rattle.comparison.specs.Relation.{relation}
use Rattle.netlist.proofs.Formed.{before-neg, before-opp, before-pos}
use Rattle.netlist.proofs.Literals.{lit_false, lit-opp}
use Rattle.netlist.proofs.Model.{Before, WellFormed}
use Rattle.netlist.proofs.Truth.{Models}
use Rattle.cnf.specs.Meaning.{Assign, lit}
use Rattle.netlist.specs.Meaning.{Inputs}

module _ (w : ℕ) (z : 0 < w) where
  -- the distances from the least signed number are in the order of the signed numbers
  signed_order : (x y : ℕ) → x < 2 ^ w → y < 2 ^ w → ltb (distance w x) (distance w y) ≡ less (signed w x) (signed w y)
  unfolding less
  signed_order x y k l = pick (order x (2 ^ (w - 1))) (order y (2 ^ (w - 1)))
    where
      h : ℕ
      h = 2 ^ (w - 1)

      pick : (x < h) ⊎ (h ≤ x) → (y < h) ⊎ (h ≤ y) → ltb (distance w x) (distance w y) ≡ less (signed w x) (signed w y)
      pick (inl a) (inl b) =
          ap₂ ltb (distance_low w z x a) (distance_low w z y b)
          ∙ ltb_iff (x + h) (y + h) x y (λ q. omega arith) (λ q. omega arith)
          ∙ sym (ap₂ less (signed_low w x a) (signed_low w y b))
      pick (inl a) (inr b) =
          ap₂ ltb (distance_low w z x a) (distance_high w z y b l)
          ∙ le-ltb (x + h) (y - h) (omega (arith, two_halves w z))
          ∙ sym (ap₂ less (signed_low w x a) (signed_high w y b l))
      pick (inr a) (inl b) =
          ap₂ ltb (distance_high w z x a k) (distance_low w z y b)
          ∙ lt-ltb (x - h) (y + h) (omega (arith, two_halves w z))
          ∙ sym (ap₂ less (signed_high w x a k) (signed_low w y b))
      pick (inr a) (inr b) =
          ap₂ ltb (distance_high w z x a k) (distance_high w z y b l)
          ∙ ltb_iff (x - h) (y - h) (2 ^ w - y) (2 ^ w - x) (λ q. omega arith) (λ q. omega arith)
          ∙ sym (ap₂ less (signed_high w x a k) (signed_high w y b l))

-- what holds of both cases of a test holds of the case that it picks
case : (P : Predicate → Bool → Type 0) (t : Bool) {c c' : Predicate} {v v' : Bool} → P c v → P c' v' → P (cond t c c') (cond t v v')
case P true p q = p
case P false p q = q

-- What holds of equality and of the two orders, and of the opposite of what it holds of, and of none, holds of every relation.
by_relation : (P : Predicate → Bool → Type 0) → ((c : Predicate) (v : Bool) → P c v → P (opposite c) (not v))
    → (r g : ℕ) (a b : Bits) (w x y : ℕ)
    → P (same_number g a b w) (eqb x y)
    → P (below g a b w) (ltb x y)
    → P (below g b a w) (ltb y x)
    → P (below_signed g a b w) (less (signed w x) (signed w y))
    → P (below_signed g b a w) (less (signed w y) (signed w x))
    → P never false
    → P (relation r g a b w) (relates r w x y)
unfolding relation relates
by_relation P turn r g a b w x y same under over lower higher nought =
    case P (eqb r 0) same
    (case P (eqb r 1) (turn _ _ same)
    (case P (eqb r 2) under
    (case P (eqb r 3) (subst (P (opposite (below g b a w))) (not_less y x) (turn _ _ over))
    (case P (eqb r 4) over
    (case P (eqb r 5) (subst (P (opposite (below g a b w))) (not_less x y) (turn _ _ under))
    (case P (eqb r 6) lower
    (case P (eqb r 7) (turn _ _ higher)
    (case P (eqb r 8) higher
    (case P (eqb r 9) (turn _ _ lower) nought)))))))))

-- The literal says whether the relation holds of the two words.
pub relation-value : (ins : Inputs) (ρ : Assign) (r g : ℕ) (a b : Bits) (w : ℕ) → 0 < w → ρ 1 ≡ true → Models ins ρ g (relation r g a b w).nodes
    → lit ρ (relation r g a b w).lit ≡ relates r w (value ρ a w) (value ρ b w)
relation-value ins ρ r g a b w z o =
    by_relation (λ c v. Models ins ρ g c.nodes → lit ρ c.lit ≡ v) (λ c v p m. lit-opp ρ _ ∙ ap not (p m)) r g a b w (value ρ a w) (value ρ b w)
    (equality-value ins ρ g a b w o) (less-value ins ρ g a b w o) (less-value ins ρ g b a w o) (lower a b) (lower b a)
    (λ m. lit_false ρ o)
  where
    lower : (a b : Bits) → Models ins ρ g (below_signed g a b w).nodes → lit ρ (below_signed g a b w).lit ≡ less (signed w (value ρ a w)) (signed w (value ρ b w))
    lower a b m = signed-value ins ρ g a b w z o m ∙ signed_order w z (value ρ a w) (value ρ b w) (value_lt ρ a w) (value_lt ρ b w)

pub below_length : (g : ℕ) (a b : Bits) (w : ℕ) → length (below g a b w).nodes ≡ 3 * w
below_length g a b w = length-adder g a (opp_bits b) 2 w

pub relation-short : (r g : ℕ) (a b : Bits) (w : ℕ) → length (relation r g a b w).nodes ≤ 3 * w
relation-short r g a b w =
    by_relation (λ c v. length c.nodes ≤ 3 * w) (λ c v p. p) r g a b w 0 0
    (omega (arith, (equality-sized g a b w).nodes)) (under a b) (under b a) (lower a b) (lower b a) (omega arith)
  where
    under : (a b : Bits) → length (below g a b w).nodes ≤ 3 * w
    under a b = omega (arith, below_length g a b w)

    lower : (a b : Bits) → length (below_signed g a b w).nodes ≤ 3 * w
    lower a b = under (flipped (w - 1) a) (flipped (w - 1) b)

pub relation-formed : (r g : ℕ) (a b : Bits) (w : ℕ) → 1 < g → AllBefore g a w → AllBefore g b w → WellFormed g (relation r g a b w).nodes
relation-formed r g a b w z ha hb =
    by_relation (λ c v. WellFormed g c.nodes) (λ c v p. p) r g a b w 0 0
    (equality-formed g a b w z ha hb) (subtractor-formed g a b w z ha hb) (subtractor-formed g b a w z hb ha)
    (signed-formed g a b w z ha hb) (signed-formed g b a w z hb ha) tt

pub below-before : (g : ℕ) (a b : Bits) (w : ℕ) → 1 < g → Before (g + length (below g a b w).nodes) (below g a b w).lit
below-before g a b w o =
    subst (λ (n : ℕ). Before (g + n) (below g a b w).lit) (sym (below_length g a b w)) (before-opp (carry_before g 2 w (omega arith) (before-pos g 1 (omega arith) o)))

pub relation-before : (r g : ℕ) (a b : Bits) (w : ℕ) → 0 < w → 1 < g → Before (g + length (relation r g a b w).nodes) (relation r g a b w).lit
relation-before r g a b w z o =
    by_relation (λ c v. Before (g + length c.nodes) c.lit) (λ c v p. before-opp p) r g a b w 0 0
    (subst (λ (n : ℕ). Before (g + n) (same_at g w)) (sym (equality-sized g a b w).nodes) (same-before g w o))
    (below-before g a b w o) (below-before g b a w o) (lower a b) (lower b a)
    (before-neg _ 1 (omega arith) (omega arith))
  where
    lower : (a b : Bits) → Before (g + length (below_signed g a b w).nodes) (below_signed g a b w).lit
    lower a b = below-before g (flipped (w - 1) a) (flipped (w - 1) b) w o
