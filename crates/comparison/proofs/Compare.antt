-- Comparisons: lengths, values at any width, well-formedness, and the turns of their loops.
use mathlib.Core.Bool.{Bool, ◌&&◌, cond, false, not, true}
use mathlib.Core.List.{List}
use mathlib.Core.Logic.{◌⊎◌, inl, inr}
use mathlib.Core.Path.{◌∙◌, ◌≡◌, ap, ap₂, refl, subst, sym}
use Prim.Native.Nat.{◌%◌, ◌*◌, ◌+◌, ◌-◌, ◌<◌, ◌^◌, ◌≤◌, suc, zero, ℕ}
use native.Mathlib.Nat.{mod-eq_of_lt, mod-eq-sub-mod, pow-suc}
use native.Mathlib.Numerals.{add-one}
use native.Mathlib.Omega.{arith}
use lib.Dec.{eqb, ltb}
use borrow.Author.Tests.{eq-eqb, le-ltb, lt-ltb, ne_eqb}
use Rattle.bitvec.proofs.Powers.{two_halves}
use Rattle.bitvec.proofs.Reading.{distance, distance_high, distance_low}
use Rattle.arithmetic.proofs.Adder.{adder_cong, last_carry, length-adder, less-value, subtractor-formed}
use Rattle.arithmetic.proofs.Values.{AllBefore, bit, eqb_iff, order, value, value_cong, value_lt}
use Rattle.arithmetic.specs.Adder.{adder, carry_at, flipped, opp_bits}
use Rattle.arithmetic.specs.Bits.{Bits}
use Rattle.comparison.specs.Compare.{below, below_signed, equality, same, same_at}
use Rattle.netlist.proofs.Chain.{chain-formed, chain_models, chain-sized, chain-written}
use Rattle.netlist.proofs.Formed.{before_later, before-neg, before-opp, before-pos}
use Rattle.netlist.proofs.Literals.{lit-neg, lit-opp, lit-pos, lit_true}
use Rattle.netlist.proofs.Model.{Before, WellFormed}
use Rattle.netlist.proofs.Nodes.{Sized, node_sized, sized_then}
use Rattle.netlist.proofs.Truth.{Models}
use Rattle.netlist.specs.Inner.Emit.{Emitted, Ready}
use Rattle.netlist.specs.Literal.{neg, opp}
use Rattle.cnf.specs.Meaning.{Assign, lit}
use Rattle.netlist.specs.Meaning.{Inputs}
use Rattle.netlist.specs.Inner.Value.{node_val, xor_b}
use Rattle.netlist.specs.Node.{chain, netlist_clauses}
use Rattle.netlist.specs.declared.Node.{Node}
use Rattle.netlist.specs.declared.Node.TheVariants.{And, Xor}
use Rattle.arithmetic.specs.Circuit.{Predicate, opposite}
use Rattle.arithmetic.specs.Inner.Results.{Decides}
use Rattle.arithmetic.specs.declared.Test.{Test}
use Rattle.cnf.specs.Inner.Append.{Written}
use Rattle.netlist.specs.declared.Net.{Net}

-- a place takes 2 nodes, 7 clauses and 26 words
place-sized : (g a b e : ℕ) → Sized (same g a b e) 2 7 26
place-sized g a b e = sized_then (node_sized (Xor a b)) (node_sized (And e (neg g))) refl refl refl

pub equality-sized : (g : ℕ) (a b : Bits) (w : ℕ) → Sized (equality g a b w) (2 * w) (7 * w) (26 * w)
unfolding equality
equality-sized g a b = chain-sized _ 2 7 26 (λ j. place-sized (g + 2 * j) (a j) (b j) (same_at g j))

-- the last literal is the last variable
pub last-same : (g w next : ℕ) → 0 < w → next ≡ g + 2 * w → 2 * (next - 1) ≡ same_at g w
last-same g zero next h e = absurd (omega arith)
last-same g (suc w) next h e = omega arith

&&-true : (b : Bool) → (b && true) ≡ b
&&-true true = refl
&&-true false = refl

&&-false : (b : Bool) → (b && false) ≡ false
&&-false true = refl
&&-false false = refl

-- one place, at weight p
place_same : (x y : Bool) (u v p : ℕ) → u < p → v < p → (eqb u v && not (xor_b x y)) ≡ eqb (u + bit x * p) (v + bit y * p)
place_same true true u v p h k = &&-true (eqb u v) ∙ eqb_iff u v (u + 1 * p) (v + 1 * p) (λ e. omega arith) (λ e. omega arith)
place_same true false u v p h k = &&-false (eqb u v) ∙ sym (ne_eqb (u + 1 * p) (v + 0 * p) (λ e. omega arith))
place_same false true u v p h k = &&-false (eqb u v) ∙ sym (ne_eqb (u + 0 * p) (v + 1 * p) (λ e. omega arith))
place_same false false u v p h k = &&-true (eqb u v) ∙ eqb_iff u v (u + 0 * p) (v + 0 * p) (λ e. omega arith) (λ e. omega arith)

-- The last literal says whether the two numbers are equal.
pub equality-value : (ins : Inputs) (ρ : Assign) (g : ℕ) (a b : Bits) (w : ℕ) → ρ 1 ≡ true → Models ins ρ g (equality g a b w)
    → lit ρ (same_at g w) ≡ eqb (value ρ a w) (value ρ b w)
unfolding equality chain value node_val
equality-value ins ρ g a b zero t m = lit_true ρ t
equality-value ins ρ g a b (suc j) t m =
    let r = chain_models (λ i. same (g + 2 * i) (a i) (b i) (same_at g i)) 2 7 26 (λ i. place-sized (g + 2 * i) (a i) (b i) (same_at g i)) ins ρ g j m in
    let q = r.1 in
    lit-pos ρ _ ∙ ap ρ (add-one _) ∙ q.1.0
    ∙ ap₂ (λ (x y : Bool). x && y) (equality-value ins ρ g a b j t r.0) (lit-neg ρ _ ∙ ap not q.0)
    ∙ place_same (lit ρ (a j)) (lit ρ (b j)) _ _ (2 ^ j) (value_lt ρ a j) (value_lt ρ b j)

flipped_below : (m : ℕ) (a : Bits) (j : ℕ) → j < m → flipped m a j ≡ a j
flipped_below m a j h = rw (ne_eqb j m (λ e. omega arith))

flipped-top : (m : ℕ) (a : Bits) → flipped m a m ≡ opp (a m)
flipped-top m a = rw (eq-eqb m m refl)

top-place : (v p : ℕ) (b : Bool) → v < p → v + bit (not b) * p ≡ (v + bit b * p + p) % (p * 2)
top-place v p true h = sym (mod-eq-sub-mod (omega arith) ∙ ap (λ (z : ℕ). z % (p * 2)) (omega arith) ∙ mod-eq_of_lt (omega arith))
top-place v p false h = sym (mod-eq_of_lt (omega arith) ∙ (omega arith))

pub flipped-value : (ρ : Assign) (a : Bits) (m : ℕ) → value ρ (flipped m a) (suc m) ≡ distance (suc m) (value ρ a (suc m))
unfolding value
flipped-value ρ a m =
    let e : suc m - 1 ≡ m = omega arith in
    ap₂ (λ (x : ℕ) (b : Bool). x + bit b * 2 ^ m) (value_cong ρ (flipped m a) a m (flipped_below m a)) (ap (lit ρ) (flipped-top m a) ∙ lit-opp ρ (a m))
    ∙ top-place (value ρ a m) (2 ^ m) (lit ρ (a m)) (value_lt ρ a m)
    ∙ ap₂ (λ (k q : ℕ). (value ρ a m + bit (lit ρ (a m)) * 2 ^ m + 2 ^ k) % q) (sym e) (sym (pow-suc 2 m))

-- a <s b is the opposite of the last carry
pub signed-value : (ins : Inputs) (ρ : Assign) (g : ℕ) (a b : Bits) (w : ℕ) → 0 < w → ρ 1 ≡ true → Models ins ρ g (below_signed g a b w).nodes
    → lit ρ (opp (carry_at g 2 w)) ≡ ltb (distance w (value ρ a w)) (distance w (value ρ b w))
signed-value ins ρ g a b zero z t m = absurd (omega arith)
signed-value ins ρ g a b (suc k) z t m =
    let e : suc k - 1 ≡ k = omega arith in
    less-value ins ρ g (flipped (suc k - 1) a) (flipped (suc k - 1) b) (suc k) t m
    ∙ ap₂ ltb (ap (λ (i : ℕ). value ρ (flipped i a) (suc k)) e ∙ flipped-value ρ a k) (ap (λ (i : ℕ). value ρ (flipped i b) (suc k)) e ∙ flipped-value ρ b k)

pub ltb_iff : (u v x y : ℕ) → (u < v → x < y) → (x < y → u < v) → ltb u v ≡ ltb x y
ltb_iff u v x y f g = pick (order u v) (order x y)
  where
    pick : (u < v) ⊎ (v ≤ u) → (x < y) ⊎ (y ≤ x) → ltb u v ≡ ltb x y
    pick (inl a) (inl b) = lt-ltb u v a ∙ sym (lt-ltb x y b)
    pick (inl a) (inr b) = absurd (omega (arith, f a))
    pick (inr a) (inl b) = absurd (omega (arith, g b))
    pick (inr a) (inr b) = le-ltb u v a ∙ sym (le-ltb x y b)

-- an index x of w bits is below the size s, as signed numbers: negative, or below as it stands
pub size_less : (w x s : ℕ) → 0 < w → x < 2 ^ w → s < 2 ^ (w - 1) → ltb (distance w x) (distance w s) ≡ cond (ltb x (2 ^ (w - 1))) (ltb x s) true
size_less w x s z k l = pick (order x (2 ^ (w - 1)))
  where
    h : ℕ
    h = 2 ^ (w - 1)

    pick : (x < h) ⊎ (h ≤ x) → ltb (distance w x) (distance w s) ≡ cond (ltb x h) (ltb x s) true
    pick (inl a) =
        rw (lt-ltb x h a, distance_low w z x a, distance_low w z s l)
        (ltb_iff (x + h) (s + h) x s (λ q. omega arith) (λ q. omega arith))
    pick (inr a) =
        rw (le-ltb x h a, distance_high w z x a k, distance_low w z s l)
        (lt-ltb (x - h) (s + h) (omega (arith, two_halves w z)))

flipped-before : (g m : ℕ) (a : Bits) (w : ℕ) → AllBefore g a w → AllBefore g (flipped m a) w
flipped-before g m a w h j l = pick (eqb j m)
  where
    pick : (t : Bool) → Before g (cond t (opp (a j)) (a j))
    pick true = before-opp (h j l)
    pick false = h j l

pub signed-formed : (g : ℕ) (a b : Bits) (w : ℕ) → 1 < g → AllBefore g a w → AllBefore g b w → WellFormed g (below_signed g a b w).nodes
signed-formed g a b w z ha hb =
    subtractor-formed g (flipped (w - 1) a) (flipped (w - 1) b) w z (flipped-before g (w - 1) a w ha) (flipped-before g (w - 1) b w hb)

pub same-before : (g j : ℕ) → 1 < g → Before (g + 2 * j) (same_at g j)
same-before g zero z = before-pos _ 1 (omega arith) (omega arith)
same-before g (suc j) z = before-pos _ _ (omega arith) (omega arith)

pub equality-formed : (g : ℕ) (a b : Bits) (w : ℕ) → 1 < g → AllBefore g a w → AllBefore g b w → WellFormed g (equality g a b w)
unfolding equality
equality-formed g a b w z ha hb =
    chain-formed _ 2 7 26 (λ j. place-sized (g + 2 * j) (a j) (b j) (same_at g j)) g w
    (λ j l.
    let h : ℕ = g + 2 * j in (
      (before_later h (omega arith) (ha j l), before_later h (omega arith) (hb j l)),
      ((before_later (suc h) (omega arith) (same-before g j z), before-neg (suc h) h (omega arith) (omega arith)), tt),
    ))

-- a turn of the loop that writes
pub equality-written : {w t w₁ t₁ w₂ t₂ : List ℕ} {i₀ k₀ i k : ℕ} (g₀ g : ℕ) (a b : Bits) (x j : ℕ)
    → Written w t i₀ k₀ (netlist_clauses g₀ (equality g₀ a b j)) w₁ t₁ → Written w₁ t₁ i k (netlist_clauses g (same g (a j) (b j) x)) w₂ t₂
    → i ≡ i₀ + 26 * j → k ≡ k₀ + 7 * j → g ≡ g₀ + 2 * j → x ≡ same_at g₀ j → Written w t i₀ k₀ (netlist_clauses g₀ (equality g₀ a b (j + 1))) w₂ t₂
unfolding equality
equality-written {w₁ = w₁} {t₁} {w₂} {t₂} {i = i} {k} g₀ g a b x j p q ei ek eg ex =
    chain-written _ 2 7 26 (λ i. place-sized (g₀ + 2 * i) (a i) (b i) (same_at g₀ i)) g₀ j p
    (subst (λ (ns : List Node). Written w₁ t₁ i k (netlist_clauses g ns) w₂ t₂) (λ z. same (eg z) (a j) (b j) (ex z)) q) ei ek eg

pub same-written : (g₀ g j : ℕ) → g ≡ g₀ + 2 * j → 2 * g + 2 ≡ same_at g₀ (j + 1)
same-written g₀ g j e = rw (add-one j) (omega arith)

-- what decides a condition decides its opposite
pub decides_opposite : {w t : List ℕ} {n : Net} {x : Predicate} {w₁ t₁ : List ℕ} {r r₁ : Test}
    → Decides w t n x w₁ t₁ r → (r₁.net ≡ r.net) × (r₁.lit ≡ opp r.lit) → Decides w t n (opposite x) w₁ t₁ r₁
decides_opposite {w} {t} {n} {x} {w₁} {t₁} d e = record {
  emitted = subst (λ (m : Net). Emitted w t n x.nodes w₁ t₁ m) (sym e.0) d.emitted;
  lit = e.1 ∙ ap opp d.lit;
}

-- A sum was emitted: room for its last carry, which is the last variable, and what that carry's opposite decides.
module _ {w t : List ℕ} {n : Net} (a b : Bits) (c k : ℕ) {w₁ t₁ : List ℕ} {m : Net} (e : Emitted w t n (adder n.next a b c k) w₁ t₁ m) (h : 0 < k) where
  sum-next : m.next ≡ n.next + 3 * k
  sum-next = e.next ∙ ap (λ (i : ℕ). n.next + i) (length-adder n.next a b c k)

  pub carry_room : Ready n (3 * k) → (0 < m.next) × (m.next ≤ 2 ^ 26)
  carry_room q = (omega (arith, sum-next), omega (arith, sum-next, q.next))

  pub decides_carry : {r : Test} → (r.net ≡ m) × (r.lit ≡ opp (2 * (m.next - 1)))
      → Decides w t n (record { nodes = adder n.next a b c k; lit = opp (carry_at n.next c k) }) w₁ t₁ r
  decides_carry q = record {
    emitted = subst (λ (x : Net). Emitted w t n (adder n.next a b c k) w₁ t₁ x) (sym q.0) e;
    lit = q.1 ∙ ap opp (last_carry n.next c k m.next h sum-next);
  }

-- an equal predicate is decided alike
pub decides_as : {w t : List ℕ} {n : Net} {x y : Predicate} {w₁ t₁ : List ℕ} {r : Test} → x ≡ y → Decides w t n x w₁ t₁ r → Decides w t n y w₁ t₁ r
decides_as {w} {t} {n} {x} {y} {w₁} {t₁} {r} e d = subst (λ (z : Predicate). Decides w t n z w₁ t₁ r) e d

below_cong : (g : ℕ) (a b a' b' : Bits) (w : ℕ) → ((j : ℕ) → j < w → a j ≡ a' j) → ((j : ℕ) → j < w → b j ≡ b' j) → below g a b w ≡ below g a' b' w
below_cong g a b a' b' w h k = λ i. record {
  nodes = adder_cong g a (opp_bits b) a' (opp_bits b') 2 w h (λ j l. ap opp (k j l)) i;
  lit = opp (carry_at g 2 w);
}

pub signed_cong : (g : ℕ) (a b b' : Bits) (w : ℕ) → ((j : ℕ) → j < w → b j ≡ b' j) → below_signed g a b w ≡ below_signed g a b' w
signed_cong g a b b' w h =
    below_cong g _ _ (flipped (w - 1) a) (flipped (w - 1) b') w (λ j l. refl) (λ j l. ap (λ (z : ℕ). cond (eqb j (w - 1)) (opp z) z) (h j l))
