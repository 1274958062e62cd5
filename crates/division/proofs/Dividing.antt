-- Long division: what quotient and remainder are worth, at any width. After k bits of the dividend they are those of its top k bits.
use mathlib.Core.Bool.{Bool, cond, false, true}
use mathlib.Core.Logic.{◌⊎◌, inl, inr}
use mathlib.Core.Path.{◌∙◌, ◌≡◌, ap, ap₂, refl, subst, sym}
use Prim.Native.Nat.{◌%◌, ◌*◌, ◌+◌, ◌-◌, ◌<◌, ◌^◌, ◌≤◌, suc, zero, ℕ}
use native.Mathlib.Nat.{add-mod_right, add-mul, lt_of_lt_of_le, mod-eq_of_lt, mul_assoc, mul_comm, pow-suc}
use native.Mathlib.Omega.{arith}
use lib.Dec.{leb}
use lib.Pow.{pow_mono}
use borrow.Author.Tests.{le-leb, lt-leb}
use Rattle.bitvec.proofs.Division.{quotient_is, quotient_zero, remainder_is, remainder_zero}
use Rattle.bitvec.specs.Word.{quotient, remainder}
use Rattle.arithmetic.proofs.Adder.{length-adder, sub_less, sub_not_less, sub_value}
use Rattle.arithmetic.proofs.Choose.{choose-value}
use Rattle.division.proofs.Division.{step-sized}
use Rattle.arithmetic.proofs.Extend.{extend-below, zero_extend_word}
use Rattle.arithmetic.proofs.Values.{bit, order, value, value_cong, value_lt, value_zero}
use Rattle.arithmetic.specs.Adder.{carry_at, opp_bits, subtractor, sum_bit}
use Rattle.arithmetic.specs.Bits.{Bits}
use Rattle.arithmetic.specs.Choose.{chooser}
use Rattle.division.specs.Division.{division_step, long_quotient, long_remainder, quotient_bit, remainder_bit, shifted, step_at, step_start, division_steps}
use Rattle.arithmetic.specs.Extend.{extend}
use Rattle.arithmetic.specs.Input.{in_bit}
use Rattle.cnf.specs.Meaning.{Assign, lit}
use Rattle.netlist.proofs.Chain.{chain_models}
use Rattle.netlist.proofs.Literals.{lit_false}
use Rattle.netlist.proofs.Truth.{Models, models_append}
use Rattle.netlist.specs.Meaning.{Inputs}
use Rattle.netlist.specs.Node.{chain}

-- ---- a step

shift_place : (b : Bool) (u x v p : ℕ) → u ≡ x + v * 2 → u + bit b * (p * 2) ≡ x + (v + bit b * p) * 2
shift_place true u x v p h = omega arith
shift_place false u x v p h = omega arith

shifted-value : (ρ : Assign) (x : ℕ) (r : Bits) (w : ℕ) → value ρ (shifted x r) (suc w) ≡ bit (lit ρ x) + value ρ r w * 2
unfolding value
shifted-value ρ x r zero = omega arith
shifted-value ρ x r (suc j) = rw (pow-suc 2 j) (shift_place (lit ρ (r j)) _ (bit (lit ρ x)) (value ρ r j) (2 ^ j) (shifted-value ρ x r j))

low-place : (b : Bool) (v p : ℕ) → v + bit b * p < p → v ≡ v + bit b * p
low-place true v p h = absurd (omega arith)
low-place false v p h = omega arith

-- a number that needs no top bit
low_value : (ρ : Assign) (r : Bits) (w : ℕ) → value ρ r (suc w) < 2 ^ w → value ρ r w ≡ value ρ r (suc w)
unfolding value
low_value ρ r w h = low-place (lit ρ (r w)) (value ρ r w) (2 ^ w) h

-- a step subtracts the divisor where it can, and its carry says whether
module _ (ins : Inputs) (ρ : Assign) (g : ℕ) (r d : Bits) (v : ℕ) (o : ρ 1 ≡ true) (m : Models ins ρ g (division_step g r d v)) where
  parts : Models ins ρ g (subtractor g r d v) × Models ins ρ (g + 3 * v) (chooser (carry_at g 2 v) (sum_bit g) r v)
  parts =
      let q = models_append ins ρ g (subtractor g r d v) (chooser (carry_at g 2 v) (sum_bit g) r v) m in
      (q.0, subst (λ (i : ℕ). Models ins ρ (g + i) (chooser (carry_at g 2 v) (sum_bit g) r v)) (length-adder g r (opp_bits d) 2 v) q.1)

  step_carry : lit ρ (carry_at g 2 v) ≡ leb (value ρ d v) (value ρ r v)
  step_carry = pick (order (value ρ r v) (value ρ d v))
    where
      pick : (value ρ r v < value ρ d v) ⊎ (value ρ d v ≤ value ρ r v) → lit ρ (carry_at g 2 v) ≡ leb (value ρ d v) (value ρ r v)
      pick (inl h) = sub_less ins ρ g r d v o parts.0 h ∙ sym (lt-leb _ _ h)
      pick (inr h) = sub_not_less ins ρ g r d v o parts.0 h ∙ sym (le-leb _ _ h)

  step_rest : value ρ (in_bit (g + 3 * v)) v ≡ cond (leb (value ρ d v) (value ρ r v)) (value ρ r v - value ρ d v) (value ρ r v)
  step_rest =
      choose-value ins ρ (g + 3 * v) (carry_at g 2 v) (sum_bit g) r v parts.1
      ∙ ap (λ (b : Bool). cond b (value ρ (sum_bit g) v) (value ρ r v)) step_carry
      ∙ pick (order (value ρ r v) (value ρ d v))
    where
      pick : (value ρ r v < value ρ d v) ⊎ (value ρ d v ≤ value ρ r v)
          → cond (leb (value ρ d v) (value ρ r v)) (value ρ (sum_bit g) v) (value ρ r v) ≡ cond (leb (value ρ d v) (value ρ r v)) (value ρ r v - value ρ d v) (value ρ r v)
      pick (inl h) = rw (lt-leb (value ρ d v) (value ρ r v) h) refl
      pick (inr h) =
          let e : value ρ r v + 2 ^ v - value ρ d v ≡ value ρ r v - value ρ d v + 2 ^ v = omega arith in
          let l : value ρ r v - value ρ d v < 2 ^ v = omega (arith, value_lt ρ r v) in
          ap (λ (x : ℕ). cond (leb (value ρ d v) (value ρ r v)) x (value ρ r v))
          (sub_value ins ρ g r d v o parts.0 ∙ ap (λ (x : ℕ). x % 2 ^ v) e ∙ add-mod_right (value ρ r v - value ρ d v) (2 ^ v) ∙ mod-eq_of_lt l)

-- ---- the numbers: long division by bits from the top

-- the number of the first k bits from the top
unfoldable top_of : Assign → Bits → ℕ → ℕ → ℕ
top_of ρ a w zero = 0
top_of ρ a w (suc k) = top_of ρ a w k * 2 + bit (lit ρ (a (w - suc k)))

top-turn : (b : Bool) (t p v : ℕ) → t * (p * 2) + (v + bit b * p) ≡ (t * 2 + bit b) * p + v
top-turn b t p v =
    let x : t * (p * 2) ≡ t * 2 * p = ap (λ (z : ℕ). t * z) (mul_comm p 2) ∙ sym (mul_assoc t 2 p) in
    let y : (t * 2 + bit b) * p ≡ t * 2 * p + bit b * p = add-mul (t * 2) (bit b) p in
    omega (arith, x, y)

top_part : (ρ : Assign) (a : Bits) (w k : ℕ) → k ≤ w → top_of ρ a w k * 2 ^ (w - k) + value ρ a (w - k) ≡ value ρ a w
unfolding top_of value
top_part ρ a w zero h =
    let e : w - 0 ≡ w = omega arith in
    omega (arith, ap (value ρ a) e)
top_part ρ a w (suc k) h =
    let m : ℕ = w - suc k in
    let e : w - k ≡ suc m = omega arith in
    sym (top-turn (lit ρ (a m)) (top_of ρ a w k) (2 ^ m) (value ρ a m))
    ∙ ap (λ (p : ℕ). top_of ρ a w k * p + (value ρ a m + bit (lit ρ (a m)) * 2 ^ m)) (sym (pow-suc 2 m))
    ∙ ap (λ (i : ℕ). top_of ρ a w k * 2 ^ i + value ρ a i) (sym e)
    ∙ top_part ρ a w k (omega arith)

-- all bits from the top are the number
top_all : (ρ : Assign) (a : Bits) (w : ℕ) → top_of ρ a w w ≡ value ρ a w
unfolding value
top_all ρ a w =
    let e : w - w ≡ 0 = omega arith in
    let h = rw e at (top_part ρ a w w (omega arith)) in
    omega (arith, h)

bit_lt : (b : Bool) → bit b < 2
bit_lt true = omega arith
bit_lt false = omega arith

top_lt : (ρ : Assign) (a : Bits) (w k : ℕ) → top_of ρ a w k < 2 ^ k
unfolding top_of
top_lt ρ a w zero = omega arith
top_lt ρ a w (suc k) = omega (arith, top_lt ρ a w k, pow-suc 2 k, bit_lt (lit ρ (a (w - suc k))))

-- t divided by d, after k bits: quotient q and remainder r; by 0 all ones and t
abbrev Long : ℕ → ℕ → ℕ → ℕ → ℕ → Type 0
Long k t zero q r = (q + 1 ≡ 2 ^ k) × (r ≡ t)
Long k t (suc e) q r = (t ≡ q * suc e + r) × (r < suc e)

long_start : (d r : ℕ) → r ≡ 0 → Long 0 0 d 0 r
long_start zero r h = (omega arith, h)
long_start (suc e) r h = (omega arith, omega arith)

long_le : (k t d q r : ℕ) → Long k t d q r → r ≤ t
long_le k t zero q r h = omega (arith, h.1)
long_le k t (suc e) q r h = omega (arith, h.0)

twice : (q d x : ℕ) → (q * 2 + x) * d ≡ q * d * 2 + x * d
twice q d x =
    let y : q * 2 * d ≡ q * d * 2 = mul_assoc q 2 d ∙ ap (λ (z : ℕ). q * z) (mul_comm 2 d) ∙ sym (mul_assoc q d 2) in
    add-mul (q * 2) x d ∙ ap (λ (z : ℕ). z + x * d) y

-- one bit more
long_turn : (k t d q r b : ℕ) → b < 2 → Long k t d q r
    → Long (suc k) (t * 2 + b) d (q * 2 + bit (leb d (b + r * 2))) (cond (leb d (b + r * 2)) (b + r * 2 - d) (b + r * 2))
long_turn k t zero q r b l h =
    rw (le-leb 0 (b + r * 2) (omega arith)) (omega (arith, h.0, pow-suc 2 k), omega (arith, h.1))
long_turn k t (suc e) q r b z h = pick (order (b + r * 2) (suc e))
  where
    pick : (b + r * 2 < suc e) ⊎ (suc e ≤ b + r * 2)
        → Long (suc k) (t * 2 + b) (suc e) (q * 2 + bit (leb (suc e) (b + r * 2))) (cond (leb (suc e) (b + r * 2)) (b + r * 2 - suc e) (b + r * 2))
    pick (inl l) = rw (lt-leb (suc e) (b + r * 2) l) (omega (arith, h.0, twice q (suc e) 0), l)
    pick (inr l) = rw (le-leb (suc e) (b + r * 2) l) (omega (arith, h.0, h.1, twice q (suc e) 1), omega (arith, h.1, z))

-- after all bits these are the quotient and the remainder of words of w bits
long_end : (w t d q r : ℕ) → t < 2 ^ w → Long w t d q r → (q ≡ quotient w t d) × (r ≡ remainder w t d)
long_end w t zero q r l h =
    let e : q ≡ 2 ^ w - 1 = omega (arith, h.0) in
    (e ∙ sym (quotient_zero w t), h.1 ∙ sym (remainder_zero w t l))
long_end w t (suc e) q r l h = (sym (quotient_is w t (suc e) q r l h.0 h.1), sym (remainder_is w t (suc e) q r l h.0 h.1))

-- ---- the circuit

-- After k steps the carries so far and the remainder are the quotient and the remainder of the top k bits.
steps_long : (ins : Inputs) (ρ : Assign) (g : ℕ) (s d : Bits) (w k : ℕ) → k ≤ w → ρ 1 ≡ true → Models ins ρ g (division_steps g s d w k)
    → Long k (top_of ρ s w k) (value ρ d w) (top_of ρ (quotient_bit g w) w k) (value ρ (remainder_bit g (suc w) k) (suc w))
unfolding division_steps chain top_of
steps_long ins ρ g s d w zero h o m =
    long_start (value ρ d w) _ (value_zero ρ (remainder_bit g (suc w) zero) (suc w) (λ j l. lit_false ρ o))
steps_long ins ρ g s d w (suc k) h o m =
    let p = chain_models (step_at g s d w) (4 * suc w) (18 * suc w) (72 * suc w) (λ i. step-sized (step_start g (suc w) i) _ _ (suc w)) ins ρ g k m in
    let ih = steps_long ins ρ g s d w k (omega arith) o p.0 in
    let x : ℕ = s (w - suc k) in
    let r : Bits = remainder_bit g (suc w) k in
    let t : ℕ = top_of ρ s w k in
    let q : ℕ = top_of ρ (quotient_bit g w) w k in
    let b : ℕ = bit (lit ρ x) in
    let fits : value ρ r (suc w) < 2 ^ w =
    lt_of_lt_of_le (omega (arith, long_le k t (value ρ d w) q (value ρ r (suc w)) ih, top_lt ρ s w k)) (pow_mono {i = k} {j = w} (omega arith)) in
    let a : value ρ (shifted x r) (suc w) ≡ b + value ρ r (suc w) * 2 =
    shifted-value ρ x r w ∙ ap (λ (z : ℕ). b + z * 2) (low_value ρ r w fits) in
    let e : value ρ (extend d w 3) (suc w) ≡ value ρ d w = zero_extend_word ρ d w (suc w) (omega arith) o in
    let test : leb (value ρ (extend d w 3) (suc w)) (value ρ (shifted x r) (suc w)) ≡ leb (value ρ d w) (b + value ρ r (suc w) * 2) = ap₂ leb e a in
    let here : w - suc (w - suc k) ≡ k = omega arith in
    let c : lit ρ (quotient_bit g w (w - suc k)) ≡ leb (value ρ d w) (b + value ρ r (suc w) * 2) =
    ap (λ (i : ℕ). lit ρ (carry_at (step_start g (suc w) i) 2 (suc w))) here ∙ step_carry ins ρ (step_start g (suc w) k) (shifted x r) (extend d w 3) (suc w) o p.1 ∙ test in
    let rest : value ρ (remainder_bit g (suc w) (suc k)) (suc w) ≡ cond (leb (value ρ d w) (b + value ρ r (suc w) * 2)) (b + value ρ r (suc w) * 2 - value ρ d w) (b + value ρ r (suc w) * 2) =
    step_rest ins ρ (step_start g (suc w) k) (shifted x r) (extend d w 3) (suc w) o p.1
    ∙ (λ i. cond (test i) (a i - e i) (a i)) in
    subst (λ (z : ℕ). Long (suc k) (t * 2 + b) (value ρ d w) (q * 2 + bit (lit ρ (quotient_bit g w (w - suc k)))) z) (sym rest)
    (subst (λ (z : Bool). Long (suc k) (t * 2 + b) (value ρ d w) (q * 2 + bit z) (cond (leb (value ρ d w) (b + value ρ r (suc w) * 2)) (b + value ρ r (suc w) * 2 - value ρ d w) (b + value ρ r (suc w) * 2))) (sym c)
    (long_turn k t (value ρ d w) q (value ρ r (suc w)) b (bit_lt (lit ρ x)) ih))

module _ (ins : Inputs) (ρ : Assign) (g : ℕ) (s d : Bits) (w : ℕ) (o : ρ 1 ≡ true) (m : Models ins ρ g (division_steps g s d w w)) where
  all : Long w (value ρ s w) (value ρ d w) (value ρ (quotient_bit g w) w) (value ρ (remainder_bit g (suc w) w) (suc w))
  all = rw (top_all ρ s w, top_all ρ (quotient_bit g w) w) at (steps_long ins ρ g s d w w (omega arith) o m)

  ends : (value ρ (quotient_bit g w) w ≡ quotient w (value ρ s w) (value ρ d w))
      × (value ρ (remainder_bit g (suc w) w) (suc w) ≡ remainder w (value ρ s w) (value ρ d w))
  ends = long_end w (value ρ s w) (value ρ d w) _ _ (value_lt ρ s w) all

  -- The quotient's bits are worth the quotient of the words.
  pub quotient-word : value ρ (long_quotient g s d w).bits w ≡ quotient w (value ρ s w) (value ρ d w)
  quotient-word = value_cong ρ (extend (quotient_bit g w) w 3) (quotient_bit g w) w (extend-below (quotient_bit g w) w 3) ∙ ends.0

  -- The remainder's low bits are worth their remainder.
  pub remainder-word : value ρ (long_remainder g s d w).bits w ≡ remainder w (value ρ s w) (value ρ d w)
  remainder-word =
      let l : value ρ (remainder_bit g (suc w) w) (suc w) < 2 ^ w = omega (arith, long_le w (value ρ s w) (value ρ d w) _ _ all, value_lt ρ s w) in
      low_value ρ (remainder_bit g (suc w) w) w l ∙ ends.1
