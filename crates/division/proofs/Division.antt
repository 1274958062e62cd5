-- Long division: how many gates, the turns of the loops that write it, and well-formedness.
use mathlib.Core.List.{List, ◌++◌}
use mathlib.Core.Path.{◌∙◌, ◌≡◌, ap, ap₂, refl, subst, sym}
use Prim.Native.Nat.{◌*◌, ◌+◌, ◌-◌, ◌<◌, ◌≤◌, suc, zero, ℕ}
use native.Mathlib.Nat.{mul_assoc, mul-le-mul_left, mul-suc}
use native.Mathlib.Numerals.{add-one}
use native.Mathlib.Omega.{arith}
use lib.ListN.{get_or, length, length-set, set, take}
use lib.Seq.{get_or-set_other, get_or-set_same, get_or-take, length-take-le}
use Rattle.arithmetic.proofs.Adder.{adder_cong, adder-sized, carry_before, length-adder, subtractor-formed, sum-before}
use Rattle.arithmetic.proofs.Choose.{chooser_cong, chooser-formed, chooser-sized}
use Rattle.arithmetic.proofs.Extend.{extend-before, extend-below}
use Rattle.arithmetic.proofs.Laws.{rising_high}
use Rattle.arithmetic.proofs.Values.{AllBefore}
use Rattle.arithmetic.specs.Adder.{carry_at, opp_bits, subtractor, sum_bit}
use Rattle.arithmetic.specs.Bits.{Bits, lit_at}
use Rattle.arithmetic.specs.Choose.{chooser}
use Rattle.division.specs.Division.{division_step, long_quotient, long_remainder, quotient_bit, remainder_bit, shifted, step_at, step_start, division_steps}
use Rattle.arithmetic.specs.Extend.{extend, rising_bit}
use Rattle.arithmetic.specs.Input.{in_bit}
use Rattle.cnf.specs.Inner.Append.{Written}
use Rattle.netlist.proofs.Chain.{chain-formed, chain-sized, chain-written}
use Rattle.netlist.proofs.Emitting.{nodes_then_lem}
use Rattle.netlist.proofs.Formed.{before_later, before-neg, before-pos, formed_append}
use Rattle.netlist.proofs.Model.{Before, WellFormed}
use Rattle.netlist.proofs.Nodes.{Sized, sized_then}
use Rattle.netlist.specs.Literal.{opp}
use Rattle.netlist.specs.Node.{netlist_clauses}
use Rattle.netlist.specs.declared.Node.{Node}

-- ---- sizes

pub step-sized : (g : ℕ) (r d : Bits) (v : ℕ) → Sized (division_step g r d v) (4 * v) (18 * v) (72 * v)
step-sized g r d v =
    sized_then (adder-sized g r (opp_bits d) 2 v) (chooser-sized (carry_at g 2 v) (sum_bit g) r v) (omega arith) (omega arith) (omega arith)

-- 4 (w + 1) gates for each bit of the dividend
pub steps-sized : (g : ℕ) (s d : Bits) (w k : ℕ) → Sized (division_steps g s d w k) (4 * suc w * k) (18 * suc w * k) (72 * suc w * k)
unfolding division_steps
steps-sized g s d w k = chain-sized (step_at g s d w) (4 * suc w) (18 * suc w) (72 * suc w) (λ i. step-sized (step_start g (suc w) i) _ _ (suc w)) k

-- the count by formula: w + 1 places in each of w steps
pub formula : (x w : ℕ) → x * ((w + 1) * w) ≡ x * suc w * w
formula x w = rw (add-one w) (sym (mul_assoc x (suc w) w))

pub all_sized : (g : ℕ) (s d : Bits) (w : ℕ) → Sized (division_steps g s d w w) (4 * ((w + 1) * w)) (18 * ((w + 1) * w)) (72 * ((w + 1) * w))
all_sized g s d w = rw (formula 4 w, formula 18 w, formula 72 w) (steps-sized g s d w w)

-- a step more, where each takes x
pub one_more : (x k : ℕ) → x * k + x ≡ x * (k + 1)
one_more x k = rw (add-one k) (sym (mul-suc x k))

-- k steps of x each, and one more, are no more than w of them
pub steps-within : (x k w : ℕ) → k < w → x * k + x ≤ x * w
steps-within x k w h =
    let m : x * suc k ≤ x * w = mul-le-mul_left x h in
    omega (arith, m, mul-suc x k)

-- ---- the loops that write

step_cong : (g : ℕ) (r r' d d' : Bits) (v : ℕ) → ((j : ℕ) → j < v → r j ≡ r' j) → ((j : ℕ) → j < v → d j ≡ d' j)
    → division_step g r d v ≡ division_step g r' d' v
step_cong g r r' d d' v h k =
    λ i. adder_cong g r (opp_bits d) r' (opp_bits d') 2 v h (λ j l. ap opp (k j l)) i
    ++ chooser_cong (carry_at g 2 v) (sum_bit g) r (sum_bit g) r' v (λ j l. refl) h i

-- a subtraction is written, and then the choice by its last carry
pub step-written : {w t w₁ t₁ w₂ t₂ : List ℕ} {i k i₁ k₁ g₁ : ℕ} (g : ℕ) (r d a : Bits) (c v : ℕ) {n : ℕ}
    → Written w t i k (netlist_clauses g (subtractor g r d v)) w₁ t₁ → Written w₁ t₁ i₁ k₁ (netlist_clauses g₁ (chooser c a r n)) w₂ t₂ → n ≡ v
    → i₁ ≡ i + 56 * v → k₁ ≡ k + 14 * v → g₁ ≡ g + 3 * v → c ≡ carry_at g 2 v → ((j : ℕ) → j < v → a j ≡ sum_bit g j)
    → Written w t i k (netlist_clauses g (division_step g r d v)) w₂ t₂
step-written {w₁ = w₁} {t₁} {w₂} {t₂} {i₁ = i₁} {k₁} {g₁} g r d a c v p q en ei ek eg ec h =
    nodes_then_lem g (chooser (carry_at g 2 v) (sum_bit g) r v) p (adder-sized g r (opp_bits d) 2 v)
    (subst (λ (ns : List Node). Written w₁ t₁ i₁ k₁ (netlist_clauses g₁ ns) w₂ t₂)
    (ap₂ (λ (x m : ℕ). chooser x a r m) ec en ∙ chooser_cong (carry_at g 2 v) a r (sum_bit g) r v h (λ j l. refl)) q)
    ei ek eg

-- a turn of the loop over the bits of the dividend: r is the shifted remainder, e the divisor with a 3 on top
pub steps-written : {w t w₁ t₁ w₂ t₂ : List ℕ} {i₀ k₀ i k : ℕ} (g₀ g : ℕ) (s d r e : Bits) (x m : ℕ)
    → Written w t i₀ k₀ (netlist_clauses g₀ (division_steps g₀ s d x m)) w₁ t₁ → Written w₁ t₁ i k (netlist_clauses g (division_step g r e (suc x))) w₂ t₂
    → i ≡ i₀ + 72 * suc x * m → k ≡ k₀ + 18 * suc x * m → g ≡ step_start g₀ (suc x) m
    → ((j : ℕ) → j < suc x → r j ≡ shifted (s (x - suc m)) (remainder_bit g₀ (suc x) m) j) → ((j : ℕ) → j < suc x → e j ≡ extend d x 3 j)
    → Written w t i₀ k₀ (netlist_clauses g₀ (division_steps g₀ s d x (m + 1))) w₂ t₂
unfolding division_steps
steps-written {w₁ = w₁} {t₁} {w₂} {t₂} {i = i} {k} g₀ g s d r e x m p q ei ek eg hr he =
    chain-written (step_at g₀ s d x) (4 * suc x) (18 * suc x) (72 * suc x) (λ i. step-sized (step_start g₀ (suc x) i) _ _ (suc x)) g₀ m p
    (subst (λ (ns : List Node). Written w₁ t₁ i k (netlist_clauses g ns) w₂ t₂)
    (ap (λ (y : ℕ). division_step y r e (suc x)) eg ∙ step_cong (step_start g₀ (suc x) m) r _ e _ (suc x) hr he) q)
    ei ek eg

-- the places of a shifted remainder: the bit that it is shifted up by, and the remainder's own
pub shifted_is : (x y : ℕ) (r : Bits) (j : ℕ) → (j ≡ 0 → y ≡ x) → (0 < j → y ≡ r (j - 1)) → y ≡ shifted x r j
shifted_is x y r zero f h = f refl
shifted_is x y r (suc j) f h = h (omega arith) ∙ ap r (omega arith)

-- an array that holds a remainder one place higher, with the bit y put into its first place: as long as the divisor, and shifted up by y
module _ (up : List ℕ) (y w : ℕ) (l : w < length up) where
  pub lifted_length : length (take (w + 1) (set up 0 y)) ≡ suc w
  lifted_length = length-take-le (w + 1) (set up 0 y) (omega (arith, length-set up 0 y)) ∙ add-one w

  pub lifted_bits : (r : Bits) → ((j : ℕ) → 0 < j → j < suc w → get_or up j 0 ≡ r (j - 1)) → (j : ℕ) → j < suc w → lit_at (take (w + 1) (set up 0 y)) j ≡ shifted y r j
  lifted_bits r h j k =
      get_or-take (w + 1) (set up 0 y) j 0 (omega arith)
      ∙ shifted_is y _ r j
      (λ e. ap (λ (m : ℕ). get_or (set up 0 y) m 0) e ∙ get_or-set_same up 0 y 0 (omega arith))
      (λ z. get_or-set_other up 0 j y 0 (λ e. absurd (omega arith)) ∙ h j z k)

-- what a step chose rises from its first choice on, so the next one shifts it up by writing it one place higher
pub chosen_up : (g v m j : ℕ) → 0 < j → rising_bit (2 * (step_start g v m + 3 * v)) 2 1 j ≡ remainder_bit g v (m + 1) (j - 1)
chosen_up g v m j h = rising_high (2 * (step_start g v m + 3 * v)) 2 1 j (omega arith) ∙ rw (add-one m) (omega arith)

-- the last carry of step i is bit w - 1 - i of the quotient
pub quotient-lit : (g w i : ℕ) → i < w → 2 * (step_start g (suc w) i + 3 * w + 2) ≡ extend (quotient_bit g w) w 3 (w - 1 - i)
quotient-lit g w i h =
    let e : i ≡ w - suc (w - 1 - i) = omega arith in
    ap (λ (k : ℕ). 2 * (step_start g (suc w) k + 3 * w + 2)) e ∙ sym (extend-below (quotient_bit g w) w 3 (w - 1 - i) (omega arith))

-- what the last step chose is the remainder
pub last_chosen : (g w j : ℕ) → 0 < w → in_bit (g + 4 * (w + 1) * (w - 1) + 3 * (w + 1)) j ≡ remainder_bit g (suc w) w j
last_chosen g w j h =
    let e : suc (w - 1) ≡ w = omega arith in
    rw (add-one w) (ap (λ (k : ℕ). remainder_bit g (suc w) k j) e)

-- ---- well-formedness

step-formed : (g : ℕ) (r d : Bits) (v : ℕ) → 1 < g → AllBefore g r v → AllBefore g d v → WellFormed g (division_step g r d v)
step-formed g r d v z hr hd =
    formed_append g (subtractor g r d v) (chooser (carry_at g 2 v) (sum_bit g) r v) (subtractor-formed g r d v z hr hd)
    (subst (λ (i : ℕ). WellFormed (g + i) (chooser (carry_at g 2 v) (sum_bit g) r v)) (sym (length-adder g r (opp_bits d) 2 v))
    (chooser-formed (g + 3 * v) (carry_at g 2 v) (sum_bit g) r v
    (carry_before g 2 v (omega arith) (before-pos g 1 (omega arith) z)) (sum-before g v (omega arith)) (λ j l. before_later _ (omega arith) (hr j l))))

chosen_before : (g v i : ℕ) → 1 < g → AllBefore (step_start g v i) (remainder_bit g v i) v
chosen_before g v zero z j l = before-neg _ 1 (omega arith) (omega arith)
chosen_before g v (suc i) z j l = before-pos _ _ (omega arith) (omega (arith, mul-suc (4 * v) i))

shifted-before : (g x : ℕ) (r : Bits) (w : ℕ) → Before g x → AllBefore g r (suc w) → AllBefore g (shifted x r) (suc w)
shifted-before g x r w hx hr zero l = hx
shifted-before g x r w hx hr (suc j) l = hr j (omega arith)

pub steps-formed : (g : ℕ) (s d : Bits) (w k : ℕ) → 1 < g → k ≤ w → AllBefore g s w → AllBefore g d w → WellFormed g (division_steps g s d w k)
unfolding division_steps
steps-formed g s d w k z h hs hd =
    chain-formed (step_at g s d w) (4 * suc w) (18 * suc w) (72 * suc w) (λ i. step-sized (step_start g (suc w) i) _ _ (suc w)) g k
    (λ i l.
    let here : ℕ = step_start g (suc w) i in
    step-formed here _ _ (suc w) (omega arith)
    (shifted-before here (s (w - suc i)) (remainder_bit g (suc w) i) w (before_later here (omega arith) (hs (w - suc i) (omega arith))) (chosen_before g (suc w) i z))
    (extend-before here d w 3 (suc w) (λ j q. before_later here (omega arith) (hd j q)) (before-neg here 1 (omega arith) (omega arith))))

pub quotient-before : (g : ℕ) (s d : Bits) (w : ℕ) → 1 < g → AllBefore (g + length (long_quotient g s d w).nodes) (long_quotient g s d w).bits w
quotient-before g s d w z j l =
    let i : ℕ = w - suc j in
    subst (λ (x : ℕ). Before (g + length (long_quotient g s d w).nodes) x) (sym (extend-below (quotient_bit g w) w 3 j l))
    (before-pos _ (step_start g (suc w) i + 3 * w + 2) (omega arith) (omega (arith, (steps-sized g s d w w).nodes, steps-within (4 * suc w) i w (omega arith))))

pub remainder-before : (g : ℕ) (s d : Bits) (w : ℕ) → 1 < g → AllBefore (g + length (long_remainder g s d w).nodes) (long_remainder g s d w).bits w
remainder-before g s d w z j l =
    subst (λ (n : ℕ). Before (g + n) (remainder_bit g (suc w) w j)) (sym (steps-sized g s d w w).nodes) (chosen_before g (suc w) w z j (omega arith))
