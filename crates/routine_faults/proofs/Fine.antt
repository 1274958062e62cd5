-- What an accepted header and a command without a fault tell: for the layers above. Assumes nothing.
use mathlib.Core.Path.{◌≡◌, refl, subst}
use mathlib.Core.List.{List}
use mathlib.Core.Bool.{Bool, true, false, cond, ◌&&◌}
use Prim.Native.Nat.{ℕ, zero, suc, ◌+◌, ◌*◌, ◌^◌, ◌≤◌, ◌<◌}
use native.Mathlib.Omega.{arith}
use native.Mathlib.Nat.{mul-suc, mul-zero, add-zero, add_assoc, add_comm}
use lib.ListN.{length}
use lib.Dec.{ltb, leb, eqb, lit<}
use borrow.Author.Tests.{ltb-true, leb-true, eqb-true}
use Rattle.std.specs.Prelude.{Ok}
use Rattle.slices.specs.Bytes.{entry, half}
use Rattle.routine_header.specs.Header.{between, within, width_ok, size_ok, first_bad, header_of, width}
use Rattle.routine_header.proofs.Held.{header_in, held}
use Rattle.routine_faults.specs.Step.{in_range, widths_fit}
use Rattle.routine_faults.specs.Inner.Sound.{Sound, SoundIf, Fine}
use Rattle.routine_faults.proofs.Tests.{both}
use Rattle.routine_header.specs.declared.Header.{Header}
use Rattle.routine_command.specs.declared.Conversion.{Conversion}
use Rattle.routine_command.specs.declared.Operation.{Operation}
use Rattle.routine_command.specs.declared.Condition.{Condition}
use Rattle.routine_command.specs.declared.Simple.{Simple}

-- ---- commands

module _ (bs : List ℕ) (h : Header) where
  -- all three are below their limits
  below_three : (a l b m c n : ℕ) → (ltb a l && ltb b m && ltb c n) ≡ true → (a < l) × (b < m) × (c < n)
  below_three a l b m c n e =
      let p = both (ltb a l && ltb b m) (ltb c n) e in
      let q = both (ltb a l) (ltb b m) p.0 in
      (ltb-true _ _ q.0, ltb-true _ _ q.1, ltb-true _ _ p.1)

  pub set_fine : (d c : ℕ) → Sound bs h (Simple.Set d c) → (d < h.variables) × (c < 2 ^ width bs d)
  unfolding in_range
  set_fine d c s =
      let p = both (ltb d h.variables) (ltb c (2 ^ width bs d)) s.ranges in
      (ltb-true _ _ p.0, ltb-true _ _ p.1)

  pub convert_fine : (op : Conversion) (d s : ℕ) → Sound bs h (Simple.Convert op d s) → (d < h.variables) × (s < h.variables)
  unfolding in_range
  convert_fine op d s x =
      let p = both (ltb d h.variables) (ltb s h.variables) x.ranges in
      (ltb-true _ _ p.0, ltb-true _ _ p.1)

  pub compute_fine : (op : Operation) (d s t : ℕ) → Sound bs h (Simple.Compute op d s t)
      → (d < h.variables) × (s < h.variables) × (t < h.variables) × (width bs d ≡ width bs s) × (width bs d ≡ width bs t)
  unfolding in_range widths_fit
  compute_fine op d s t x =
      let v = h.variables in
      let p = below_three d v s v t v x.ranges in
      let w = both (eqb (width bs d) (width bs s)) (eqb (width bs d) (width bs t)) x.widths in
      (p.0, p.1, p.2, eqb-true _ _ w.0, eqb-true _ _ w.1)

  pub read_fine : (d array i : ℕ) → Sound bs h (Simple.Read d array i) → (d < h.variables) × (array < h.arrays) × (i < h.variables)
  unfolding in_range
  read_fine d array i x = below_three d h.variables array h.arrays i h.variables x.ranges

  pub write_fine : (array i s : ℕ) → Sound bs h (Simple.Write array i s) → (array < h.arrays) × (i < h.variables) × (s < h.variables)
  unfolding in_range
  write_fine array i s x = below_three array h.arrays i h.variables s h.variables x.ranges

  pub condition_fine : (c : Condition) → SoundIf bs h c
      → (c.relation < 10) × (c.s < h.variables) × (c.t < h.variables) × (width bs c.s ≡ width bs c.t)
  condition_fine c x =
      let p = below_three c.relation 10 c.s h.variables c.t h.variables x.ranges in
      (p.0, p.1, p.2, eqb-true _ _ x.widths)

-- ---- the header

module _ (ok : ℕ → Bool) (step : ℕ) (l : 0 < step) where
  first_ok : (n at : ℕ) (b : Bool) → ok at ≡ b → cond b (first_bad ok step n (at + step)) at ≡ at + step * suc n
      → (ok at ≡ true) × (first_bad ok step n (at + step) ≡ at + step + step * n)
  first_ok n at true e f = (e, omega (arith, mul-suc step n))
  first_ok n at false e f = absurd (omega (arith, mul-suc step n))

  -- where all n places are ok, each is
  pub all_ok : (n at : ℕ) → first_bad ok step n at ≡ at + step * n → (i : ℕ) → i < n → ok (at + step * i) ≡ true
  unfolding first_bad
  all_ok zero at e i lt = absurd (omega arith)
  all_ok (suc n) at e zero lt = simp (mul-zero, add-zero) (first_ok n at (ok at) refl e).0
  all_ok (suc n) at e (suc i) lt = rw (mul-suc, add_comm (step * i) step, ← add_assoc at step (step * i)) (all_ok n (at + step) (first_ok n at (ok at) refl e).1 i (omega arith))

pub in_bounds : (bs : List ℕ) (i lo hi : ℕ) → within bs i lo hi ≡ true → (i < length bs) × (lo ≤ entry bs i) × (entry bs i ≤ hi)
unfolding within
in_bounds bs i lo hi e =
    let p = both (ltb i (length bs)) (between lo hi (entry bs i)) e in
    let q = both (leb lo (entry bs i)) (leb (entry bs i) hi) p.1 in
    (ltb-true _ _ p.0, leb-true _ _ q.0, leb-true _ _ q.1)

size_in_bounds : (bs : List ℕ) (i : ℕ) → size_ok bs i ≡ true → (i + 1 < length bs) × (1 ≤ half bs i) × (half bs i ≤ 4096)
unfolding size_ok
size_in_bounds bs i e =
    let p = both (ltb (i + 1) (length bs)) (between 1 4096 (half bs i)) e in
    let q = both (leb 1 (half bs i)) (leb (half bs i) 4096) p.1 in
    (ltb-true _ _ p.0, leb-true _ _ q.0, leb-true _ _ q.1)

module _ (bs : List ℕ) (v : ℕ) where
  widths_fine : first_bad (width_ok bs) 1 v 2 ≡ v + 2 → (i : ℕ) → i < v → (1 ≤ width bs i) × (width bs i ≤ 32)
  widths_fine e i l =
      let p = in_bounds bs (2 + 1 * i) 1 32 (all_ok (width_ok bs) 1 (lit< tt) v 2 (omega arith) i l) in
      let q : 2 + 1 * i ≡ i + 2 = omega arith in
      subst (λ (j : ℕ). (1 ≤ entry bs j) × (entry bs j ≤ 32)) q (p.1, p.2)

  sizes_fine : (n : ℕ) → first_bad (size_ok bs) 2 n (v + 4) ≡ v + 4 + 2 * n → (i : ℕ) → i < n
      → (v + 4 + 2 * i + 1 < length bs) × (1 ≤ half bs (v + 4 + 2 * i)) × (half bs (v + 4 + 2 * i) ≤ 4096)
  sizes_fine n e i l = size_in_bounds bs (v + 4 + 2 * i) (all_ok (size_ok bs) 2 (lit< tt) n (v + 4) e i l)

  header-room : (n : ℕ) → v + 3 < length bs → first_bad (size_ok bs) 2 n (v + 4) ≡ v + 4 + 2 * n → v + 4 + 2 * n ≤ length bs
  header-room zero l e = omega arith
  header-room (suc n) l e = omega (arith, (sizes_fine (suc n) e n (omega arith)).0)

pub fine : (bs : List ℕ) (h : Header) → header_of bs ≡ Ok h → Fine bs h
fine bs h e =
    let v = (header_in bs).variables in
    let n = (header_in bs).arrays in
    let t = held bs h e in
    subst (Fine bs) t.is (record {
      variables = refl;
      some = (in_bounds bs 1 1 32 t.variables).1;
      few = (in_bounds bs 1 1 32 t.variables).2;
      parameters = (in_bounds bs (v + 2) 0 v t.parameters).2;
      arrays = (in_bounds bs (v + 3) 0 16 t.arrays).2;
      whole = header-room bs v n (in_bounds bs (v + 3) 0 16 t.arrays).0 t.sizes;
      widths = widths_fine bs v t.widths;
      sizes = λ i l. let p = sizes_fine bs v n t.sizes i l in (p.1, p.2);
    })
