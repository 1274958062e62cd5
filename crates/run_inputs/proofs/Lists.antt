-- The words of an input list, one after the other. Assumes nothing.
use mathlib.Core.Path.{◌≡◌, refl, sym, ap, ◌∙◌}
use mathlib.Core.List.{List, [], ◌∷◌, ◌++◌}
use mathlib.Core.Bool.{Bool, true, false, cond}
use Prim.Native.Nat.{ℕ, zero, suc, ◌+◌, ◌-◌, ◌^◌, ◌≤◌, ◌<◌}
use native.Mathlib.Nat.{add-zero, add-suc}
use native.Mathlib.Omega.{arith}
use lib.ListN.{length}
use lib.Dec.{ltb}
use Rattle.std.proofs.Common.{Result, Ok, Err}
use Rattle.slices.specs.Bytes.{entry}
use Rattle.routine_header.specs.Header.{width}
use Rattle.run_inputs.specs.Inputs.{variables_from, too_great, first_great}
use Rattle.run_inputs.specs.declared.TooGreat.{TooGreat}

-- ---- one word

module _ (bs ins : List ℕ) (n v : ℕ) (vs : List ℕ) where
  pub great_next : ltb (entry ins n) (2 ^ width bs v) ≡ true → first_great bs ins (n + 1) vs ≡ first_great bs ins n (v ∷ vs)
  unfolding first_great
  great_next e = rw e

  pub great_here : ltb (entry ins n) (2 ^ width bs v) ≡ false → too_great n ≡ first_great bs ins n (v ∷ vs)
  unfolding first_great
  great_here e = rw e

-- ---- the variables that begin with a word, of which v were looked at

more : (v n m : ℕ) → n ≡ suc m → variables_from v n ≡ v ∷ variables_from (v + 1) m
unfolding variables_from
more v n m e = rw e

module _ (bs ins : List ℕ) (p : ℕ) where
  -- what is left means what the whole meant
  abbrev pub Left : ℕ → Type 0
  Left v = first_great bs ins v (variables_from v (p - v)) ≡ first_great bs ins 0 (variables_from 0 p)

  pub given_start : Left 0
  given_start = let z : p - 0 ≡ p = omega arith in ap (λ (m : ℕ). first_great bs ins 0 (variables_from 0 m)) z

  module _ (v : ℕ) (l : Left v) where
    left_more : v < p → first_great bs ins v (v ∷ variables_from (v + 1) (p - (v + 1))) ≡ first_great bs ins 0 (variables_from 0 p)
    left_more k = ap (first_great bs ins v) (sym (more v (p - v) (p - (v + 1)) (omega arith))) ∙ l

    pub given_next : v < p → ltb (entry ins v) (2 ^ width bs v) ≡ true → Left (v + 1)
    given_next k e = great_next bs ins v v (variables_from (v + 1) (p - (v + 1))) e ∙ left_more k

    pub given_great : v < p → ltb (entry ins v) (2 ^ width bs v) ≡ false → too_great v ≡ first_great bs ins 0 (variables_from 0 p)
    given_great k e = great_here bs ins v v (variables_from (v + 1) (p - (v + 1))) e ∙ left_more k

    pub given_over : p ≤ v → Ok tt ≡ first_great bs ins 0 (variables_from 0 p)
    unfolding first_great variables_from
    given_over k = let z : p - v ≡ 0 = omega arith in rw z at l

-- ---- one list after another

abbrev then_great : Result (Unit {0}) TooGreat → Result (Unit {0}) TooGreat → Result (Unit {0}) TooGreat
then_great (Ok fit) y = y
then_great (Err word) y = Err word

then_cond : (b : Bool) (x y : Result (Unit {0}) TooGreat) (m : ℕ) → cond b (then_great x y) (too_great m) ≡ then_great (cond b x (too_great m)) y
then_cond true x y m = refl
then_cond false x y m = refl

module _ (bs ins : List ℕ) where
  great_append : (xs ys : List ℕ) (n : ℕ) → first_great bs ins n (xs ++ ys) ≡ then_great (first_great bs ins n xs) (first_great bs ins (n + length xs) ys)
  unfolding first_great
  great_append [] ys n = rw (add-zero n)
  great_append (x ∷ xs) ys n =
      let e : n + 1 + length xs ≡ n + suc (length xs) = omega (arith, add-suc n (length xs)) in
      rw (great_append xs ys (n + 1), e) (then_cond (ltb (entry ins n) (2 ^ width bs x)) (first_great bs ins (n + 1) xs) (first_great bs ins (n + suc (length xs)) ys) n)

variables-length : (n v : ℕ) → length (variables_from v n) ≡ n
unfolding variables_from
variables-length zero v = refl
variables-length (suc n) v = ap suc (variables-length n (v + 1))

module _ (bs ins : List ℕ) (p : ℕ) (ys : List ℕ) where
  both_lists : (r : Result (Unit {0}) TooGreat) → r ≡ first_great bs ins 0 (variables_from 0 p)
      → first_great bs ins 0 (variables_from 0 p ++ ys) ≡ then_great r (first_great bs ins p ys)
  both_lists r is =
      let e : 0 + length (variables_from 0 p) ≡ p = omega (arith, variables-length p 0) in
      rw is (rw (great_append bs ins (variables_from 0 p) ys 0, e))

  pub reads_decide : Ok tt ≡ first_great bs ins 0 (variables_from 0 p) → (q : Result (Unit {0}) TooGreat) → q ≡ first_great bs ins p ys → q ≡ first_great bs ins 0 (variables_from 0 p ++ ys)
  reads_decide is q e = e ∙ sym (both_lists (Ok tt) is)

  pub given_decides : (word : TooGreat) → Err word ≡ first_great bs ins 0 (variables_from 0 p) → Err word ≡ first_great bs ins 0 (variables_from 0 p ++ ys)
  given_decides word is = sym (both_lists (Err word) is)
