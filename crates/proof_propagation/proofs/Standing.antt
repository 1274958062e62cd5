-- Clauses that have numbers, where they stand, and the literal that a hint makes true. Assumes nothing.
use Prim.Native.Nat.{ℕ, zero, suc, ◌+◌, ◌-◌, ◌*◌, ◌/◌, ◌<◌, ◌≤◌}
use mathlib.Core.Path.{◌≡◌, refl, sym, ap, subst, ◌∙◌}
use mathlib.Core.List.{List, [], ◌∷◌, ◌++◌}
use mathlib.Core.Bool.{Bool, ◌&&◌, cond}
use mathlib.Core.Logic.{◌⊎◌, inl, inr, ⊎_elim}
use native.Mathlib.Omega.{arith}
use lib.ListN.{length, get_or, take, drop, length-append, get_or-append}
use lib.Seq.{get_or-append_seam, slice}
use Rattle.std.proofs.lemmas.List.{drop-take}
use borrow.Author.Tests.{lt-ltb, le-ltb}
use Rattle.cnf.specs.Clause.{Clause}
use Rattle.proof_reader.specs.Inner.Literals.{run_at}
use Rattle.proof_reader.specs.Inner.Runs.{Runs}
use Rattle.proof_reader.proofs.Running.{run_is, run_length, runs-within}
use Rattle.proof_propagation.specs.Marks.{is_false, undecided}
use Rattle.proof_propagation.specs.Hint.{not_false, all_same, of_left, hint_of}
use Rattle.proof_propagation.specs.Stored.{start_of, end_of, clause_at, first_of, clauses_of}
use Rattle.proof_propagation.specs.Inner.Standing.{stored_at, stored_of, HasMarks}
use Rattle.proof_propagation.specs.declared.Hint.{Hint}
use Rattle.proof_propagation.proofs.Cases.{both, below_or}

-- ---- the first clauses

pub first-length : (f : ℕ → Clause) (n : ℕ) → length (first_of f n) ≡ n
unfolding first_of
first-length f zero = refl
first-length f (suc n) = length-append (first_of f n) (f n ∷ []) ∙ omega (arith, first-length f n)

pub first_at : (f : ℕ → Clause) (n i : ℕ) → i < n → get_or (first_of f n) i [] ≡ f i
unfolding first_of
first_at f zero i h = absurd (omega arith)
first_at f (suc n) i h =
    ⊎_elim
    (λ k. get_or-append (first_of f n) (f n ∷ []) [] i (omega (arith, first-length f n)) ∙ first_at f n i k)
    (λ q. subst (λ (k : ℕ). get_or (first_of f n ++ (f n ∷ [])) k [] ≡ f k) (sym q)
    (subst (λ (k : ℕ). get_or (first_of f n ++ (f n ∷ [])) k [] ≡ f n) (first-length f n)
    (get_or-append_seam (first_of f n) (f n) [] [])))
    (below_or i n h)

-- clauses that agree one by one
pub first-same : (f g : ℕ → Clause) (n : ℕ) → ((i : ℕ) → i < n → f i ≡ g i) → first_of f n ≡ first_of g n
unfolding first_of
first-same f g zero e = refl
first-same f g (suc n) e = rw (first-same f g n (λ i h. e i (omega arith)), e n (omega arith)) refl

-- ---- a part of the words, as the code lends it

pub lent_part : (xs : List ℕ) (from to : ℕ) → from ≤ to → take (to - from) (drop from xs) ≡ slice from to xs
lent_part xs from to h =
    let e : from + (to - from) ≡ to = omega arith in
    sym (subst (λ (k : ℕ). slice from k xs ≡ take (to - from) (drop from xs)) e (drop-take from (to - from) xs))

-- ---- where a clause stands

module _ (w s r : List ℕ) (given i : ℕ) where
  pub stored_given : i < given → stored_at w s r given i ≡ clause_at w s i
  unfolding stored_at
  stored_given h = rw (lt-ltb i given h) refl

  pub stored_step : given ≤ i → stored_at w s r given i ≡ run_at r (start_of s i)
  unfolding stored_at
  stored_step h = rw (le-ltb i given h) refl

  -- one that was given is the part of the words that the code lends
  pub stored_lent : i < given → take (end_of w s i - (start_of s i + 1)) (drop (start_of s i + 1) w) ≡ stored_at w s r given i
  unfolding clause_at
  stored_lent h = lent_part w (start_of s i + 1) (end_of w s i) (omega arith) ∙ sym (stored_given h)

-- a run has fewer literals than the proof has bytes
pub run_few : (r : List ℕ) (at : ℕ) → Runs r at → length (run_at r at) * 5 < length r
run_few r at h = omega (arith, runs-within r at h.0 h.1, run_length r at h.0, ap length (run_is r at h.0 h.1))

-- those given are those in the words
pub stored_all_given : (w s r : List ℕ) (n : ℕ) → stored_of w s r n n ≡ clauses_of w s n
stored_all_given w s r n = first-same (stored_at w s r n) (clause_at w s) n (λ i h. stored_given w s r n i h)

-- a clause where the entry of its number is the same
pub stored_same : (w s s' r : List ℕ) (given i : ℕ) → start_of s' i ≡ start_of s i → stored_at w s' r given i ≡ stored_at w s r given i
unfolding stored_at clause_at
stored_same w s s' r given i e = rw e refl

-- ---- the literal that a hint makes true stands in its clause

unfoldable pub In : ℕ → List ℕ → Type 0
In l [] = ⊥
In l (x ∷ xs) = (l ≡ x) ⊎ In l xs

in_left : (m : List ℕ) (l : ℕ) (c : Clause) → In l (not_false m c) → In l c
unfolding In not_false
in_left m l [] h = h
in_left m l (x ∷ c) h =
    elim (both (is_false m x)) [
      | inl e ↦ inr (in_left m l c (subst (λ (b : Bool). In l (cond b (not_false m c) (x ∷ not_false m c))) e h))
      | inr e ↦ ⊎_elim (λ q. inl q) (λ k. inr (in_left m l c k)) (subst (λ (b : Bool). In l (cond b (not_false m c) (x ∷ not_false m c))) e h)
    ]

left_in : (m : List ℕ) (l : ℕ) (ls : List ℕ) → of_left m ls ≡ Hint.Unit l → In l ls
unfolding In of_left
left_in m l [] e = let z : ◌≡◌ {A = ℕ} 0 1 = cc in absurd (omega arith)
left_in m l (x ∷ ls) e =
    elim (both (all_same x ls && undecided m x)) [
      | inl t ↦ inl (let q : Hint.Unit x ≡ Hint.Unit l = sym (rw t refl) ∙ e in cc)
      | inr f ↦ let q : Hint.Neither ≡ Hint.Unit l = sym (rw f refl) ∙ e in let z : ◌≡◌ {A = ℕ} 0 1 = cc in absurd (omega arith)
    ]

pub unit_in : (m : List ℕ) (l : ℕ) (c : Clause) → hint_of m c ≡ Hint.Unit l → In l c
unfolding hint_of
unit_in m l c e = in_left m l c (left_in m l (not_false m c) e)

fits_in : (n l : ℕ) (c : Clause) → HasMarks n c → In l c → l / 2 < n
unfolding HasMarks In
fits_in n l [] f h = absurd h
fits_in n l (x ∷ c) f h = ⊎_elim (λ q. rw q f.0.1) (λ k. fits_in n l c f.1 k) h

pub unit_fits : (n : ℕ) (m : List ℕ) (l : ℕ) (c : Clause) → HasMarks n c → hint_of m c ≡ Hint.Unit l → l / 2 < n
unit_fits n m l c f e = fits_in n l c f (unit_in m l c e)

-- ---- literals of variables that have a mark

pub fits_snoc : (n : ℕ) (c : Clause) (l : ℕ) → HasMarks n c → 2 ≤ l → l / 2 < n → HasMarks n (c ++ (l ∷ []))
unfolding HasMarks
fits_snoc n [] l f a b = ((a, b), tt)
fits_snoc n (x ∷ c) l f a b = (f.0, fits_snoc n c l f.1 a b)

pub fits_by : (n : ℕ) (c : Clause) → ((j : ℕ) → j < length c → (2 ≤ get_or c j 0) × (get_or c j 0 / 2 < n)) → HasMarks n c
unfolding HasMarks
fits_by n [] h = tt
fits_by n (x ∷ c) h = (h 0 (omega arith), fits_by n c (λ j k. h (suc j) (omega arith)))
