-- An accepted input list: each word fits the variable that takes it. Assumes nothing.
use Rattle.routine_command.specs.declared.Mark.{Mark}
use mathlib.Core.Path.{◌≡◌, refl, sym, ap, subst, ◌∙◌}
use mathlib.Core.List.{List, [], ◌∷◌, ◌++◌, append_assoc, append-nil}
use mathlib.Core.Logic.{◌⊎◌, inl, inr}
use mathlib.Core.Bool.{Bool, true, false, cond}
use Prim.Native.Nat.{ℕ, zero, suc, ◌+◌, ◌^◌, ◌<◌, ◌≤◌}
use native.Mathlib.Nat.{add_assoc, add-zero, eq-or-lt_of_le}
use native.Mathlib.Omega.{arith}
use lib.ListN.{length}
use lib.Dec.{ltb, eqb}
use borrow.Author.Tests.{ltb-true}
use Rattle.std.proofs.Common.{Result, Ok, Err}
use Rattle.slices.specs.Bytes.{entry}
use Rattle.routine_header.specs.Header.{width}
use Rattle.routine_faults.specs.Step.{counts_after}
use Rattle.routine_faults.specs.Inputs.{given, input_number, input_count}
use Rattle.routine.specs.Routine.{Arm, done, plain, if_else, text_of}
use Rattle.routine.specs.Decode.{routine, decode, no_counts}
use Rattle.routine.specs.Inner.Stands.{Stands}
use Rattle.routine_header.specs.declared.Header.{Header}
use Rattle.routine_faults.specs.declared.Counts.{Counts}
use Rattle.routine_command.specs.Command.{touches}
use Rattle.routine_command.specs.declared.Conversion.{Conversion}
use Rattle.routine_command.specs.declared.Operation.{Operation}
use Rattle.routine_command.specs.declared.Simple.{Simple}
use Rattle.routine.proofs.Decoded.{decoded}
use Rattle.routine.proofs.Views.{induction}
use Rattle.run_inputs.specs.Inputs.{variables_from, read_first, read_variables, too_great, first_great, words_fit, by_words, listed}
use Rattle.run_inputs.specs.declared.TooGreat.{TooGreat}
use Rattle.run_inputs.specs.declared.Refusal.{Refusal}

-- the words of a text's reads, and then those of another's
pub reads_append : (xs ys : List (Simple Conversion Operation)) → read_variables (xs ++ ys) ≡ read_variables xs ++ read_variables ys
unfolding read_variables
reads_append [] ys = refl
reads_append (Simple.Set d c ∷ xs) ys = reads_append xs ys
reads_append (Simple.Convert op d s ∷ xs) ys = reads_append xs ys
reads_append (Simple.Compute op d s t ∷ xs) ys = reads_append xs ys
reads_append (Simple.Read d array i ∷ xs) ys = ap (λ (z : List ℕ). d ∷ z) (reads_append xs ys)
reads_append (Simple.Write array i s ∷ xs) ys = reads_append xs ys

fit_cond : (b : Bool) (x : Result (Unit {0}) TooGreat) (n : ℕ) → cond b x (too_great n) ≡ Ok tt → (b ≡ true) × (x ≡ Ok tt)
fit_cond true x n e = (refl, e)
fit_cond false x n e = let z : ◌≡◌ {A = ℕ} 0 1 = cc in absurd (omega arith)

pub listed_cond : (b : Bool) (x : Result (Unit {0}) TooGreat) → cond b (by_words x) (Err Refusal.Miscounted) ≡ Ok tt → (b ≡ true) × (x ≡ Ok tt)
listed_cond true (Ok fit) e = (refl, refl)
listed_cond true (Err word) e = let z : ◌≡◌ {A = ℕ} 0 1 = cc in absurd (omega arith)
listed_cond false x e = let z : ◌≡◌ {A = ℕ} 0 1 = cc in absurd (omega arith)

module _ (bs ins : List ℕ) where
  pub one_word : (n v : ℕ) (vs : List ℕ) → first_great bs ins n (v ∷ vs) ≡ Ok tt
      → (entry ins n < 2 ^ width bs v) × (first_great bs ins (n + 1) vs ≡ Ok tt)
  unfolding first_great
  one_word n v vs e =
      let p = fit_cond (ltb (entry ins n) (2 ^ width bs v)) (first_great bs ins (n + 1) vs) n e in
      (ltb-true _ _ p.0, p.1)

  -- the words of n variables from v on
  words_fit_lem : (n v : ℕ) (ys : List ℕ) → first_great bs ins v (variables_from v n ++ ys) ≡ Ok tt
      → ((i : ℕ) → v ≤ i → i < v + n → entry ins i < 2 ^ width bs i) × (first_great bs ins (v + n) ys ≡ Ok tt)
  unfolding variables_from
  words_fit_lem zero v ys e = ((λ i l m. absurd (omega arith)), subst (λ (m : ℕ). first_great bs ins m ys ≡ Ok tt) (sym (add-zero v)) e)
  words_fit_lem (suc n) v ys e =
      let p = one_word v v (variables_from (v + 1) n ++ ys) e in
      let q = words_fit_lem n (v + 1) ys p.1 in
      let z : v + 1 + n ≡ v + suc n = omega arith in
      ((λ i l m. pick i p.0 q.0 m (eq-or-lt_of_le {n = v} {m = i} l)), subst (λ (m : ℕ). first_great bs ins m ys ≡ Ok tt) z q.1)
    where
      pick : (i : ℕ) → entry ins v < 2 ^ width bs v → ((j : ℕ) → v + 1 ≤ j → j < v + 1 + n → entry ins j < 2 ^ width bs j) → i < v + suc n
          → (v ≡ i) ⊎ (v < i) → entry ins i < 2 ^ width bs i
      pick i a b m (inl z) = subst (λ (j : ℕ). entry ins j < 2 ^ width bs j) z a
      pick i a b m (inr l) = b i (omega arith) (omega arith)

  module _ (h : Header) where
    -- the word of a read fits its variable
    abbrev pub FitSimple : Simple Conversion Operation → Counts → Type 0
    FitSimple (Simple.Set d c) k = Unit {0}
    FitSimple (Simple.Convert op d s) k = Unit {0}
    FitSimple (Simple.Compute op d s t) k = Unit {0}
    FitSimple (Simple.Read d array i) k = entry ins (input_number h k) < 2 ^ width bs d
    FitSimple (Simple.Write array i s) k = Unit {0}

    -- the words of all reads of an arm do
    abbrev pub Fit : Arm → Type 0
    Fit done = Unit {0}
    Fit (plain at c k rest) = FitSimple c k × Fit rest
    Fit (if_else at c k first second rest) = Fit first × Fit second × Fit rest

    -- from the counts k on, the words for vs are accepted
    abbrev Good : Counts → List ℕ → Type 0
    Good k vs = first_great bs ins (input_number h k) vs ≡ Ok tt

    simple_fit : (c : Simple Conversion Operation) (k : Counts) (vs : List ℕ) → Good k (read_first (touches c) vs) → FitSimple c k × Good (counts_after c k) vs
    simple_fit (Simple.Set d c) k vs e = (tt, e)
    simple_fit (Simple.Convert op d s) k vs e = (tt, e)
    simple_fit (Simple.Compute op d s t) k vs e = (tt, e)
    simple_fit (Simple.Read d array i) k vs e =
        let p = one_word (input_number h k) d vs e in
        (p.0, subst (λ (m : ℕ). first_great bs ins m vs ≡ Ok tt) (add_assoc (given h) k.reads 1) p.1)
    simple_fit (Simple.Write array i s) k vs e = (tt, e)

    before_append : (c : Simple Conversion Operation) (xs ys : List ℕ) → read_first (touches c) xs ++ ys ≡ read_first (touches c) (xs ++ ys)
    before_append (Simple.Set d c) xs ys = refl
    before_append (Simple.Convert op d s) xs ys = refl
    before_append (Simple.Compute op d s t) xs ys = refl
    before_append (Simple.Read d array i) xs ys = refl
    before_append (Simple.Write array i s) xs ys = refl

    arm_fit : (a : Arm) (depth : ℕ) (close : Mark) (at : ℕ) (k : Counts) (end : ℕ) (k₁ : Counts) → Stands bs h depth close at k a end k₁
        → (vs : List ℕ) → Good k (read_variables (text_of a) ++ vs) → Fit a × Good k₁ vs
    unfolding text_of read_variables
    arm_fit =
        induction bs h (λ depth close at k a end k₁. (vs : List ℕ) → Good k (read_variables (text_of a) ++ vs) → Fit a × Good k₁ vs)
        (λ depth close at k mark e l vs f. (tt, f))
        (λ depth close at k c rest end k₁ v go vs f.
        let p = simple_fit c k (read_variables (text_of rest) ++ vs) (rw (before_append c (read_variables (text_of rest)) vs) at f) in
        let q = go vs p.1 in
        ((p.0, q.0), q.1))
        (λ depth close at k c first second rest end k₁ v go₁ go₂ go₃ vs f.
        let x = read_variables (text_of first) in
        let y = read_variables (text_of second) in
        let z = read_variables (text_of rest) in
        let e : read_variables (text_of first ++ (text_of second ++ text_of rest)) ++ vs ≡ x ++ (y ++ (z ++ vs)) =
        ap (λ (l : List ℕ). l ++ vs) (reads_append (text_of first) (text_of second ++ text_of rest) ∙ ap (λ (l : List ℕ). x ++ l) (reads_append (text_of second) (text_of rest)))
        ∙ append_assoc x (y ++ z) vs ∙ ap (λ (l : List ℕ). x ++ l) (append_assoc y z vs) in
        let p = go₁ (y ++ (z ++ vs)) (subst (Good k) e f) in
        let q = go₂ (z ++ vs) p.1 in
        let r = go₃ vs q.1 in
        ((p.0, q.0, r.0), r.1))

    -- what an accepted input list tells
    pub record Fitting (a : Arm) : Type 0 where
      pub variables : (v : ℕ) → v < given h → entry ins v < 2 ^ width bs v
      pub reads : Fit a

    pub fitting : (a : Arm) (k : Counts) → decode bs ≡ routine h a k → listed bs ins h a k ≡ Ok tt → Fitting a
    unfolding listed words_fit
    fitting a k e f =
        let vs = read_variables (text_of a) in
        let p = words_fit_lem (given h) 0 vs (listed_cond (eqb (length ins) (input_count h k)) _ f).1 in
        let z : 0 + given h ≡ given h + 0 = omega arith in
        let q : first_great bs ins (given h + 0) (vs ++ []) ≡ Ok tt = rw (append-nil vs) (subst (λ (m : ℕ). first_great bs ins m vs ≡ Ok tt) z p.1) in
        let r = arm_fit a 0 Mark.End _ no_counts (length bs) k (decoded bs h a k e).stands [] q in
        record { variables = λ v l. p.0 v (omega arith) (omega arith); reads = r.0 }
