-- Counted first, then written: the three answers. Assumes nothing.
use Rattle.std.specs.Prelude.{Ok, Err}
use mathlib.Core.Path.{◌≡◌, refl, sym, ap, ◌∙◌}
use mathlib.Core.List.{List, [], ◌∷◌, ◌++◌}
use Prim.Native.Nat.{ℕ, suc, ◌+◌, ◌≤◌, ◌<◌}
use native.Mathlib.Omega.{arith}
use lib.ListN.{length, take, drop, set, take-append-drop, length-set}
use lib.Seq.{sets, set-append_left, length-take-le}
use borrow.Author.Tests.{le-leb, lt-leb}
use Rattle.routine.specs.Routine.{Arm}
use Rattle.routine.specs.Decode.{routine, decode}
use Rattle.routine_header.specs.declared.Header.{Header}
use Rattle.routine_faults.specs.declared.Counts.{Counts}
use Rattle.cnf.specs.Clause.{flatten, offsets}
use Rattle.cnf.proofs.Appending.{length-offsets}
use Rattle.translation_meaning.specs.Translation.{translation_of, clauses_of_all, translation_size}
use Rattle.translation_walk.specs.Inner.Walker.{ClaimEncoded}
use Rattle.translation_space.specs.Inner.Counted.{ClaimCounted}
use Rattle.slices.specs.Lent.{usable}
use Rattle.slices.specs.declared.Buffer.{Buffer}
use Rattle.translation.specs.Inner.Fitted.{Fitted}
use Rattle.translation.specs.declared.Refusal.{Refusal}
use Rattle.translation_meaning.specs.declared.Size.{Size}
use Rattle.lead.specs.declared.Target.{Target}

-- ---- an overlay within the first k entries

sets_prefix : (vs a b : List ℕ) (i : ℕ) → i + length vs ≤ length a → sets a i vs ++ b ≡ sets (a ++ b) i vs
sets_prefix [] a b i h = refl
sets_prefix (v ∷ vs) a b i h =
    sets_prefix vs (set a i v) b (suc i) (rw length-set (omega arith))
    ∙ ap (λ (l : List ℕ). sets l (suc i) vs) (sym (set-append_left a b i v (omega arith)))

-- an overlay on the first k entries is one on the whole
pub sets_part : (vs l : List ℕ) (k : ℕ) → k ≤ length l → length vs ≤ k → sets (take k l) 0 vs ++ drop k l ≡ sets l 0 vs
sets_part vs l k h q =
    sets_prefix vs (take k l) (drop k l) 0 (rw (length-take-le k l h) (omega arith)) ∙ ap (λ (z : List ℕ). sets z 0 vs) (take-append-drop k l)

-- ---- the three answers

module _ (bs : List ℕ) (h : Header) (t : Target) (ds words starts : List ℕ) (need : Size) (n : ClaimCounted bs h t ds need) (w c : ℕ)
    (ew : w ≡ usable words) (ec : c ≡ usable starts) where
  words_are : (a : Arm) (k : Counts) → decode bs ≡ routine h a k → need.words ≡ (translation_size (translation_of bs t ds h a)).words
  words_are a k d = ap (λ (s : Size). s.words) (n.size a k d)

  clauses_are : (a : Arm) (k : Counts) → decode bs ≡ routine h a k → need.clauses ≡ (translation_size (translation_of bs t ds h a)).clauses
  clauses_are a k d = ap (λ (s : Size). s.clauses) (n.size a k d)

  pub words_short : w < need.words → Fitted bs h t ds words starts words starts (Err (Refusal.TooSmall Buffer.Words))
  words_short l = record { tells = λ a k d. rw (lt-leb (translation_size (translation_of bs t ds h a)).words (usable words) (omega (arith, words_are a k d))) }

  pub starts_short : need.words ≤ w → c < need.clauses → Fitted bs h t ds words starts words starts (Err (Refusal.TooSmall Buffer.Starts))
  starts_short l q = record { tells = λ a k d. rw (le-leb (translation_size (translation_of bs t ds h a)).words (usable words) (omega (arith, words_are a k d)), lt-leb (translation_size (translation_of bs t ds h a)).clauses (usable starts) (omega (arith, clauses_are a k d))) }

  module _ (l : need.words ≤ w) (q : need.clauses ≤ c) (words₁ starts₁ : List ℕ) (made : Size)
      (m : ClaimEncoded bs h t ds (take w words) (take c starts) words₁ starts₁ made) where
    pub both_fit : Fitted bs h t ds words starts (words₁ ++ drop w words) (starts₁ ++ drop c starts) (Ok made)
    both_fit = record {
      tells = λ a k d.
          let x = translation_of bs t ds h a in
          let lw : length (flatten (clauses_of_all x)) ≤ w = omega (arith, words_are a k d) in
          let lc : length (offsets 0 (clauses_of_all x)) ≤ c = rw (length-offsets 0 (clauses_of_all x)) (omega (arith, clauses_are a k d)) in
          let p = m.written a k d (record { words = rw (length-take-le w words (omega arith)) (omega (arith, lw)); starts = rw (length-take-le c starts (omega arith)) (omega (arith, clauses_are a k d)) }) in
          let ww : words₁ ++ drop w words ≡ sets words 0 (flatten (clauses_of_all x)) =
          ap (λ (y : List ℕ). y ++ drop w words) p.words ∙ sets_part (flatten (clauses_of_all x)) words w (omega arith) lw in
          let ss : starts₁ ++ drop c starts ≡ sets starts 0 (offsets 0 (clauses_of_all x)) =
          ap (λ (y : List ℕ). y ++ drop c starts) p.starts ∙ sets_part (offsets 0 (clauses_of_all x)) starts c (omega arith) lc in
          rw (le-leb (translation_size (translation_of bs t ds h a)).words (usable words) (omega (arith, words_are a k d)), le-leb (translation_size (translation_of bs t ds h a)).clauses (usable starts) (omega (arith, clauses_are a k d)))
          (λ j. record { translated = Ok (m.size a k d j); words = ww j; starts = ss j });
    }
