-- What is said of an input list, by how many words it has. Assumes nothing.
use mathlib.Core.Path.{◌≡◌, refl, ap, ◌∙◌}
use mathlib.Core.List.{List}
use Prim.Native.Nat.{ℕ}
use lib.ListN.{length}
use borrow.Author.Tests.{eq-eqb, ne_eqb}
use Rattle.std.proofs.Common.{Result, Ok, Err, MatchResult}
use Rattle.std.specs.Result.{IsErrAnd}
use Rattle.routine_faults.specs.Inputs.{input_count}
use Rattle.routine.specs.Routine.{Arm}
use Rattle.routine_header.specs.declared.Header.{Header}
use Rattle.routine_faults.specs.declared.Counts.{Counts}
use Rattle.run_inputs.specs.Inputs.{words_fit, by_words, listed}
use Rattle.run_inputs.specs.declared.TooGreat.{TooGreat}
use Rattle.run_inputs.specs.declared.Refusal.{Refusal}

module _ (bs ins : List ℕ) (h : Header) (a : Arm) (k : Counts) where
  pub miscounted : (length ins ≡ input_count h k → ⊥) → Err Refusal.Miscounted ≡ listed bs ins h a k
  unfolding listed
  miscounted f = rw (ne_eqb _ _ f) refl

  pub counted : length ins ≡ input_count h k → (w : Result (Unit {0}) TooGreat) → w ≡ words_fit bs ins h a → by_words w ≡ listed bs ins h a k
  unfolding listed
  counted e w is = rw (eq-eqb _ _ e) (ap by_words is)

  -- where an answer tells a word that is too great by its number
  pub told : length ins ≡ input_count h k → (w : Result (Unit {0}) TooGreat) → w ≡ words_fit bs ins h a → (r : Result (Unit {0}) Refusal)
      → MatchResult w (λ fit. r ≡ Ok fit) (λ word. IsErrAnd r (λ refusal. refusal ≡ Refusal.TooGreat word.0)) → r ≡ listed bs ins h a k
  told e w is r m = by_word w r m ∙ counted e w is
    where
      by_word : (w : Result (Unit {0}) TooGreat) (r : Result (Unit {0}) Refusal)
          → MatchResult w (λ fit. r ≡ Ok fit) (λ word. IsErrAnd r (λ refusal. refusal ≡ Refusal.TooGreat word.0)) → r ≡ by_words w
      by_word (Ok fit) r m = m
      by_word (Err word) (Ok fit) m = absurd m
      by_word (Err word) (Err refusal) m = ap Err m
