-- What `space` tells decides what a translation answers. Assumes nothing.
use Rattle.std.specs.Prelude.{Result, Ok, Err}
use mathlib.Core.Path.{◌≡◌, refl, ap, ◌∙◌}
use mathlib.Core.List.{List}
use mathlib.Core.Bool.{Bool, true, false, cond, not, ◌||◌}
use Prim.Native.Nat.{ℕ, ◌<◌, ◌≤◌}
use native.Mathlib.Omega.{arith}
use lib.ListN.{length}
use lib.Dec.{ltb, leb}
use borrow.Author.Tests.{ltb-true, ltb-false, le-leb, lt-leb}
use Rattle.slices.specs.Lent.{usable}
use Rattle.routine_header.specs.declared.Header.{Header}
use Rattle.lead.specs.Inner.Admitted.{claim_admitted}
use Rattle.lead.specs.declared.Refusal as lead
use Rattle.lead.specs.Lead.{ClaimAdmission, refused, translates, claim_admission}
use Rattle.lead.specs.declared.Target.{Target}
use Rattle.translation_command.specs.Command.{Encoding}
use Rattle.translation_meaning.specs.Translation.{translation_of, translation_size}
use Rattle.translation_space.specs.Space.{space_answer_by, space_answer}
use Rattle.translation.specs.Answer.{TranslationAnswer, fitted, translation_answer_by, translation_answer, TranslationAnswers}
use Rattle.translation_meaning.specs.declared.Size.{Size}
use Rattle.translation.specs.declared.Refusal.{Refusal}
use Rattle.translation.specs.Inner.Fitted.{Fitted}
use Rattle.translation.specs.Foretold.{too_small, foretold_by, Foretold}
use Rattle.translation.proofs.Admitting.{refuses, fits}

-- what is used of a buffer does not suffice exactly when it is too small
small_is : (lent : List ℕ) (n : ℕ) → too_small lent n ≡ not (leb n (usable lent))
small_is lent n =
    pick (ltb (length lent) n) refl _
    (λ f. let l = ltb-true _ n f in omega arith)
    (λ f m. let l = ltb-false _ n f in omega arith)
  where
    -- q is the test of the limit
    pick : (p : Bool) → ltb (length lent) n ≡ p → (q : Bool) → (q ≡ true → usable lent < n) → (q ≡ false → n ≤ length lent → n ≤ usable lent)
        → (p || q) ≡ not (leb n (usable lent))
    pick true e q f g = let l = ltb-true (length lent) n e in rw (lt-leb n (usable lent) (omega arith)) refl
    pick false e true f g = rw (lt-leb n (usable lent) (f refl)) refl
    pick false e false f g = rw (le-leb n (usable lent) (g refl (ltb-false (length lent) n e))) refl

-- of three answers, by two tests
chosen : (p q : Bool) (a b c : TranslationAnswer) → (cond p (cond q a b) c).translated ≡ cond (not p) c.translated (cond (not q) b.translated a.translated)
chosen true true a b c = refl
chosen true false a b c = refl
chosen false q a b c = refl

fits_as_told : (words starts : List ℕ) (x : Encoding) → (fitted words starts x).translated ≡ foretold_by words starts (Ok (translation_size x))
fits_as_told words starts x =
    rw (small_is words (translation_size x).words, small_is starts (translation_size x).clauses)
    (chosen (leb (translation_size x).words (usable words)) (leb (translation_size x).clauses (usable starts)) _ _ _)

module _ (bs : List ℕ) (t : Target) (ds words starts : List ℕ) where
  as_told_by : (x : ClaimAdmission) → (translation_answer_by bs t ds words starts x).translated ≡ foretold_by words starts (space_answer_by bs t ds x)
  as_told_by (refused refusal) = refl
  as_told_by (translates h a k) = fits_as_told words starts (translation_of bs t ds h a)

  -- whatever a translation answers was foretold
  pub foretold : {words₁ starts₁ : List ℕ} {r : Result Size Refusal} → TranslationAnswers bs t ds words starts words₁ starts₁ r → Foretold bs t ds words starts r
  unfolding translation_answer space_answer
  foretold x = record { equal = ap (λ (y : TranslationAnswer). y.translated) x.equal ∙ as_told_by (claim_admission bs t ds) }

  -- a refusal of the claim
  pub refusal_foretold : (refusal : lead.Refusal) → claim_admitted bs t ds ≡ Err refusal → Foretold bs t ds words starts (Err (Refusal.Lead refusal))
  refusal_foretold refusal e = foretold (refuses bs t ds words starts refusal e)

  -- what fits in the buffers, and what does not
  pub fit_foretold : (h : Header) → claim_admitted bs t ds ≡ Ok h → (x : Result Size Refusal) (words₁ starts₁ : List ℕ)
      → Fitted bs h t ds words starts words₁ starts₁ x → Foretold bs t ds words starts x
  fit_foretold h e x words₁ starts₁ f = foretold (fits bs t ds words starts h e x words₁ starts₁ f)
