-- What the whole call answers, from what its parts answered. Assumes nothing.
use Rattle.std.specs.Prelude.{Result, Ok, Err}
use mathlib.Core.Path.{◌≡◌, refl}
use mathlib.Core.List.{List}
use Prim.Native.Nat.{ℕ}
use Rattle.routine.specs.Decode.{IsRoutine}
use Rattle.routine_header.specs.declared.Header.{Header}
use Rattle.lead.specs.Inner.Admitted.{claim_admitted}
use Rattle.lead.specs.declared.Target.{Target}
use Rattle.lead.specs.declared.Refusal as declared
use Rattle.lead.proofs.Leads.{admits, is_routine_by, refused_with}
use Rattle.translation.specs.Answer.{translation_answer, TranslationAnswers}
use Rattle.translation.specs.Inner.Fitted.{Fitted}
use Rattle.translation_meaning.specs.declared.Size.{Size}
use Rattle.translation.specs.declared.Refusal.{Refusal}

module _ (bs : List ℕ) (t : Target) (ds words starts : List ℕ) where
  -- a refusal leaves both buffers as they were
  pub refuses : (refusal : declared.Refusal) → claim_admitted bs t ds ≡ Err refusal
      → TranslationAnswers bs t ds words starts words starts (Err (Refusal.Lead refusal))
  unfolding translation_answer
  refuses refusal e = record { equal = rw (refused_with bs t ds _ refl refusal e) }

  module _ (h : Header) (e : claim_admitted bs t ds ≡ Ok h) where
    -- what is admitted is a routine
    pub is_routine : IsRoutine bs h
    is_routine = is_routine_by bs t ds _ refl h e

    -- what fits in the buffers is answered
    pub fits : (x : Result Size Refusal) (words₁ starts₁ : List ℕ)
        → Fitted bs h t ds words starts words₁ starts₁ x → TranslationAnswers bs t ds words starts words₁ starts₁ x
    unfolding translation_answer
    fits x words₁ starts₁ f =
        let a = admits bs t ds _ refl h e in
        record { equal = rw a.admits (f.tells _ _ a.decodes) }
