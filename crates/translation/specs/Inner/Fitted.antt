-- What the making of a translation that was let in tells.
use Rattle.std.specs.Prelude.{ℕ, ◌≡◌, List, Result}
use Rattle.routine_header.specs.declared.Header.{Header}
use Rattle.routine_faults.specs.declared.Counts.{Counts}
use Rattle.routine.specs.Routine.{Arm}
use Rattle.routine.specs.Decode.{routine, decode}
use Rattle.lead.specs.declared.Target.{Target}
use Rattle.translation_meaning.specs.Translation.{translation_of}
use Rattle.translation_meaning.specs.declared.Size.{Size}
use Rattle.translation.specs.declared.Refusal.{Refusal}
use Rattle.translation.specs.Answer.{TranslationAnswer, fitted}

-- the same of whatever was decoded: the answer is r, and the buffers became words₁ and starts₁
pub record Fitted (bs : List ℕ) (h : Header) (t : Target) (ds words starts words₁ starts₁ : List ℕ) (r : Result Size Refusal) : Type 0 where
  pub tells : (a : Arm) (k : Counts) → decode bs ≡ routine h a k
      → ◌≡◌ {A = TranslationAnswer} (record { translated = r; words = words₁; starts = starts₁ }) (fitted words starts (translation_of bs t ds h a))
