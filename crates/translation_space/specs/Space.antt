-- What is told of a translation's space, and note 2's bound on it.
use Rattle.std.specs.Prelude.{ℕ, ◌≡◌, List, Result, Ok, Err}
use Rattle.lead.specs.Lead.{ClaimAdmission, refused, translates, claim_admission}
use Rattle.lead.specs.declared.Target.{Target}
use Rattle.lead.specs.declared.Refusal.{Refusal}
use Rattle.translation_meaning.specs.Translation.{translation_of, translation_size}
use Rattle.translation_meaning.specs.Bound.{Bounded}
use Rattle.translation_meaning.specs.declared.Size.{Size}

-- 1 to 8, 11 and 12 are those of the claim; past them the counts of its translation are told
abbrev pub space_answer_by : (bs : List ℕ) → Target → (ds : List ℕ) → ClaimAdmission → Result Size Refusal
space_answer_by bs t ds (refused refusal) = Err refusal
space_answer_by bs t ds (translates h a k) = Ok (translation_size (translation_of bs t ds h a))

-- what `space` answers
unfoldable pub space_answer : (bs : List ℕ) → Target → (ds : List ℕ) → Result Size Refusal
space_answer bs t ds = space_answer_by bs t ds (claim_admission bs t ds)

-- whatever is told is within the bound
pub record SpaceBounded (bs : List ℕ) (r : Result Size Refusal) : Type 0 where
  pub holds : (s : Size) → r ≡ Ok s → Bounded bs s
