-- What the functions of judging tell each other, over the parts of the buffers that are used.
use Rattle.std.specs.Prelude.{◌≡◌, ℕ, List, length, replicate, Result}
use Rattle.report_judgement.specs.Proof.{Room}
use Rattle.report_judgement.specs.Judging.{judgement}
use Rattle.report_judgement.specs.declared.Finding.{Finding}
use Rattle.report_judgement.specs.declared.Refusal.{Refusal}

-- what is lent
abbrev pub room_of : (words starts marks : List ℕ) → (values trail : ℕ) → Room
room_of words starts marks values trail =
    record { words = length words; starts = length starts; marks = length marks; values = values; trail = trail }

-- the answer is j, and each buffer, named with ₁, is zeroed
pub record JudgesParts (bs r words starts marks values trail words₁ starts₁ marks₁ values₁ trail₁ : List ℕ) (j : Result Finding Refusal) : Type 0 where
  pub answer : j ≡ judgement bs r (room_of words starts marks (length values) (length trail))
  pub words_left : words₁ ≡ replicate (length words) 0
  pub starts_left : starts₁ ≡ replicate (length starts) 0
  pub marks_left : marks₁ ≡ replicate (length marks) 0
  pub values_left : values₁ ≡ replicate (length values) 0
  pub trail_left : trail₁ ≡ replicate (length trail) 0
