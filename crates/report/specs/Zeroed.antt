-- What judging leaves in the lent buffers, on every return: zeros in the first 16,777,216 entries, and what lies beyond unchanged.
use Rattle.std.specs.Prelude.{ℕ, ◌≡◌, List, Result}
use Rattle.slices.specs.Lent.{usable, zeroed}
use Rattle.report_judgement.specs.Proof.{Room}
use Rattle.report_judgement.specs.Judging.{judgement}
use Rattle.report_judgement.specs.declared.Finding.{Finding}
use Rattle.report_judgement.specs.declared.Refusal.{Refusal}

-- what is lent and used
abbrev pub room_in : (words starts marks values trail : List ℕ) → Room
room_in words starts marks values trail =
    record { words = usable words; starts = usable starts; marks = usable marks; values = usable values; trail = usable trail }

-- the answer is j, and each buffer became the one that is named with ₁
pub record Judges (bs r words starts marks values trail words₁ starts₁ marks₁ values₁ trail₁ : List ℕ) (j : Result Finding Refusal) : Type 0 where
  pub answer : j ≡ judgement bs r (room_in words starts marks values trail)
  pub words_left : words₁ ≡ zeroed words
  pub starts_left : starts₁ ≡ zeroed starts
  pub marks_left : marks₁ ≡ zeroed marks
  pub values_left : values₁ ≡ zeroed values
  pub trail_left : trail₁ ≡ zeroed trail
