-- Note 2's bound on what a translation takes.
use Rattle.std.specs.Prelude.{ℕ, ◌+◌, ◌*◌, ◌≤◌, ◌≡◌, List}
use Rattle.routine.specs.Routine.{Arm}
use Rattle.routine.specs.Decode.{routine, decode}
use Rattle.routine.specs.Extent.{greatest_width, command_count}
use Rattle.routine_header.specs.declared.Header.{Header}
use Rattle.routine_faults.specs.declared.Counts.{Counts}
use Rattle.translation_meaning.specs.declared.Size.{Size}

-- the most variables, w being the greatest width, n the commands and f the ifs
abbrev pub most_variables : (w n f : ℕ) → ℕ
most_variables w n f = 1 + 32 * w + 4 * w * (w + 1) * n + (32 * w + 1) * f

-- the same of a routine
abbrev pub most_of : List ℕ → Header → Arm → Counts → ℕ
most_of bs h a k = most_variables (greatest_width bs h.variables) (command_count a) k.ifs

-- the bytes are a routine, and of this size are at most that many variables, 6 times as many clauses and 24 times as many words
pub record Bounded (bs : List ℕ) (s : Size) : Type 0 where
  pub header : Header
  pub commands : Arm
  pub counts : Counts
  pub decodes : decode bs ≡ routine header commands counts
  pub variables : s.variables ≤ most_of bs header commands counts
  pub clauses : s.clauses ≤ 6 * most_of bs header commands counts
  pub words : s.words ≤ 24 * most_of bs header commands counts
