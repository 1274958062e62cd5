-- What the judging program prints.
use Rattle.std.specs.Prelude.{ℕ, ◌≤◌, List, cond, length, ltb}
use Rattle.report_judgement.specs.Proof.{Room}
use Rattle.report_judgement.specs.Judging.{judgement}
use Rattle.judge_line.specs.Text.{bytes}
use Rattle.judge_line.specs.Line.{line_of}
use Rattle.judge_line.specs.Writes.{Writes}

-- what a file gave: it cannot be read to its end, or its bytes as far as they are read, none where it is missing
pub data File : Type 0 where
  unreadable : File
  readable : List ℕ → File

-- a file gave at most n bytes
abbrev pub AtMost : (n : ℕ) → File → Type 0
AtMost n unreadable = Unit {0}
AtMost n (readable bs) = length bs ≤ n

-- how much is lent to the judging
abbrev pub lent : Room
lent = record { words = 16384; starts = 16384; marks = 16384; values = 32; trail = 32 }

-- what is printed of a report on a routine: first that a file cannot be read, then that the report is over 65,536 bytes, whatever the routine is
unfoldable pub printed : (routine report : File) → List ℕ
printed unreadable report = bytes "cannot read routine\n"
printed (readable routine) unreadable = bytes "cannot read report\n"
printed (readable routine) (readable report) = cond (ltb 65536 (length report)) (bytes "too long\n") (line_of (judgement routine report lent))

-- what stands at the beginning of a buffer is what is printed of two files, whatever they gave: of a routine 4,097 bytes are read at most, and of a report 65,537
pub record Says (out out₁ : List ℕ) (r : ℕ) : Type 0 where
  pub routine : File
  pub routine-few : AtMost 4097 routine
  pub report : File
  pub report-few : AtMost 65537 report
  pub writes : Writes out 0 (printed routine report) out₁ r
