-- The line that is printed of a judgement.
use Rattle.std.specs.Prelude.{ℕ, zero, suc, List, ◌++◌, Result, Ok, Err}
use Prim.Native.String.{String}
use Rattle.bitvec.specs.declared.Whole.{Whole}
use Rattle.refusals.specs.Table.{report_row}
use Rattle.report_judgement.specs.declared.Refusal.{Refusal}
use Rattle.report_judgement.specs.declared.Finding.{Finding}
use Rattle.judge_line.specs.Text.{bytes, decimal}

-- a word and a number
abbrev pub named : String → ℕ → List ℕ
named word n = bytes word ++ decimal n

-- a side by its number: 0 below, 1 above
unfoldable pub side_word : ℕ → List ℕ
side_word zero = bytes "below"
side_word (suc n) = bytes "above"

-- a whole number, with its sign
unfoldable pub signed : Whole → List ℕ
signed (Whole.Natural n) = decimal n
signed (Whole.Negative n) = named "-" n

-- the access and the side that are named, and the array that is reached, with its size
unfoldable pub claimed : Finding → List ℕ
claimed f =
    named "accepted access " f.access ++ bytes " side " ++ side_word f.side ++ named " array " f.array ++ named " size " f.size

-- what shows it: the index that the witness has there, and the proof's counts
unfoldable pub shown : Finding → List ℕ
shown f = bytes " index " ++ signed f.index ++ named " steps " f.steps ++ named " hints " f.hints ++ bytes "\n"

-- a refusal, by its number and its place
unfoldable pub refused : Refusal → List ℕ
refused refusal = named "refused " (report_row refusal).number ++ named " place " (report_row refusal).place ++ bytes "\n"

-- the whole line
unfoldable pub line_of : Result Finding Refusal → List ℕ
line_of (Ok f) = claimed f ++ shown f
line_of (Err refusal) = refused refusal
