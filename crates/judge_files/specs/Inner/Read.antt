-- What the reading of a file into a lent buffer tells.
use Rattle.std.specs.Prelude.{List, ℕ, take, Option, Some, None}
use Rattle.io.specs.Counts.{IsPrefixLen}
use Rattle.judge_files.specs.Printed.{File, unreadable, readable}

-- the bytes that were read stand at the beginning of the buffer
abbrev pub Within : Option ℕ → List ℕ → Type 0
Within (Some n) buffer = IsPrefixLen n buffer
Within None buffer = Unit {0}

-- what the file gave
abbrev pub file_of : Option ℕ → List ℕ → File
file_of (Some n) buffer = readable (take n buffer)
file_of None buffer = unreadable
