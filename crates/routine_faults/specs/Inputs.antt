-- The words of an input list: how many there are, and which is whose.
use Rattle.std.specs.Prelude.{ℕ, ◌+◌}
use Rattle.routine_header.specs.declared.Header.{Header}
use Rattle.routine_faults.specs.declared.Counts.{Counts}

-- how many variables begin with an input word: all of them, each with the word of its own number. The parameters are the first of them; what the
-- others begin with are the leftovers of the last pick (note 4).
abbrev pub given : Header → ℕ
given h = h.variables

-- the number of the input word that a read gives, the counts before it being k: the reads' words follow in text order
abbrev pub input_number : Header → Counts → ℕ
input_number h k = given h + k.reads

-- how many words an input list has, the counts of the whole routine being k
abbrev pub input_count : Header → Counts → ℕ
input_count h k = input_number h k
