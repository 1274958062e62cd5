-- What is lent to a check.
use Rattle.std.specs.Prelude.{ℕ, ◌-◌, List, length}
use Rattle.proof_check.specs.State.{Limits}

-- what there is room for: a mark for each variable and one more
abbrev pub limits_of : (base : ℕ) → (words starts marks : List ℕ) → Limits
limits_of base words starts marks = record { variables = length marks - 1; words = length words; starts = length starts; base = base }
