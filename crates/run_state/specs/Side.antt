-- The two sides of an array, their numbers, and an index on one of them.
use Rattle.std.specs.Prelude.{ℕ, Bool, false, eqb, Option, None, Some}
use Rattle.run_state.specs.declared.Side.{Side}
use Rattle.run_state.specs.declared.Side.TheVariants.{Below, Above}

-- the number of a side: 0 below, 1 above
abbrev pub side_number : Side → ℕ
side_number Below = 0
side_number Above = 1

-- an index lies on the side of a number: outside, and there
abbrev pub is_on : (side : ℕ) → Option Side → Bool
is_on side None = false
is_on side (Some on) = eqb side (side_number on)
