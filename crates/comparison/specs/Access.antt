-- The literal "above": an index against an array's size.
use Rattle.std.specs.Prelude.{Bool, cond, ◌-◌, ◌/◌, ◌^◌, ℕ, ltb}
use Rattle.arithmetic.specs.Bits.{Bits}
use Rattle.arithmetic.specs.Circuit.{Predicate, never}
use Rattle.arithmetic.specs.Extend.{const_bit}
use Rattle.comparison.specs.Compare.{at_least_signed}

-- the size is beyond the greatest index of w bits
abbrev pub beyond : ℕ → ℕ → Bool
beyond size w = ltb 0 (size / 2 ^ (w - 1))

-- 3 without gates where no index reaches the size, else index ≥s size
abbrev pub above : ℕ → Bits → ℕ → ℕ → Predicate
above g a size w = cond (beyond size w) never (at_least_signed g a (const_bit size) w)
