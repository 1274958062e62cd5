-- What the rows of a multiplication take.
use Rattle.std.specs.Prelude.{◌*◌, ◌+◌, ◌-◌, suc, zero, ℕ}

-- the first k rows of w bits, where an AND takes x and a place of a sum takes y
unfoldable pub rows_take : (x y w k : ℕ) → ℕ
rows_take x y w zero = 0
rows_take x y w (suc k) = rows_take x y w k + x * (w - k) + y * w
