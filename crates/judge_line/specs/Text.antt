-- A text and a number as bytes.
use Rattle.std.specs.Prelude.{ℕ, zero, suc, ◌+◌, ◌/◌, ◌%◌, List, [], ◌∷◌, ◌++◌}
use Prim.Native.Char.{code}
use Prim.Native.String.{String, [] as empty, ◌∷◌ as ◌before◌}

-- the bytes of a text of ASCII characters
unfoldable pub bytes : String → List ℕ
bytes empty = []
bytes (c before s) = code c ∷ bytes s

-- what stands before the last digit: nothing where the rest of the number is 0
abbrev pub front : (digits : ℕ → List ℕ) → (rest : ℕ) → List ℕ
front digits zero = []
front digits (suc n) = digits (suc n)

-- the decimal digits of n, of which there are at most k
unfoldable pub decimal_by : (k : ℕ) → (n : ℕ) → List ℕ
decimal_by zero n = []
decimal_by (suc k) n = front (decimal_by k) (n / 10) ++ ((48 + n % 10) ∷ [])

-- a number in decimal, with no zeros in front
unfoldable pub decimal : ℕ → List ℕ
decimal n = decimal_by (suc n) n
