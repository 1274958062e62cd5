-- The bits of a number: a literal for each place, the lowest first.
use Rattle.std.specs.Prelude.{List, [], ◌++◌, ◌∷◌, suc, zero, ℕ, get_or, take, drop}

-- the bits of a number: a literal for each place
abbrev pub Bits : Type 0
Bits = ℕ → ℕ

-- the places of an array of bits: one more than the widest number has
abbrev pub places : ℕ
places = 33

-- the bits that a list of literals holds
abbrev pub lit_at : List ℕ → Bits
lit_at l j = get_or l j 0

-- the bits of the w literals from a place on
abbrev pub bits_at : (lits : List ℕ) → (place w : ℕ) → Bits
bits_at lits place w = lit_at (take w (drop place lits))

-- the list of the first w bits
unfoldable pub tabulate : Bits → ℕ → List ℕ
tabulate f zero = []
tabulate f (suc w) = tabulate f w ++ (f w ∷ [])
