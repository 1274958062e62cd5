-- The undoing of marks.
use Rattle.std.specs.Prelude.{ℕ, List, [], ◌∷◌, set}
use Rattle.proof_propagation.specs.Marks.{variable_of}

-- the variables of these literals are undecided again
unfoldable pub clear : List ℕ → List ℕ → List ℕ
clear m [] = m
clear m (l ∷ c) = clear (set m (variable_of l) 0) c
