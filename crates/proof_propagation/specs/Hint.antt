-- What a clause says under the marks.
use Rattle.std.specs.Prelude.{ℕ, List, [], ◌∷◌, Bool, true, ◌&&◌, cond, eqb}
use Rattle.cnf.specs.Clause.{Clause}
use Rattle.proof_propagation.specs.Marks.{is_false, undecided}
use Rattle.proof_propagation.specs.declared.Hint.{Hint}

-- the literals that are not false
unfoldable pub not_false : List ℕ → Clause → Clause
not_false m [] = []
not_false m (l ∷ c) = cond (is_false m l) (not_false m c) (l ∷ not_false m c)

-- each is this one
unfoldable pub all_same : ℕ → List ℕ → Bool
all_same l [] = true
all_same l (k ∷ ks) = eqb k l && all_same l ks

-- by the literals that are not false: none is a conflict; one distinct, undecided, becomes true; else it is neither
unfoldable pub of_left : List ℕ → List ℕ → Hint
unfolding all_same
of_left m [] = Hint.Conflict
of_left m (l ∷ ls) = cond (all_same l ls && undecided m l) (Hint.Unit l) Hint.Neither

-- what a clause says
unfoldable pub hint_of : List ℕ → Clause → Hint
unfolding of_left not_false
hint_of m c = of_left m (not_false m c)
