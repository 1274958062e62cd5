-- The scan of a clause: what is known of the literals passed is the one literal found, or none.
use Rattle.std.specs.Prelude.{ℕ, ◌/◌, ◌<◌, ◌≡◌, List, ◌∷◌, cond, length, eqb}
use Rattle.cnf.specs.Clause.{Clause}
use Rattle.proof_propagation.specs.Hint.{not_false, of_left}
use Rattle.proof_propagation.specs.declared.Hint.{Hint}

-- the literal found, in front of what is left, where one was found: no literal is 0
abbrev pub before : ℕ → List ℕ → List ℕ
before f ls = cond (eqb f 0) ls (f ∷ ls)

-- what a scan says from a found literal and a rest of the clause
unfoldable pub scan_of : List ℕ → ℕ → Clause → Hint
unfolding of_left not_false
scan_of m f c = of_left m (before f (not_false m c))

-- a found literal is of a variable that has a mark
abbrev pub FoundFits : List ℕ → ℕ → Type 0
FoundFits m f = (f ≡ 0 → ⊥) → f / 2 < length m
