-- Clauses in two lists of words: clause i at the offset that is entry i of the starts, as its count and its literals.
use Rattle.std.specs.Prelude.{ℕ, zero, suc, ◌+◌, List, [], ◌∷◌, ◌++◌, get_or}
use Rattle.std.proofs.Math.Seq.{slice}
use Rattle.cnf.specs.Clause.{Clause}

-- where clause i begins
abbrev pub start_of : List ℕ → ℕ → ℕ
start_of starts i = get_or starts i 0

-- where clause i ends in the words
abbrev pub end_of : List ℕ → List ℕ → ℕ → ℕ
end_of words starts i = start_of starts i + 1 + get_or words (start_of starts i) 0

-- clause i in the words
unfoldable pub clause_at : List ℕ → List ℕ → ℕ → Clause
clause_at words starts i = slice (start_of starts i + 1) (end_of words starts i) words

-- the first n of clauses that have numbers
unfoldable pub first_of : (ℕ → Clause) → ℕ → List Clause
first_of at zero = []
first_of at (suc n) = first_of at n ++ (at n ∷ [])

-- the first n clauses in the words
abbrev pub clauses_of : List ℕ → List ℕ → ℕ → List Clause
clauses_of words starts n = first_of (clause_at words starts) n
