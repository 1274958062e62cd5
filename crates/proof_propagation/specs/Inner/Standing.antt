-- The clauses of a check, those that were given and those of steps, and what is asked of them.
use Rattle.std.specs.Prelude.{ℕ, ◌/◌, ◌≤◌, ◌<◌, List, [], ◌∷◌, cond, length, ltb}
use Rattle.cnf.specs.Clause.{Clause}
use Rattle.proof_reader.specs.Inner.Literals.{run_at}
use Rattle.proof_reader.specs.Inner.Runs.{Runs}
use Rattle.proof_propagation.specs.Stored.{start_of, end_of, clause_at, first_of}

-- clause i: the first `given` stand in the words, and the others in the proof r, where the entry of the starts is the offset of the first literal
unfoldable pub stored_at : (words starts r : List ℕ) → (given i : ℕ) → Clause
unfolding clause_at
stored_at words starts r given i = cond (ltb i given) (clause_at words starts i) (run_at r (start_of starts i))

-- the first n clauses
abbrev pub stored_of : (words starts r : List ℕ) → (given n : ℕ) → List Clause
stored_of words starts r given n = first_of (stored_at words starts r given) n

-- the literals are of variables that have a mark
unfoldable pub HasMarks : ℕ → Clause → Type 0
HasMarks marks [] = Prim.Unit {0}
HasMarks marks (l ∷ c) = ((2 ≤ l) × (l / 2 < marks)) × HasMarks marks c

-- clause i lies within the words, or is a run of literals in the proof, and its literals are of variables that have a mark
pub record Stands (words starts r : List ℕ) (given marks i : ℕ) : Type 0 where
  pub listed : i < length starts
  pub inside : i < given → end_of words starts i ≤ length words
  pub runs : given ≤ i → Runs r (start_of starts i)
  pub fits : HasMarks marks (stored_at words starts r given i)

-- a run that begins in the first part of a proof ends there
abbrev pub InPart : (first starts : List ℕ) → (given i : ℕ) → Type 0
InPart first starts given i = given ≤ i → start_of starts i < length first → Runs first (start_of starts i)
