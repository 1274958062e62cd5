-- What the slices of a store hold.
use Rattle.std.specs.Prelude.{ℕ, List, ◌++◌}
use Rattle.cnf.specs.Clause.{Clause}
use Rattle.proof_propagation.specs.Inner.Standing.{stored_at}
use Rattle.proof_propagation.specs.declared.stored.ClauseStore.{ClauseStore}

-- the whole proof: its two slices one after the other
abbrev pub proof_of : ClauseStore → List ℕ
proof_of c = c.closed.now ++ c.proof.now

-- clause i
abbrev pub clause_in : ClauseStore → (starts : List ℕ) → (given i : ℕ) → Clause
clause_in c starts given i = stored_at c.words.now starts (proof_of c) given i
