-- Soundness: what an accepted proof says of the clauses.
use Rattle.std.specs.Prelude.{◌≡◌, false, List, Result, Ok}
use Rattle.cnf.specs.Clause.{Clause}
use Rattle.cnf.specs.Meaning.{Assign, sat}
use Rattle.proof_check.specs.declared.Refusal.{Refusal}
use Rattle.proof_check.specs.declared.Tally.{Tally}

-- where the verdict accepts, no assignment satisfies the clauses
pub record Refutes (cs : List Clause) (v : Result Tally Refusal) : Type 0 where
  pub none : (tally : Tally) → v ≡ Ok tally → (σ : Assign) → sat σ cs ≡ false
