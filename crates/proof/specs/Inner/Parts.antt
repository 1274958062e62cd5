-- What the check over parts of the buffers that are used tells the one over any buffers.
use Rattle.std.specs.Prelude.{ℕ, ◌≡◌, List, length, replicate, Option, Some, None, Result, Err}
use Rattle.proof_propagation.specs.Stored.{clauses_of}
use Rattle.proof_check.specs.Check.{check_proof}
use Rattle.proof.specs.Fit.{standing}
use Rattle.proof.specs.Checking.{Checking, checked_by}
use Rattle.proof_check.specs.declared.Tally.{Tally}
use Rattle.proof.specs.declared.Refusal.{Refusal}

-- the answer and the parts, by whether the clauses stand there
abbrev pub in_parts : (words starts marks r : List ℕ) → (from clauses variables : ℕ) → Option ℕ → Checking
in_parts words starts marks r from clauses variables (Some used) =
    record {
      checked = checked_by (check_proof (clauses_of words starts clauses) (record { variables = variables; words = length words; starts = length starts; base = 0 }) r from).verdict;
      starts = replicate (length starts) 0;
      marks = replicate (length marks) 0;
    }
in_parts words starts marks r from clauses variables None = record { checked = Err Refusal.Unfit; starts = starts; marks = marks }

-- the answer is c, and the parts became starts₁ and marks₁
pub record InParts (words starts marks r : List ℕ) (from clauses variables : ℕ) (starts₁ marks₁ : List ℕ) (c : Result Tally Refusal) : Type 0 where
  pub equal : ◌≡◌ {A = Checking} (record { checked = c; starts = starts₁; marks = marks₁ }) (in_parts words starts marks r from clauses variables (standing words starts variables clauses 0 0))
