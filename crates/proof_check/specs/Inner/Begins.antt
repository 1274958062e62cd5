-- What the check of a proof asks and tells.
use Rattle.std.specs.Prelude.{◌≡◌, ℕ, ◌≤◌, List, length}
use Rattle.proof_propagation.specs.declared.stored.ClauseStore.{ClauseStore}
use Rattle.proof_check.specs.Check.{Outcome}
use Rattle.proof_check.specs.Inner.Held.{Store, state_in, Between, Onward, finish_in}
use Rattle.proof_check.specs.declared.Ended.{Ended}
use Rattle.proof_check.specs.declared.Progress.{Progress}

-- what is handed over: given clauses that stand in the words, of variables that have a mark; a proof that begins within bytes that are not too long
pub record Begins (r : List ℕ) (from base count used : ℕ) (words starts marks : List ℕ) : Type 0 where
  pub store : Store words starts r count (length marks) count used
  pub marked : 1 ≤ length marks
  pub short : length words ≤ 16777216
  pub within : from ≤ length r
  pub limit : length r ≤ 16777216
  pub based : base ≤ 16777216

-- what going on from p to the end of the proof did: the definition comes to the same verdict, in the state that is handed back, and from there it can be gone on
pub record Finished (c : ClauseStore) (base : ℕ) (starts marks : List ℕ) (p : Progress) (starts₁ marks₁ trail₁ : List ℕ) (e : Ended) : Type 0 where
  pub same : ◌≡◌ {A = Outcome} (record { verdict = e.verdict; last = state_in c starts₁ marks₁ e.progress }) (finish_in base c starts marks (state_in c starts marks p))
  pub between : Between c starts₁ marks₁ trail₁ e.progress
  pub onward : Onward starts starts₁ p e.progress
