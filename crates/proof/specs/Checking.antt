-- What a check answers to anyone who asks, whatever the buffers hold.
use Rattle.std.specs.Prelude.{ℕ, ◌+◌, ◌≡◌, List, Bool, false, ◌&&◌, cond, length, take, leb, Result, Ok, Err}
use Rattle.slices.specs.Lent.{usable, zeroed}
use Rattle.cnf.specs.Clause.{Clause}
use Rattle.cnf.specs.Meaning.{Assign, sat}
use Rattle.proof_propagation.specs.Stored.{clauses_of}
use Rattle.proof_check.specs.State.{Limits}
use Rattle.proof_check.specs.Check.{check_proof}
use Rattle.proof_check.specs.declared.Refusal as Check
use Rattle.proof_check.specs.declared.Tally.{Tally}
use Rattle.std.specs.Option.{is_some}
use Rattle.proof.specs.Fit.{standing}
use Rattle.proof.specs.declared.Refusal.{Refusal}

-- the part of a buffer that is used
abbrev pub part : List ℕ → List ℕ
part xs = take (usable xs) xs

-- what is said of a proof, as the answer
abbrev pub checked_by : Result Tally Check.Refusal → Result Tally Refusal
checked_by (Ok tally) = Ok tally
checked_by (Err refusal) = Err (Refusal.Proof refusal)

-- the answer, and the buffers that are written: the words are only read
pub record Checking : Type 0 where
  pub checked : Result Tally Refusal
  pub starts : List ℕ
  pub marks : List ℕ

-- the report is not too long, and the proof begins in it or at its end; there is a mark for each variable and one more
abbrev pub fits : (marks r : List ℕ) → (from variables : ℕ) → Bool
fits marks r from variables = leb (length r) 16777216 && leb from (length r) && leb (variables + 1) (usable marks)

-- the clauses stand in the parts that are used
abbrev pub stand_in : (words starts : List ℕ) → (clauses variables : ℕ) → Bool
stand_in words starts clauses variables = is_some (standing (part words) (part starts) variables clauses 0 0)

-- what there is room for
abbrev pub lent_limits : (words starts : List ℕ) → (variables : ℕ) → Limits
lent_limits words starts variables = record { variables = variables; words = usable words; starts = usable starts; base = 0 }

-- what is said of the proof, over the clauses that stand in the words
abbrev pub verdict_on : (words starts r : List ℕ) → (from clauses variables : ℕ) → Result Tally Check.Refusal
verdict_on words starts r from clauses variables =
    (check_proof (clauses_of (part words) (part starts) clauses) (lent_limits words starts variables) r from).verdict

-- what `prove` answers: starts and marks are zeroed; where the buffers do not hold what is asked, they are left as they were
unfoldable pub checking : (words starts marks r : List ℕ) → (from clauses variables : ℕ) → Checking
checking words starts marks r from clauses variables =
    cond (fits marks r from variables && stand_in words starts clauses variables)
    (record { checked = checked_by (verdict_on words starts r from clauses variables); starts = zeroed starts; marks = zeroed marks })
    (record { checked = Err Refusal.Unfit; starts = starts; marks = marks })

-- the answer is c, and the buffers became starts₁ and marks₁
pub record Checks (words starts marks r : List ℕ) (from clauses variables : ℕ) (starts₁ marks₁ : List ℕ) (c : Result Tally Refusal) : Type 0 where
  pub equal : ◌≡◌ {A = Checking} (record { checked = c; starts = starts₁; marks = marks₁ }) (checking words starts marks r from clauses variables)

-- where the answer accepts, no assignment satisfies the clauses
pub record Unsatisfied (cs : List Clause) (c : Result Tally Refusal) : Type 0 where
  pub none : (tally : Tally) → c ≡ Ok tally → (σ : Assign) → sat σ cs ≡ false
