-- The lent `answer`: how many entries it has at least, and answers as its entries, in their order.
use Rattle.std.specs.Prelude.{ℕ, List, [], ◌∷◌, Bool, cond, Option, Some, None}
use Rattle.bitvec.specs.declared.Whole.{Whole}
use Rattle.routine_header.specs.Header.{first_command}
use Rattle.routine_header.specs.declared.Header.{Header}
use Rattle.routine_faults.specs.Step.{accesses}
use Rattle.routine_faults.specs.declared.Counts.{Counts}
use Rattle.routine.specs.declared.Accepted.{Accepted}
use Rattle.run_state.specs.Side.{side_number}
use Rattle.run_state.specs.declared.Side.{Side}
use Rattle.run_state.specs.declared.Stop.{Stop}
use Rattle.translation_meaning.specs.declared.Size.{Size}
use Rattle.proof_check.specs.declared.Tally.{Tally}
use Rattle.report_judgement.specs.declared.Finding.{Finding}

-- the entries that `answer` has at least; one with fewer is short
abbrev pub answer_entries : ℕ
answer_entries = 16

-- 1 if a whole number is negative
abbrev pub is_negative : Whole → ℕ
is_negative (Whole.Natural n) = 0
is_negative (Whole.Negative n) = 1

-- its magnitude
abbrev pub magnitude : Whole → ℕ
magnitude (Whole.Natural n) = n
magnitude (Whole.Negative n) = n

-- variables, parameters, arrays, ifs, accesses, reads, offset of the first command
abbrev pub counts_of : Header → Counts → List ℕ
counts_of h k = h.variables ∷ h.parameters ∷ h.arrays ∷ k.ifs ∷ accesses k ∷ k.reads ∷ first_command h ∷ []

-- stopped: 1, access, side, 1 if the index is negative, its magnitude
abbrev pub stopped_of : (access : ℕ) → Whole → Side → List ℕ
stopped_of access index side = 1 ∷ access ∷ side_number side ∷ is_negative index ∷ magnitude index ∷ []

-- the counts of an accepted routine
abbrev pub accepted_of : Accepted → List ℕ
accepted_of a = counts_of a.header a.counts

-- what a run came to: 0 for an end, and nothing more
abbrev pub ran_of : Option Stop → List ℕ
ran_of None = 0 ∷ []
ran_of (Some stop) = stopped_of stop.access stop.index stop.side

-- clauses, words, variables
abbrev pub sizes_of : Size → List ℕ
sizes_of size = size.clauses ∷ size.words ∷ size.variables ∷ []

-- the steps closed and the hints read of a proof
abbrev pub tally_of : Tally → List ℕ
tally_of tally = tally.steps ∷ tally.hints ∷ []

-- access, side, array, size, 1 if the index is negative, its magnitude, steps, hints
abbrev pub judged_of : Finding → List ℕ
judged_of f = f.access ∷ f.side ∷ f.array ∷ f.size ∷ is_negative f.index ∷ magnitude f.index ∷ f.steps ∷ f.hints ∷ []

-- 1 for yes
abbrev pub answer_number : Bool → ℕ
answer_number b = cond b 1 0

-- whether two reports are alike
abbrev pub alike_of : Bool → List ℕ
alike_of b = answer_number b ∷ []
