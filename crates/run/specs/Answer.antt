-- What a run answers, and what it leaves in the lent buffers.
use Rattle.std.specs.Prelude.{ℕ, ◌≡◌, List, cond, length, leb, Option, Result, Ok, Err}
use Rattle.slices.specs.declared.Buffer.{Buffer}
use Rattle.routine.specs.Routine.{Arm}
use Rattle.routine.specs.Decode.{Decoded, rejected, routine, decode}
use Rattle.routine_header.specs.declared.Header.{Header}
use Rattle.routine_faults.specs.declared.Counts.{Counts}
use Rattle.run_inputs.specs.Inputs.{listed}
use Rattle.run_state.specs.State.{over}
use Rattle.run_state.specs.Run.{run_of}
use Rattle.run_inputs.specs.declared.Refusal as listing
use Rattle.run_inputs.specs.declared.Refusal.TheVariants.{Miscounted, TooGreat}
use Rattle.run_state.specs.declared.Stop.{Stop}
use Rattle.run_state.specs.declared.State.{State}
use Rattle.run.specs.declared.Refusal.{Refusal}

-- whether there is a run: the refusal, or the routine
pub data RunAdmission : Type 0 where
  refused : Refusal → RunAdmission
  runs : Header → Arm → Counts → RunAdmission

-- 16: a value for each variable, a byte for each if
abbrev pub roomy : (values trail : ℕ) → Header → Arm → Counts → RunAdmission
roomy values trail h a k =
    cond (leb h.variables values)
    (cond (leb k.ifs trail) (runs h a k) (refused (Refusal.TooSmall Buffer.Trail)))
    (refused (Refusal.TooSmall Buffer.Values))

-- why there is no run on a list of so many words that 9 or 10 refuses
abbrev pub by_inputs : (given : ℕ) → listing.Refusal → Refusal
by_inputs given Miscounted = Refusal.InputCount given
by_inputs given (TooGreat n) = Refusal.Input n

-- 9 and 10, then 16; `given` words were given
abbrev pub by_list : (given values trail : ℕ) → Header → Arm → Counts → Result (Unit {0}) listing.Refusal → RunAdmission
by_list given values trail h a k (Ok fit) = roomy values trail h a k
by_list given values trail h a k (Err refusal) = refused (by_inputs given refusal)

-- 1 to 8, then 9, 10 and 16
abbrev pub run_by_routine : (bs ins : List ℕ) → (values trail : ℕ) → Decoded → RunAdmission
run_by_routine bs ins values trail (rejected refusal) = refused (Refusal.Routine refusal)
run_by_routine bs ins values trail (routine h a k) = by_list (length ins) values trail h a k (listed bs ins h a k)

-- whether there is a run of the routine on the input list, with so many values and trail bytes lent
unfoldable pub run_admission : (bs ins : List ℕ) → (values trail : ℕ) → RunAdmission
run_admission bs ins values trail = run_by_routine bs ins values trail (decode bs)

-- the answer (the access that stopped the run, if one did; or the refusal), and both buffers
pub record RunAnswer : Type 0 where
  pub ran : Result (Option Stop) Refusal
  pub values : List ℕ
  pub trail : List ℕ

-- what a run that left the state s answers: the values and the trail are handed out, and what lies beyond is unchanged
abbrev pub handed_out : Header → Counts → (values trail : List ℕ) → State → RunAnswer
handed_out h k values trail s =
    record { ran = Ok s.stop; values = over h.variables s.values values; trail = over k.ifs s.trail trail }

-- a refusal leaves both buffers unchanged
abbrev pub run_answer_by : (bs ins values trail : List ℕ) → RunAdmission → RunAnswer
run_answer_by bs ins values trail (refused refusal) = record { ran = Err refusal; values = values; trail = trail }
run_answer_by bs ins values trail (runs h a k) = handed_out h k values trail (run_of bs ins h a).state

-- what `run` answers
unfoldable pub run_answer : (bs ins values trail : List ℕ) → RunAnswer
run_answer bs ins values trail = run_answer_by bs ins values trail (run_admission bs ins (length values) (length trail))

-- the answer is r, and the buffers became values₁ and trail₁
pub record RunAnswers (bs ins values trail values₁ trail₁ : List ℕ) (r : Result (Option Stop) Refusal) : Type 0 where
  pub equal : ◌≡◌ {A = RunAnswer} (record { ran = r; values = values₁; trail = trail₁ }) (run_answer bs ins values trail)
