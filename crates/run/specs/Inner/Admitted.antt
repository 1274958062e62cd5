-- What the looking at an input list and the room tells, without the tree.
use Rattle.std.specs.Prelude.{ℕ, List, Result, Ok, Err}
use Rattle.routine.specs.Routine.{done}
use Rattle.routine_header.specs.declared.Header.{Header}
use Rattle.routine_faults.specs.declared.Counts.{Counts}
use Rattle.run_inputs.specs.declared.Refusal as listing
use Rattle.routine.specs.declared.Accepted.{Accepted}
use Rattle.run.specs.declared.Refusal.{Refusal}
use Rattle.run.specs.Answer.{RunAdmission, by_inputs, roomy, run_admission, refused, runs}

-- the same without the tree
abbrev pub run_without_tree : RunAdmission → Result Accepted Refusal
run_without_tree (refused refusal) = Err refusal
run_without_tree (runs h a k) = Ok (record { header = h; counts = k })

-- whether nothing is refused
abbrev pub passes : RunAdmission → Result (Unit {0}) Refusal
passes (refused refusal) = Err refusal
passes (runs h a k) = Ok tt

-- what 9 and 10 say of a list of so many words
abbrev pub admitted_inputs : (given : ℕ) → Result (Unit {0}) listing.Refusal → Result (Unit {0}) Refusal
admitted_inputs given (Ok fit) = Ok tt
admitted_inputs given (Err refusal) = Err (by_inputs given refusal)

-- what 16 says to a routine and an input list that passed
unfoldable pub admitted_room : (values trail : ℕ) → Header → Counts → Result (Unit {0}) Refusal
admitted_room values trail h k = passes (roomy values trail h done k)

-- what `admit` answers
unfoldable pub run_admitted : (bs ins : List ℕ) → (values trail : ℕ) → Result Accepted Refusal
run_admitted bs ins values trail = run_without_tree (run_admission bs ins values trail)
