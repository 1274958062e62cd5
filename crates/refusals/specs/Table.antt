-- The table of documents 01 and 02: the number and the place of each refusal, one definition a layer. A refusal that holds one of a lower layer has that one's row.
use Rattle.std.specs.Prelude.{ℕ, Bool, true, false, Result, Ok, Err}
use Rattle.slices.specs.Lent.{buffer_number}
use Rattle.routine_faults.specs.declared.Fault.{Fault}
use Rattle.routine.specs.declared.Refusal as routine
use Rattle.run.specs.declared.Refusal as run
use Rattle.lead.specs.declared.Refusal as lead
use Rattle.translation.specs.declared.Refusal as translation
use Rattle.report_witness.specs.declared.Refusal as witness
use Rattle.proof_check.specs.declared.Refusal as proof
use Rattle.report_judgement.specs.declared.Refusal as report
use Rattle.refusals.specs.declared.Row.{Row}

-- the row with a number and a place
abbrev pub row : (number place : ℕ) → Row
row number place = record { number = number; place = place }

-- rows 3 to 7, which share their place
abbrev pub number_of_fault : Fault → ℕ
number_of_fault Fault.Unknown = 3
number_of_fault Fault.Operand = 4
number_of_fault Fault.Widths = 5
number_of_fault Fault.Misplaced = 6
number_of_fault Fault.TooMany = 7

-- refusals of a routine
abbrev pub routine_row : routine.Refusal → Row
routine_row routine.Refusal.Length = row 1 0
routine_row (routine.Refusal.Header at) = row 2 at
routine_row (routine.Refusal.Command fault at) = row (number_of_fault fault) at
routine_row (routine.Refusal.Trailing at) = row 8 at

-- refusals of a run
abbrev pub run_row : run.Refusal → Row
run_row (run.Refusal.Routine refusal) = routine_row refusal
run_row (run.Refusal.InputCount given) = row 9 given
run_row (run.Refusal.Input number) = row 10 number
run_row (run.Refusal.TooSmall buffer) = row 16 (buffer_number buffer)

-- refusals of a lead
abbrev pub lead_row : lead.Refusal → Row
lead_row (lead.Refusal.Routine refusal) = routine_row refusal
lead_row (lead.Refusal.DecisionCount given) = row 11 given
lead_row (lead.Refusal.OutOfRange at) = row 12 at

-- refusals of a translation
abbrev pub translation_row : translation.Refusal → Row
translation_row (translation.Refusal.Lead refusal) = lead_row refusal
translation_row (translation.Refusal.TooSmall buffer) = row 16 (buffer_number buffer)

-- refusals of a report as far as its proof
abbrev pub witness_row : witness.Refusal → Row
witness_row (witness.Refusal.Lead refusal) = lead_row refusal
witness_row (witness.Refusal.Cut length) = row 11 length
witness_row (witness.Refusal.Input number) = row 10 number
witness_row (witness.Refusal.Astray number) = row 13 number
witness_row (witness.Refusal.Missed access) = row 14 access
witness_row (witness.Refusal.OffSide access) = row 15 access

-- what the call that hands back one of two reports tells: 26 where they are not alike (02, note 5), 0 and 0 where there is no refusal
abbrev pub pair_row : Result Bool witness.Refusal → Row
pair_row (Err refusal) = witness_row refusal
pair_row (Ok false) = row 26 0
pair_row (Ok true) = row 0 0

-- refusals of a proof
abbrev pub proof_row : proof.Refusal → Row
proof_row (proof.Refusal.Unreadable at) = row 17 at
proof_row (proof.Refusal.Literal at) = row 18 at
proof_row (proof.Refusal.NoClause at) = row 19 at
proof_row (proof.Refusal.Neither at) = row 20 at
proof_row (proof.Refusal.NoConflict at) = row 21 at
proof_row (proof.Refusal.AfterConflict at) = row 22 at
proof_row (proof.Refusal.OutOfPlace at) = row 23 at
proof_row (proof.Refusal.Trailing after) = row 24 after
proof_row (proof.Refusal.Full at) = row 25 at

-- refusals of a report
abbrev pub report_row : report.Refusal → Row
report_row (report.Refusal.Witness refusal) = witness_row refusal
report_row (report.Refusal.TooSmall buffer) = row 16 (buffer_number buffer)
report_row (report.Refusal.Proof refusal) = proof_row refusal
