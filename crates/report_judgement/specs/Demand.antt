-- Demand 3: what an accepted report says of every run.
use Rattle.std.specs.Prelude.{ℕ, ◌≡◌, List, true, Some, Result, Ok}
use Rattle.slices.specs.Bytes.{entry}
use Rattle.bitvec.specs.declared.Whole.{Whole}
use Rattle.routine_header.specs.Header.{array_size}
use Rattle.routine_header.specs.declared.Header.{Header}
use Rattle.routine_faults.specs.declared.Counts.{Counts}
use Rattle.routine.specs.Routine.{Arm}
use Rattle.routine.specs.Access.{ifs_before}
use Rattle.routine.specs.Decode.{routine, decode}
use Rattle.run_state.specs.Side.{side_number, is_on}
use Rattle.run_state.specs.State.{lies, stop_at}
use Rattle.run_state.specs.declared.Side.{Side}
use Rattle.run_inputs.specs.Inputs.{listed}
use Rattle.run_state.specs.Run.{Execution, run_of}
use Rattle.run_state.specs.Goes.{goes_way, Comes}
use Rattle.report_witness.specs.Lead.{lead_in, decisions_of, inputs_of}
use Rattle.report_judgement.specs.declared.Finding.{Finding}
use Rattle.report_judgement.specs.declared.Refusal.{Refusal}

-- the run stops at the access, with the index, which lies outside the array, on the side of the number
pub record StopsOutside (bs : List ℕ) (h : Header) (access side array : ℕ) (index : Whole) (x : Execution) : Type 0 where
  pub on : Side
  pub named : side_number on ≡ side
  pub stops : x.state.stop ≡ Some (stop_at access index on)
  pub outside : is_on side (lies (array_size bs h array) index) ≡ true

-- the access of a finding overflows, on its side, on the way of the decisions; the witness goes there
pub record Overflows (bs ds witness : List ℕ) (h : Header) (a : Arm) (k : Counts) (f : Finding) : Type 0 where
  pub accepted : listed bs witness h a k ≡ Ok tt
  pub goes : goes_way ds (ifs_before a f.access) (run_of bs witness h a).events ≡ true
  pub comes : Comes f.access f.array f.index (run_of bs witness h a).events
  pub every : (ins : List ℕ) → listed bs ins h a k ≡ Ok tt → goes_way ds (ifs_before a f.access) (run_of bs ins h a).events ≡ true
      → (array : ℕ) (index : Whole) → Comes f.access array index (run_of bs ins h a).events
      → StopsOutside bs h f.access f.side array index (run_of bs ins h a)

-- the bytes are a routine; the report names the access and the side of the finding, whose size is that of its array; and that access overflows, with the
-- decisions and the witness that stand in the report's bytes
pub record Found (bs r : List ℕ) (f : Finding) : Type 0 where
  pub header : Header
  pub commands : Arm
  pub counts : Counts
  pub decodes : decode bs ≡ routine header commands counts
  pub access : f.access ≡ entry r 0
  pub side : f.side ≡ entry r 1
  pub size : f.size ≡ array_size bs header f.array
  pub overflows : Overflows bs (decisions_of (lead_in r header counts) counts) (inputs_of (lead_in r header counts) header counts) header commands counts f

-- Whatever the report holds: if it is accepted, the witness's run goes the report's way and comes to the named access; and every run, of the witness or of
-- any other accepted input list, that goes that way and comes to it stops there, its index outside the array that it reaches there, on the side named. An
-- accepted input list has a word for every variable, parameter or not, and so a finding covers runs from any leftovers (note 4).
pub record Demand3 (bs r : List ℕ) (j : Result Finding Refusal) : Type 0 where
  pub holds : (f : Finding) → j ≡ Ok f → Found bs r f
