-- The run of a routine: what it comes to, in order, and the state that it leaves.
use Rattle.std.specs.Prelude.{ℕ, List, [], ◌∷◌, ◌++◌, cond, Option, None, Some}
use Rattle.bitvec.specs.declared.Whole.{Whole}
use Rattle.routine_command.specs.Command.{touches}
use Rattle.routine_faults.specs.Step.{accesses}
use Rattle.routine_faults.specs.Inputs.{given}
use Rattle.routine.specs.Routine.{Arm, done, plain, if_else}
use Rattle.routine_header.specs.declared.Header.{Header}
use Rattle.routine_faults.specs.declared.Counts.{Counts}
use Rattle.routine_command.specs.declared.Condition.{Condition}
use Rattle.routine_command.specs.declared.Conversion.{Conversion}
use Rattle.routine_command.specs.declared.Operation.{Operation}
use Rattle.routine_command.specs.declared.Simple.{Simple}
use Rattle.routine_command.specs.declared.Touch.{Touch}
use Rattle.run_state.specs.State.{initial, with_arm, holds, index_of, executed}
use Rattle.run_state.specs.declared.Stop.{Stop}
use Rattle.run_state.specs.declared.State.{State}

-- what a run comes to: an if, with the arm taken there (0 first, 1 else); or an access, with its array and its index
pub data Event : Type 0 where
  took : (number arm : ℕ) → Event
  came : (access array : ℕ) → Whole → Event

-- the execution of some commands: what it came to, in order, and the state that it left
pub record Execution : Type 0 where
  pub events : List Event
  pub state : State

-- the run came to these first
abbrev pub events_then : List Event → Execution → Execution
events_then es x = record { events = es ++ x.events; state = x.state }

-- goes on from a state, unless the run stopped there
abbrev pub unless_stopped : Option Stop → List Event → State → (State → Execution) → Execution
unless_stopped None es s go = events_then es (go s)
unless_stopped (Some access) es s go = record { events = es; state = s }

-- goes on after an execution
abbrev pub run_on : Execution → (State → Execution) → Execution
run_on x go = unless_stopped x.state.stop x.events x.state go

-- what a run comes to, by what a command does with an array
abbrev pub events_by : List ℕ → Touch → Counts → State → List Event
events_by bs Touch.Nothing k s = []
events_by bs (Touch.Reads d array i) k s = came (accesses k) array (index_of bs s i) ∷ []
events_by bs (Touch.Writes array i) k s = came (accesses k) array (index_of bs s i) ∷ []

-- what a run comes to at a command that is no if
abbrev pub events_at : List ℕ → Simple Conversion Operation → Counts → State → List Event
events_at bs c k s = events_by bs (touches c) k s

-- an if with these arms, where the counts are k: the arm that its condition chooses
abbrev pub run_if : List ℕ → Condition → Counts → (first second : State → Execution) → State → Execution
run_if bs c k first second s =
    cond (holds bs c s)
    (events_then (took k.ifs 0 ∷ []) (first (with_arm s k.ifs 0)))
    (events_then (took k.ifs 1 ∷ []) (second (with_arm s k.ifs 1)))

-- the run of an arm from a state
unfoldable pub run_arm : (bs ins : List ℕ) → Header → Arm → State → Execution
run_arm bs ins h done s = record { events = []; state = s }
run_arm bs ins h (plain at c k rest) s =
    run_on (record { events = events_at bs c k s; state = executed bs ins h c k s }) (run_arm bs ins h rest)
run_arm bs ins h (if_else at c k first second rest) s =
    run_on (run_if bs c k (run_arm bs ins h first) (run_arm bs ins h second) s) (run_arm bs ins h rest)

-- the run of a routine on an input list
unfoldable pub run_of : (bs ins : List ℕ) → Header → Arm → Execution
run_of bs ins h a = run_arm bs ins h a (initial ins (given h))
