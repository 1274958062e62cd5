-- What walking over an arm or an if tells.
use Rattle.std.specs.Prelude.{ℕ, ◌-◌, List, Option, Some, None, Result, Ok, Err}
use Rattle.routine_header.specs.declared.Header.{Header}
use Rattle.routine_faults.specs.declared.Counts.{Counts}
use Rattle.routine.specs.declared.Passed.{Passed}
use Rattle.routine.specs.declared.Refusal.{Refusal}
use Rattle.routine.specs.Routine.{Parsed, if_arms, arm, refused, parsed}
use Rattle.routine_command.specs.Command.{opcode_of}
use Rattle.routine_command.specs.declared.Mark.{Mark}
use Rattle.routine_command.specs.declared.Opcode.{Opcode}
use Rattle.routine_faults.specs.declared.Fault.{Fault}

-- What a walk over an arm, or over an if, answers: the refusal, or the offset after it and the counts there.
abbrev pub Walked : Type 0
Walked = Result Passed Refusal

-- That answer is what reading finds, without the tree.
abbrev pub walked : {A : Type 0} → Parsed A → Walked
walked (refused fault place) = Err (Refusal.Command fault place)
walked (parsed a end k) = Ok (record { next = end; counts = k })

-- What walking over an arm answers.
unfoldable pub walk_arm : List ℕ → Header → (depth : ℕ) (close : Mark) (at : ℕ) → Counts → Walked
walk_arm bs h depth close at k = walked (arm bs h depth close at k)

-- The arm ends nowhere: the mark that ended it is out of place.
abbrev pub unended : Walked → Walked
unended (Err refusal) = Err refusal
unended (Ok passed) = Err (Refusal.Command Fault.Misplaced (passed.next - 1))

-- The mark that a kind of command is.
abbrev pub mark_in : Option Opcode → Option Mark
mark_in None = None
mark_in (Some (Opcode.Close mark)) = Some mark
mark_in (Some Opcode.Set) = None
mark_in (Some (Opcode.Convert op)) = None
mark_in (Some (Opcode.Compute op)) = None
mark_in (Some Opcode.Read) = None
mark_in (Some Opcode.Write) = None
mark_in (Some Opcode.If) = None

-- The mark that a command byte is.
unfoldable pub mark_of : ℕ → Option Mark
mark_of op = mark_in (opcode_of op)

-- What walking over an arm answers that a mark ends, or none.
abbrev pub walk_with : List ℕ → Header → (depth : ℕ) → Option Mark → (at : ℕ) → Counts → Walked
walk_with bs h depth (Some mark) at k = walk_arm bs h depth mark at k
walk_with bs h depth None at k = unended (walk_arm bs h depth Mark.End at k)

-- What walking over an arm answers that a command byte ends. A byte that is no mark ends none.
unfoldable pub walk_by : List ℕ → Header → (depth close at : ℕ) → Counts → Walked
walk_by bs h depth close at k = walk_with bs h depth (mark_of close) at k

-- What walking over the two arms of an if answers.
unfoldable pub walk_if : List ℕ → Header → (depth at : ℕ) → Counts → Walked
walk_if bs h depth at k = walked (if_arms (arm bs h) depth at k)
