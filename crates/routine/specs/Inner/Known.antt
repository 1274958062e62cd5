-- What is known once the header, or the whole, was accepted.
use Rattle.std.specs.Prelude.{ℕ, List, Result, Ok, ◌≡◌}
use Rattle.routine.specs.Routine.{Arm}
use Rattle.routine_header.specs.declared.Header.{Header}
use Rattle.routine_faults.specs.declared.Counts.{Counts}
use Rattle.routine.specs.declared.Refusal.{Refusal}
use Rattle.routine.specs.declared.Accepted.{Accepted}
use Rattle.routine.specs.Decode.{decode_head, decode, check_answer, routine}

-- what `check_commands` answers: the header is known to be whole
unfoldable pub checked_commands : List ℕ → Header → Result Accepted Refusal
checked_commands bs h = check_answer (decode_head bs (Ok h))

-- the bytes are a routine with this header and these counts
pub record IsRoutineWith (bs : List ℕ) (h : Header) (k : Counts) : Type 0 where
  pub commands : Arm
  pub decodes : decode bs ≡ routine h commands k
