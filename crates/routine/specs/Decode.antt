-- A routine from its bytes, or the refusal.
use Rattle.std.specs.Prelude.{ℕ, List, Result, Ok, Err, ◌≡◌, ◌&&◌, length, leb, eqb}
use Rattle.slices.specs.Guard.{unless}
use Rattle.routine_header.specs.Header.{header_of, first_command}
pub use Rattle.routine_faults.specs.Step.{no_counts}
use Rattle.routine.specs.Routine.{Arm, done, Parsed, refused, parsed, arm}
use Rattle.routine_header.specs.declared.Header.{Header}
use Rattle.routine_faults.specs.declared.Counts.{Counts}
use Rattle.routine.specs.declared.Refusal.{Refusal}
use Rattle.routine.specs.declared.Accepted.{Accepted}
use Rattle.routine_command.specs.declared.Mark.{Mark}

-- what the bytes are: no routine, for a reason, or a routine: its header, its commands, and how many ifs, reads and writes it has
pub data Decoded : Type 0 where
  rejected : Refusal → Decoded
  routine : Header → Arm → Counts → Decoded

-- the commands are one arm that an end closes, and nothing follows it
abbrev pub decode_arm : List ℕ → Header → Parsed Arm → Decoded
decode_arm bs h (refused fault place) = rejected (Refusal.Command fault place)
decode_arm bs h (parsed a end k) = unless (eqb end (length bs)) (rejected (Refusal.Trailing end)) (routine h a k)

-- what the header is, and then the commands after it
abbrev pub decode_head : List ℕ → Result Header ℕ → Decoded
decode_head bs (Err place) = rejected (Refusal.Header place)
decode_head bs (Ok h) = decode_arm bs h (arm bs h 0 Mark.End (first_command h) no_counts)

-- 1 to 4,096 bytes, and in them a header and commands
unfoldable pub decode : List ℕ → Decoded
unfolding unless
decode bs = unless (leb 1 (length bs) && leb (length bs) 4096) (rejected Refusal.Length) (decode_head bs (header_of bs))

-- the commands of a routine; bytes that are no routine have none
abbrev pub commands_of : Decoded → Arm
commands_of (rejected refusal) = done
commands_of (routine h a k) = a

-- the commands that the bytes have
unfoldable pub commands_in : List ℕ → Arm
commands_in bs = commands_of (decode bs)

-- the answer: a routine is accepted with its header and its counts
abbrev pub check_answer : Decoded → Result Accepted Refusal
check_answer (rejected refusal) = Err refusal
check_answer (routine h a k) = Ok (record { header = h; counts = k })

-- what `check` answers for these bytes
unfoldable pub checked : List ℕ → Result Accepted Refusal
checked bs = check_answer (decode bs)

-- the bytes are a routine with this header
pub record IsRoutine (bs : List ℕ) (h : Header) : Type 0 where
  pub commands : Arm
  pub counts : Counts
  pub decodes : decode bs ≡ routine h commands counts
