-- The access of a number, and what stands before it in the text.
use Rattle.std.specs.Prelude.{ℕ, Option, Some, None, cond, eqb}
use Rattle.routine_command.specs.Command.{touches}
use Rattle.routine_faults.specs.Step.{accesses}
use Rattle.routine.specs.Routine.{Arm, done, plain, if_else}
use Rattle.routine_command.specs.declared.Conversion.{Conversion}
use Rattle.routine_command.specs.declared.Operation.{Operation}
use Rattle.routine_command.specs.declared.Simple.{Simple}
use Rattle.routine_command.specs.declared.Touch.{Touch}
use Rattle.routine_faults.specs.declared.Counts.{Counts}
use Rattle.routine.specs.declared.Access.{Access}

-- the access that a command is after the counts k
abbrev pub access_by : Touch → Counts → Option Access
access_by Touch.Nothing k = None
access_by (Touch.Reads d array i) k = Some (record { counts = k; array = array; i = i })
access_by (Touch.Writes array i) k = Some (record { counts = k; array = array; i = i })

-- the command after the counts k, if it is the access of number n
unfoldable pub access_here : Simple Conversion Operation → Counts → (n : ℕ) → Option Access
access_here c k n = cond (eqb (accesses k) n) (access_by (touches c) k) None

-- the first that is found
abbrev pub or_else : Option Access → Option Access → Option Access
or_else None other = other
or_else (Some access) other = Some access

-- The access of number n, in text order. Its counts are those of the text before it.
unfoldable pub access_at : Arm → (n : ℕ) → Option Access
access_at done n = None
access_at (plain at c k rest) n = or_else (access_here c k n) (access_at rest n)
access_at (if_else at c k first second rest) n = or_else (access_at first n) (or_else (access_at second n) (access_at rest n))

-- how many ifs stand before what was found
abbrev pub ifs_of : Option Access → ℕ
ifs_of None = 0
ifs_of (Some access) = access.counts.ifs

-- how many ifs stand before the access of number n in the text
unfoldable pub ifs_before : Arm → (n : ℕ) → ℕ
ifs_before a n = ifs_of (access_at a n)
