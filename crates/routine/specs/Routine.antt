-- The routine as a tree, and how it is read from the bytes.
use Rattle.std.specs.Prelude.{ℕ, zero, suc, ◌+◌, List, [], ◌∷◌, ◌++◌, length}
use Rattle.routine_command.specs.Command.{command_at, simple_size}
use Rattle.routine_faults.specs.Step.{Step, faulty, closing, simple_then, if_then, step_of}
use Rattle.routine_header.specs.declared.Header.{Header}
use Rattle.routine_command.specs.declared.Condition.{Condition}
use Rattle.routine_faults.specs.declared.Counts.{Counts}
use Rattle.routine_command.specs.declared.Conversion.{Conversion}
use Rattle.routine_command.specs.declared.Operation.{Operation}
use Rattle.routine_command.specs.declared.Simple.{Simple}
use Rattle.routine_faults.specs.declared.Fault.{Fault}
use Rattle.routine_command.specs.declared.Mark.{Mark}

-- An arm: its commands, each with its offset and the counts before it, by which it is numbered: an if by its `ifs`, a read by its `reads`, an
-- access by its `accesses`. An if has two arms, and the arm that it stands in goes on after it.
pub data Arm : Type 0 where
  done : Arm
  plain : (at : ℕ) → Simple Conversion Operation → Counts → (rest : Arm) → Arm
  if_else : (at : ℕ) → Condition → Counts → (first second rest : Arm) → Arm

-- The commands of an arm that are no part of an if, in text order.
unfoldable pub text_of : Arm → List (Simple Conversion Operation)
text_of done = []
text_of (plain at c k rest) = c ∷ text_of rest
text_of (if_else at c k first second rest) = text_of first ++ (text_of second ++ text_of rest)

-- What reading finds: the fault of the command at a place, or what was read, the offset after it, and the counts there.
pub data Parsed (A : Type 0) : Type 0 where
  refused : Fault → (place : ℕ) → Parsed A
  parsed : A → (end : ℕ) → Counts → Parsed A

-- Goes on with what was read.
abbrev pub read_on : {A B : Type 0} → Parsed A → (A → ℕ → Counts → Parsed B) → Parsed B
read_on (refused fault place) f = refused fault place
read_on (parsed a end k) f = f a end k

-- How an arm is read: inside so many ifs, up to the mark that ends it, from an offset, after some counts.
abbrev pub ArmReader : Type 0
ArmReader = (depth : ℕ) (close : Mark) (at : ℕ) → Counts → Parsed Arm

-- The two arms of the if at `at`: the first is ended by an else, the second by an end of if.
abbrev pub if_arms : ArmReader → (depth at : ℕ) → Counts → Parsed (Arm × Arm)
if_arms read depth at k =
    read_on (read (depth + 1) Mark.Else (at + 4) k) (λ first at₁ k₁.
    read_on (read (depth + 1) Mark.EndIf at₁ k₁) (λ second at₂ k₂.
    parsed (first, second) at₂ k₂))

-- The arm from `at` on, by what its first command is; the rest of it, and the arms of an if, are read by `read`.
abbrev pub arm_step : ArmReader → (depth : ℕ) (close : Mark) (at : ℕ) → Counts → Step → Parsed Arm
arm_step read depth close at k (faulty fault) = refused fault at
arm_step read depth close at k closing = parsed done (at + 1) k
arm_step read depth close at k (simple_then c k₁) =
    read_on (read depth close (at + simple_size c) k₁) (λ rest end k₂.
    parsed (plain at c k rest) end k₂)
arm_step read depth close at k (if_then c k₁) =
    read_on (if_arms read depth at k₁) (λ arms at₂ k₂.
    read_on (read depth close at₂ k₂) (λ rest end k₃.
    parsed (if_else at c k arms.0 arms.1 rest) end k₃))

-- What the command at `at` is.
abbrev pub step_at : List ℕ → Header → (depth : ℕ) (close : Mark) (at : ℕ) → Counts → Step
step_at bs h depth close at k = step_of bs h depth close (command_at bs at) k

-- The arm from `at` on, in at most so many steps: one more than the bytes left is enough.
unfoldable pub arm_by : ℕ → List ℕ → Header → ArmReader
arm_by zero bs h depth close at k = refused Fault.Unknown at
arm_by (suc n) bs h depth close at k = arm_step (arm_by n bs h) depth close at k (step_at bs h depth close at k)

-- The arm from `at` on.
abbrev pub arm : List ℕ → Header → ArmReader
arm bs = arm_by (suc (length bs)) bs
