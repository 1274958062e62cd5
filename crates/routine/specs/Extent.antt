-- How great a routine is: its greatest width and how many commands it has. How many ifs it has is among its counts.
use Rattle.std.specs.Prelude.{ℕ, zero, suc, ◌+◌, max, List}
use Rattle.routine_header.specs.Header.{width}
use Rattle.routine.specs.Routine.{Arm, done, plain, if_else}

-- the greatest width of the first n variables
unfoldable pub greatest_width : List ℕ → (n : ℕ) → ℕ
greatest_width bs zero = 0
greatest_width bs (suc v) = max (greatest_width bs v) (width bs v)

-- Every command of an arm, those in the arms of its ifs too. What ends an arm is a command: an else, an end of if or an end.
unfoldable pub command_count : Arm → ℕ
command_count done = 1
command_count (plain at c k rest) = 1 + command_count rest
command_count (if_else at c k first second rest) = 1 + command_count first + command_count second + command_count rest
