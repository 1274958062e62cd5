-- What a command that is no if does to the values: one variable takes a value.
use Rattle.std.specs.Prelude.{ℕ, List}
use Rattle.slices.specs.Bytes.{entry}
use Rattle.routine_header.specs.Header.{width}
use Rattle.routine_faults.specs.Inputs.{input_number}
use Rattle.routine_header.specs.declared.Header.{Header}
use Rattle.routine_faults.specs.declared.Counts.{Counts}
use Rattle.routine_command.specs.declared.Conversion.{Conversion}
use Rattle.routine_command.specs.declared.Operation.{Operation}
use Rattle.routine_command.specs.declared.Simple.{Simple}
use Rattle.run_state.specs.State.{converted, computed}
use Rattle.run_state.specs.declared.Operands.{Operands}

-- the variables of a command
abbrev pub operands_of : Simple Conversion Operation → Operands
operands_of (Simple.Set d c) = record { d = d; a = 0; b = 0; i = 0 }
operands_of (Simple.Convert op d s) = record { d = d; a = s; b = 0; i = 0 }
operands_of (Simple.Compute op d s t) = record { d = d; a = s; b = t; i = 0 }
operands_of (Simple.Read d array i) = record { d = d; a = 0; b = 0; i = i }
operands_of (Simple.Write array i s) = record { d = s; a = s; b = 0; i = i }

-- the value that d takes, those of a and b being given
abbrev pub value_after : (bs ins : List ℕ) → Header → Simple Conversion Operation → Counts → (a b : ℕ) → ℕ
value_after bs ins h (Simple.Set d c) k a b = c
value_after bs ins h (Simple.Convert op d s) k a b = converted op (width bs d) (width bs s) a
value_after bs ins h (Simple.Compute op d s t) k a b = computed op (width bs d) a b
value_after bs ins h (Simple.Read d array i) k a b = entry ins (input_number h k)
value_after bs ins h (Simple.Write array i s) k a b = a
