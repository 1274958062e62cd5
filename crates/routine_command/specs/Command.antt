-- What stands at an offset of a routine.
use Rattle.std.specs.Prelude.{ℕ, ◌+◌, ◌-◌, List, Option, Some, None, cond, length, leb, eqb}
use Rattle.slices.specs.Bytes.{entry, word}
use Rattle.routine_command.specs.declared.Conversion.{Conversion}
use Rattle.routine_command.specs.declared.Operation.{Operation}
use Rattle.routine_command.specs.declared.Mark.{Mark}
use Rattle.routine_command.specs.declared.Opcode.{Opcode}
use Rattle.routine_command.specs.declared.Simple.{Simple}
use Rattle.routine_command.specs.declared.Touch.{Touch}
use Rattle.routine_command.specs.declared.Command.{Command}

-- the size of a simple command in bytes
abbrev pub simple_size : {C O : Type 0} → Simple C O → ℕ
simple_size (Simple.Set d c) = 6
simple_size (Simple.Convert op d s) = 3
simple_size (Simple.Compute op d s t) = 4
simple_size (Simple.Read d array i) = 4
simple_size (Simple.Write array i s) = 4

-- what a command does with an array: reads and writes are the accesses, each by the index in a variable
abbrev pub touches : {C O : Type 0} → Simple C O → Touch
touches (Simple.Set d c) = Touch.Nothing
touches (Simple.Convert op d s) = Touch.Nothing
touches (Simple.Compute op d s t) = Touch.Nothing
touches (Simple.Read d array i) = Touch.Reads d array i
touches (Simple.Write array i s) = Touch.Writes array i

-- what the command at an offset does with an array
unfoldable pub touches_of : {M C O : Type 0} → Command M C O → Touch
touches_of Command.Missing = Touch.Nothing
touches_of (Command.Close mark) = Touch.Nothing
touches_of (Command.If c) = Touch.Nothing
touches_of (Command.Simple c) = touches c

-- the size of a command in bytes
abbrev pub command_size : {M C O : Type 0} → Command M C O → ℕ
command_size Command.Missing = 1
command_size (Command.Close mark) = 1
command_size (Command.If c) = 4
command_size (Command.Simple c) = simple_size c

-- the command that the byte `op` stands for; any other byte is unknown
unfoldable pub opcode_of : (op : ℕ) → Option Opcode
opcode_of op =
    cond (eqb op 0x00) (Some (Opcode.Close Mark.End))
    (cond (eqb op 0x01) (Some Opcode.Set)
    (cond (eqb op 0x02) (Some (Opcode.Convert Conversion.Copy))
    (cond (eqb op 0x03) (Some (Opcode.Compute Operation.Add))
    (cond (eqb op 0x04) (Some (Opcode.Compute Operation.Subtract))
    (cond (eqb op 0x05) (Some (Opcode.Compute Operation.Multiply))
    (cond (eqb op 0x06) (Some (Opcode.Convert Conversion.Cut))
    (cond (eqb op 0x07) (Some (Opcode.Convert Conversion.ZeroExtend))
    (cond (eqb op 0x08) (Some (Opcode.Convert Conversion.SignExtend))
    (cond (eqb op 0x09) (Some Opcode.Read)
    (cond (eqb op 0x0A) (Some Opcode.Write)
    (cond (eqb op 0x0B) (Some Opcode.If)
    (cond (eqb op 0x0C) (Some (Opcode.Close Mark.Else))
    (cond (eqb op 0x0D) (Some (Opcode.Close Mark.EndIf))
    (cond (eqb op 0x0E) (Some (Opcode.Compute Operation.Quotient))
    (cond (eqb op 0x0F) (Some (Opcode.Compute Operation.Remainder))
    None)))))))))))))))

-- the size in bytes of the command with this opcode
abbrev pub opcode_size : Opcode → ℕ
opcode_size (Opcode.Close mark) = 1
opcode_size Opcode.Set = 6
opcode_size (Opcode.Convert op) = 3
opcode_size (Opcode.Compute op) = 4
opcode_size Opcode.Read = 4
opcode_size Opcode.Write = 4
opcode_size Opcode.If = 4

-- the command with this opcode and the operands a, b, c (one byte each), or the constant that a set has
abbrev pub command_with : Opcode → (a b c const : ℕ) → Command Mark Conversion Operation
command_with (Opcode.Close mark) a b c const = Command.Close mark
command_with Opcode.Set a b c const = Command.Simple (Simple.Set a const)
command_with (Opcode.Convert op) a b c const = Command.Simple (Simple.Convert op a b)
command_with (Opcode.Compute op) a b c const = Command.Simple (Simple.Compute op a b c)
command_with Opcode.Read a b c const = Command.Simple (Simple.Read a b c)
command_with Opcode.Write a b c const = Command.Simple (Simple.Write a b c)
command_with Opcode.If a b c const = Command.If (record { relation = a; s = b; t = c })

-- the same where the byte may be unknown
abbrev pub command_from : Option Opcode → (a b c const : ℕ) → Command Mark Conversion Operation
command_from None a b c const = Command.Missing
command_from (Some opcode) a b c const = command_with opcode a b c const

-- the command by its byte `op`, with those of the operands a, b, c (one byte each) and the constant that it has; any other byte is unknown
unfoldable pub command_by : (op a b c const : ℕ) → Command Mark Conversion Operation
command_by op a b c const = command_from (opcode_of op) a b c const

-- the size of a command by its byte alone: the operands do not matter
abbrev pub size_by_op : (op : ℕ) → ℕ
size_by_op op = command_size (command_by op 0 0 0 0)

-- the command of the byte `op`, its operands standing after `at`; those past the end count as 0
abbrev pub command_over : List ℕ → (at op : ℕ) → Command Mark Conversion Operation
command_over bs at op = command_by op (entry bs (at + 1)) (entry bs (at + 2)) (entry bs (at + 3)) (word bs (at + 2))

-- the command whose byte stands at `at`
abbrev pub command_of : List ℕ → ℕ → Command Mark Conversion Operation
command_of bs at = command_over bs at (entry bs at)

-- the whole command at `at`: Missing where it is unknown or cut short, or where there is none
unfoldable pub command_at : List ℕ → ℕ → Command Mark Conversion Operation
command_at bs at = cond (leb (command_size (command_of bs at)) (length bs - at)) (command_of bs at) Command.Missing
