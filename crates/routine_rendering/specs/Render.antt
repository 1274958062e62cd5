-- The bytes of a routine.
use Rattle.std.specs.Prelude.{ℕ, List, [], ◌∷◌, ◌++◌, length}
use Rattle.slices.specs.Bytes.{half_bytes, word_bytes}
use Rattle.routine_rendering.specs.Syntax.{Text, no_more, simple, if_text, Syntax}
use Rattle.routine_command.specs.declared.Conversion.{Conversion}
use Rattle.routine_command.specs.declared.Operation.{Operation}
use Rattle.routine_command.specs.declared.Simple.{Simple}

-- the byte of a conversion
abbrev pub conversion_byte : Conversion → ℕ
conversion_byte Conversion.Copy = 0x02
conversion_byte Conversion.Cut = 0x06
conversion_byte Conversion.ZeroExtend = 0x07
conversion_byte Conversion.SignExtend = 0x08

-- the byte of a computation
abbrev pub operation_byte : Operation → ℕ
operation_byte Operation.Add = 0x03
operation_byte Operation.Subtract = 0x04
operation_byte Operation.Multiply = 0x05
operation_byte Operation.Quotient = 0x0E
operation_byte Operation.Remainder = 0x0F

-- a command that is no if: its byte and its operands
unfoldable pub simple_bytes : Simple Conversion Operation → List ℕ
simple_bytes (Simple.Set d c) = 0x01 ∷ d ∷ word_bytes c
simple_bytes (Simple.Convert op d s) = conversion_byte op ∷ d ∷ s ∷ []
simple_bytes (Simple.Compute op d s t) = operation_byte op ∷ d ∷ s ∷ t ∷ []
simple_bytes (Simple.Read d array i) = 0x09 ∷ d ∷ array ∷ i ∷ []
simple_bytes (Simple.Write array i s) = 0x0A ∷ array ∷ i ∷ s ∷ []

-- the commands of an arm; an if: 0x0B, the relation and the operands, the first arm, 0x0C, the second arm, 0x0D
unfoldable pub text_bytes : Text → List ℕ
text_bytes no_more = []
text_bytes (simple c rest) = simple_bytes c ++ text_bytes rest
text_bytes (if_text c first second rest) =
    0x0B ∷ c.relation ∷ c.s ∷ c.t ∷ text_bytes first ++ (0x0C ∷ text_bytes second ++ (0x0D ∷ text_bytes rest))

-- the sizes of the arrays, two bytes each
unfoldable pub size_bytes : List ℕ → List ℕ
size_bytes [] = []
size_bytes (n ∷ ns) = half_bytes n ++ size_bytes ns

-- a routine: 0x01, the number of variables, their widths, the number of parameters, the number of arrays, their sizes, the commands, 0x00
unfoldable pub render : Syntax → List ℕ
render p =
    0x01 ∷ length p.widths ∷ p.widths
    ++ (p.parameters ∷ length p.sizes ∷ size_bytes p.sizes
    ++ (text_bytes p.commands ++ (0x00 ∷ [])))
