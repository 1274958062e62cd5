-- The operations on bits: what a command makes of the bits of its operands, the next variable being g.
use Rattle.std.specs.Prelude.{ℕ}
use Rattle.routine_command.specs.declared.Conversion.{Conversion}
use Rattle.routine_command.specs.declared.Operation.{Operation}
use Rattle.arithmetic.specs.Bits.{Bits}
use Rattle.arithmetic.specs.Circuit.{Number}
use Rattle.arithmetic.specs.Extend.{extend}
use Rattle.arithmetic.specs.Adder.{sum, difference}
use Rattle.arithmetic.specs.Product.{product}
use Rattle.division.specs.Division.{long_quotient, long_remainder}
use Rattle.translation_access.specs.Index.{top}

-- copy, cut and zero-extend: 3 past the w bits of a; sign-extend: the top bit. None takes a gate.
unfoldable pub conversion : Conversion → (a : Bits) → (w : ℕ) → Bits
conversion Conversion.Copy a w = extend a w 3
conversion Conversion.Cut a w = extend a w 3
conversion Conversion.ZeroExtend a w = extend a w 3
conversion Conversion.SignExtend a w = extend a w (top a w)

-- the sum, the difference, the product, the quotient or the remainder
unfoldable pub computation : Operation → (g : ℕ) → (a b : Bits) → (w : ℕ) → Number
computation Operation.Add g a b w = sum g a b w
computation Operation.Subtract g a b w = difference g a b w
computation Operation.Multiply g a b w = product g a b w
computation Operation.Quotient g a b w = long_quotient g a b w
computation Operation.Remainder g a b w = long_remainder g a b w
