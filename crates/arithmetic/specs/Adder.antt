-- The ripple adder as a netlist.
use Rattle.std.specs.Prelude.{cond, List, [], ◌∷◌, ◌*◌, ◌+◌, suc, zero, ℕ, eqb}
use Rattle.arithmetic.specs.Bits.{Bits}
use Rattle.arithmetic.specs.Circuit.{Number}
use Rattle.netlist.specs.Literal.{opp, pos}
use Rattle.netlist.specs.Node.{chain}
use Rattle.netlist.specs.declared.Node.{Node}
use Rattle.netlist.specs.declared.Node.TheVariants.{Maj, Xor}

-- bit j of the sum, of an adder whose first variable is g
abbrev pub sum_bit : ℕ → Bits
sum_bit g j = pos (g + 3 * j + 1)

-- the carry into place j, where the first carry is c
abbrev pub carry_at : ℕ → ℕ → ℕ → ℕ
carry_at g c zero = c
carry_at g c (suc j) = pos (g + 3 * j + 2)

-- one place: the half sum, the sum, the carry
abbrev pub full_adder : ℕ → ℕ → ℕ → ℕ → List Node
full_adder g a b c = Xor a b ∷ Xor (pos g) c ∷ Maj a b c ∷ []

-- the sum of a, b and the first carry c: the places below w
unfoldable pub adder : ℕ → Bits → Bits → ℕ → ℕ → List Node
adder g a b c w = chain (λ j. full_adder (g + 3 * j) (a j) (b j) (carry_at g c j)) w

-- the opposite of each bit
abbrev pub opp_bits : Bits → Bits
opp_bits b j = opp (b j)

-- the opposite of the bit in place m
abbrev pub flipped : ℕ → Bits → Bits
flipped m a j = cond (eqb j m) (opp (a j)) (a j)

-- a minus b: the opposite bits of b, and the first carry 2
abbrev pub subtractor : ℕ → Bits → Bits → ℕ → List Node
subtractor g a b w = adder g a (opp_bits b) 2 w

-- a plus b: the first carry is 3
abbrev pub sum : ℕ → Bits → Bits → ℕ → Number
sum g a b w = record { nodes = adder g a b 3 w; bits = sum_bit g }

-- a minus b as a number
abbrev pub difference : ℕ → Bits → Bits → ℕ → Number
difference g a b w = record { nodes = subtractor g a b w; bits = sum_bit g }
