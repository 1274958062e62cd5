-- What a sum and a difference add: a number's bits, or their opposites, and for signed numbers the opposite of the top bit.
use Rattle.std.specs.Prelude.{Bool, cond, ◌-◌, ℕ}
use Rattle.arithmetic.specs.Adder.{flipped}
use Rattle.arithmetic.specs.Bits.{Bits}
use Rattle.netlist.specs.Literal.{opp}

-- the bits, or the opposite of each where t says so
abbrev pub turned_bits : Bool → Bits → Bits
turned_bits t b j = cond t (opp (b j)) (b j)

-- the bits of a number of width w, with the opposite of the top bit where f says so
abbrev pub top_turned : Bool → ℕ → Bits → Bits
top_turned f w a j = cond f (flipped (w - 1) a j) (a j)
