-- Long division as a netlist: for each bit of the dividend from the top, a subtraction and a choice.
use Rattle.std.specs.Prelude.{List, ◌++◌, ◌*◌, ◌+◌, ◌-◌, suc, zero, ℕ}
use Rattle.arithmetic.specs.Adder.{carry_at, subtractor, sum_bit}
use Rattle.arithmetic.specs.Bits.{Bits}
use Rattle.arithmetic.specs.Choose.{chooser}
use Rattle.arithmetic.specs.Circuit.{Number}
use Rattle.arithmetic.specs.Extend.{extend}
use Rattle.arithmetic.specs.Input.{in_bit}
use Rattle.netlist.specs.Node.{chain}
use Rattle.netlist.specs.declared.Node.{Node}

-- a remainder shifted up by the bit x: its top bit falls away
abbrev pub shifted : ℕ → Bits → Bits
shifted x r zero = x
shifted x r (suc j) = r j

-- one step on v places: the divisor d is subtracted from the shifted remainder r, and the last carry chooses the difference or r
abbrev pub division_step : ℕ → Bits → Bits → ℕ → List Node
division_step g r d v = subtractor g r d v ++ chooser (carry_at g 2 v) (sum_bit g) r v

-- the first variable of step i, of v places each
abbrev pub step_start : ℕ → ℕ → ℕ → ℕ
step_start g v i = g + 4 * v * i

-- the remainder before step i, on v places: at first all 3, then what the step before chose
abbrev pub remainder_bit : ℕ → ℕ → ℕ → Bits
remainder_bit g v zero j = 3
remainder_bit g v (suc i) j = in_bit (step_start g v i + 3 * v) j

-- step i shifts the remainder up by bit w - 1 - i of s; the divisor has a 3 on top
abbrev pub step_at : ℕ → Bits → Bits → ℕ → ℕ → List Node
step_at g s d w i = division_step (step_start g (suc w) i) (shifted (s (w - suc i)) (remainder_bit g (suc w) i)) (extend d w 3) (suc w)

-- the steps of the first k bits of s from the top
unfoldable pub division_steps : ℕ → Bits → Bits → ℕ → ℕ → List Node
division_steps g s d w k = chain (step_at g s d w) k

-- bit j of the quotient: the last carry of its step
abbrev pub quotient_bit : ℕ → ℕ → Bits
quotient_bit g w j = carry_at (step_start g (suc w) (w - suc j)) 2 (suc w)

-- s divided by d: the quotient
abbrev pub long_quotient : ℕ → Bits → Bits → ℕ → Number
long_quotient g s d w = record { nodes = division_steps g s d w w; bits = extend (quotient_bit g w) w 3 }

-- s divided by d: the remainder, whose lowest w bits count
abbrev pub long_remainder : ℕ → Bits → Bits → ℕ → Number
long_remainder g s d w = record { nodes = division_steps g s d w w; bits = remainder_bit g (suc w) w }
