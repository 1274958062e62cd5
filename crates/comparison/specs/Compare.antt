-- Comparisons as netlists.
use Rattle.std.specs.Prelude.{List, [], ◌∷◌, ◌*◌, ◌+◌, ◌-◌, suc, zero, ℕ}
use Rattle.arithmetic.specs.Adder.{carry_at, flipped, subtractor}
use Rattle.arithmetic.specs.Bits.{Bits}
use Rattle.arithmetic.specs.Circuit.{Predicate, opposite}
use Rattle.netlist.specs.Literal.{neg, opp, pos}
use Rattle.netlist.specs.Node.{chain}
use Rattle.netlist.specs.declared.Node.{Node}
use Rattle.netlist.specs.declared.Node.TheVariants.{And, Xor}

-- a <u b is the opposite of the last carry of a minus b
abbrev pub below : ℕ → Bits → Bits → ℕ → Predicate
below g a b w = record { nodes = subtractor g a b w; lit = opp (carry_at g 2 w) }

-- a <s b first takes the opposite of both top bits
abbrev pub below_signed : ℕ → Bits → Bits → ℕ → Predicate
below_signed g a b w = below g (flipped (w - 1) a) (flipped (w - 1) b) w

-- a ≥s b is the opposite of a <s b
abbrev pub at_least_signed : ℕ → Bits → Bits → ℕ → Predicate
at_least_signed g a b w = opposite (below_signed g a b w)

-- whether the places below j are equal
abbrev pub same_at : ℕ → ℕ → ℕ
same_at g zero = 2
same_at g (suc j) = pos (g + 2 * j + 1)

-- one place: the difference, and equal so far
abbrev pub same : ℕ → ℕ → ℕ → ℕ → List Node
same g a b e = Xor a b ∷ And e (neg g) ∷ []

-- the places below w
unfoldable pub equality : ℕ → Bits → Bits → ℕ → List Node
equality g a b w = chain (λ j. same (g + 2 * j) (a j) (b j) (same_at g j)) w

-- a = b
abbrev pub same_number : ℕ → Bits → Bits → ℕ → Predicate
same_number g a b w = record { nodes = equality g a b w; lit = same_at g w }
