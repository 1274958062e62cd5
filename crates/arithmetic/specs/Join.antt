-- Joining two arms: a MUX for each place where the literals differ.
use Rattle.std.specs.Prelude.{Bool, cond, List, [], ◌∷◌, ◌+◌, ℕ, eqb, length}
use Rattle.arithmetic.specs.Bits.{Bits}
use Rattle.arithmetic.specs.Circuit.{Predicate, Number}
use Rattle.netlist.specs.Literal.{pos}
use Rattle.netlist.specs.Node.{chain}
use Rattle.netlist.specs.declared.Node.{Node}
use Rattle.netlist.specs.declared.Node.TheVariants.{Mux}

-- one place: no gate where the literals are the same
abbrev pub join_one : Bool → ℕ → ℕ → ℕ → List Node
join_one same c a b = cond same [] (Mux c a b ∷ [])

-- the same with its literal, where the next variable is g
abbrev pub join_place : ℕ → ℕ → ℕ → ℕ → Predicate
join_place g c a b = record { nodes = join_one (eqb a b) c a b; lit = cond (eqb a b) a (pos g) }

-- the gates of the places below w; c is the condition, a the first arm's bits, b the else's
unfoldable pub joiner : ℕ → Bits → Bits → ℕ → List Node
joiner c a b w = chain (λ j. join_one (eqb (a j) (b j)) c (a j) (b j)) w

-- the literal of place j, where the first variable is g
abbrev pub join_bit : ℕ → ℕ → Bits → Bits → Bits
join_bit g c a b j = (join_place (g + length (joiner c a b j)) c (a j) (b j)).lit

-- a where c holds, else b
abbrev pub join : ℕ → ℕ → Bits → Bits → ℕ → Number
join g c a b w = record { nodes = joiner c a b w; bits = join_bit g c a b }
