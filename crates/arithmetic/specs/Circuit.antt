-- Circuits: the nodes that they take, and what they make.
use Rattle.std.specs.Prelude.{List, [], ℕ}
use Rattle.arithmetic.specs.Bits.{Bits}
use Rattle.netlist.specs.Literal.{opp}
use Rattle.netlist.specs.declared.Node.{Node}

-- a number: its nodes and its bits
pub record Number : Type 0 where
  pub nodes : List Node
  pub bits : Bits

-- a predicate: its nodes and its literal
pub record Predicate : Type 0 where
  pub nodes : List Node
  pub lit : ℕ

-- no number: 3 in every place
abbrev pub nothing : Number
nothing = record { nodes = []; bits = λ j. 3 }

-- a predicate that never holds
abbrev pub never : Predicate
never = record { nodes = []; lit = 3 }

-- the opposite of a predicate
abbrev pub opposite : Predicate → Predicate
opposite c = record { nodes = c.nodes; lit = opp c.lit }
