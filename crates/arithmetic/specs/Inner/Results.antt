-- What a function that makes a circuit does to the two buffers and to the state, and what it hands back.
use Rattle.std.specs.Prelude.{List, ◌≡◌, ℕ}
use Rattle.arithmetic.specs.Bits.{places, tabulate}
use Rattle.arithmetic.specs.Circuit.{Predicate, Number}
use Rattle.arithmetic.specs.declared.Bundle.{Bundle}
use Rattle.arithmetic.specs.declared.Test.{Test}
use Rattle.netlist.specs.Inner.Emit.{Emitted}
use Rattle.netlist.specs.declared.Net.{Net}

-- The nodes of a number are emitted, and its bits handed back.
pub record Makes (w t : List ℕ) (n : Net) (x : Number) (w' t' : List ℕ) (r : Bundle) : Type 0 where
  pub emitted : Emitted w t n x.nodes w' t' r.net
  pub bits : r.bits ≡ tabulate x.bits places

-- The nodes of a predicate are emitted, and its literal handed back.
pub record Decides (w t : List ℕ) (n : Net) (x : Predicate) (w' t' : List ℕ) (r : Test) : Type 0 where
  pub emitted : Emitted w t n x.nodes w' t' r.net
  pub lit : r.lit ≡ x.lit
