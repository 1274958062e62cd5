use mathlib.Core.Path.{◌≡◌}
use mathlib.Core.List.{List}
use Prim.Native.Nat.{ℕ}
use lib.ListN.{length}
use Rattle.netlist.specs.Inner.Emit.{Emitted}
use Rattle.translation_meaning.specs.Translation.{given_nodes, given_lits}
use Rattle.translation_walk.proofs.beginning.begin_variables.Given as goal

abbrev pub invariant-loop-p : goal.invariant-loop-p
invariant-loop-p l =
    ((w u : List ℕ) → Emitted w u l.initial.net (given_nodes l.bytes l.p) w u l.net) × (l.lits ≡ given_lits l.bytes (length l.initial.lits) l.p)
