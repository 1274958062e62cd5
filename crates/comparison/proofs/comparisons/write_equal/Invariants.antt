use mathlib.Core.Path.{◌≡◌}
use Prim.Native.Nat.{◌*◌, ◌+◌}
use Rattle.cnf.specs.Inner.Append.{Written}
use Rattle.netlist.specs.Node.{netlist_clauses}
use Rattle.arithmetic.specs.Bits.{lit_at}
use Rattle.comparison.specs.Compare.{equality, same_at}
use Rattle.comparison.proofs.comparisons.write_equal.Given as goal

abbrev pub invariant-loop-j : goal.invariant-loop-j
invariant-loop-j l =
    Written l.initial.words l.initial.starts l.at l.start (netlist_clauses l.first (equality l.first (lit_at l.a) (lit_at l.b) l.j)) l.words l.starts
    × (l.i ≡ l.at + 26 * l.j) × (l.k ≡ l.start + 7 * l.j) × (l.g ≡ l.first + 2 * l.j) × (l.e ≡ same_at l.first l.j)
