use mathlib.Core.Path.{◌≡◌}
use Prim.Native.Nat.{◌*◌, ◌+◌}
use lib.ListN.{length}
use Rattle.cnf.specs.Inner.Append.{Worded}
use Rattle.netlist.specs.Node.{netlist_clauses}
use Rattle.arithmetic.specs.Bits.{lit_at}
use Rattle.arithmetic.specs.Adder.{adder, carry_at}
use Rattle.arithmetic.specs.Inner.Turned.{top_turned, turned_bits}
use Rattle.arithmetic.proofs.sums.write_sum.Given as goal

abbrev pub invariant-loop-j : goal.invariant-loop-j
invariant-loop-j l =
    Worded l.initial.words l.at (netlist_clauses l.first (adder l.first (top_turned l.f (length l.a) (lit_at l.a)) (turned_bits l.t (top_turned l.f (length l.a) (lit_at l.b))) l.c l.j)) l.words
    × (l.i ≡ l.at + 56 * l.j) × (l.g ≡ l.first + 3 * l.j) × (l.carry ≡ carry_at l.first l.c l.j)
