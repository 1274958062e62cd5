use mathlib.Core.Path.{◌≡◌}
use Prim.Native.Nat.{◌*◌, ◌+◌}
use Rattle.cnf.specs.Inner.Append.{Written}
use Rattle.netlist.specs.Node.{netlist_clauses}
use Rattle.arithmetic.specs.Bits.{lit_at}
use Rattle.arithmetic.specs.Choose.{chooser}
use Rattle.arithmetic.proofs.choices.write_choice.Given as goal

abbrev pub invariant-loop-j : goal.invariant-loop-j
invariant-loop-j l =
    Written l.initial.words l.initial.starts l.at l.start (netlist_clauses l.first (chooser l.c (lit_at l.a) (lit_at l.b) l.j)) l.words l.starts
    × (l.i ≡ l.at + 16 * l.j) × (l.k ≡ l.start + 4 * l.j) × (l.g ≡ l.first + l.j)
