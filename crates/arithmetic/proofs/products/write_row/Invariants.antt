use mathlib.Core.Path.{◌≡◌}
use Prim.Native.Nat.{◌*◌, ◌+◌}
use Rattle.cnf.specs.Inner.Append.{Written}
use Rattle.netlist.specs.Node.{netlist_clauses}
use Rattle.arithmetic.specs.Bits.{lit_at}
use Rattle.arithmetic.specs.Product.{row}
use Rattle.arithmetic.proofs.products.write_row.Given as goal

abbrev pub invariant-loop-j : goal.invariant-loop-j
invariant-loop-j l =
    Written l.initial.words l.initial.starts l.at l.start (netlist_clauses l.first (row (lit_at l.s) l.t l.j)) l.words l.starts
    × (l.i ≡ l.at + 10 * l.j) × (l.k ≡ l.start + 3 * l.j) × (l.g ≡ l.first + l.j)
