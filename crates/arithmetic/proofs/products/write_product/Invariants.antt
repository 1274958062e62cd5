use mathlib.Core.Path.{◌≡◌}
use Prim.Native.Nat.{◌+◌}
use lib.ListN.{length}
use Rattle.cnf.specs.Inner.Append.{Written}
use Rattle.netlist.specs.Node.{netlist_clauses}
use Rattle.arithmetic.specs.Bits.{lit_at, places, tabulate}
use Rattle.arithmetic.specs.Inner.Rows.{rows_take}
use Rattle.arithmetic.specs.Product.{acc_bit, rows}
use Rattle.arithmetic.proofs.products.write_product.Given as goal

abbrev pub invariant-loop-k : goal.invariant-loop-k
invariant-loop-k l =
    Written l.initial.words l.initial.starts l.at l.start (netlist_clauses l.first (rows l.first (lit_at l.s) (lit_at l.t) (length l.s) l.k)) l.words l.starts
    × (l.i ≡ l.at + rows_take 10 56 (length l.s) l.k) × (l.j ≡ l.start + rows_take 3 14 (length l.s) l.k) × (l.g ≡ l.first + rows_take 1 3 (length l.s) l.k)
    × (l.acc ≡ tabulate (acc_bit l.first (length l.s) l.k) places)
