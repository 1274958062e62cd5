use borrow.Author.Rules.{rules}
use native.Mathlib.Omega.{arith}
use Rattle.cnf.proofs.Appending.{written_none}
use Rattle.netlist.specs.Node.{chain, netlist_clauses}
use Rattle.arithmetic.specs.Bits.{lit_at}
use Rattle.arithmetic.proofs.Product.{row_written}
use Rattle.arithmetic.specs.Product.{row}
use Rattle.arithmetic.proofs.products.write_row.Goals as goal

pub loop-j-init : goal.loop-j-init
unfolding row chain netlist_clauses
loop-j-init c = (written_none _ _ _ _, search rules, search rules, search rules)

pub loop-j-preserved : goal.loop-j-preserved
loop-j-preserved c = (
  row_written c.args.first c.loop-j.g (lit_at c.args.s.now) c.args.t c.loop-j.j c.loop-j.invariant.0 c.and_gate.ensures c.loop-j.invariant.1 c.loop-j.invariant.2 c.loop-j.invariant.3,
  omega (arith, c.loop-j.invariant.1),
  omega (arith, c.loop-j.invariant.2),
  omega (arith, c.loop-j.invariant.3),
)
