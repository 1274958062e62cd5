use borrow.Author.Rules.{rules}
use mathlib.Core.Path.{refl}
use native.Mathlib.Omega.{arith}
use Rattle.cnf.proofs.Appending.{written_none}
use Rattle.netlist.specs.Node.{chain, netlist_clauses}
use Rattle.arithmetic.specs.Bits.{lit_at}
use Rattle.comparison.proofs.Compare.{equality-written, same-written}
use Rattle.comparison.specs.Compare.{equality}
use Rattle.comparison.proofs.comparisons.write_equal.Goals as goal

pub loop-j-init : goal.loop-j-init
unfolding equality chain netlist_clauses
loop-j-init c = (written_none _ _ _ _, search rules, search rules, search rules, refl)

pub loop-j-preserved : goal.loop-j-preserved
loop-j-preserved c = (
  equality-written c.args.first c.loop-j.g (lit_at c.args.a.now) (lit_at c.args.b.now) c.loop-j.e c.loop-j.j c.loop-j.invariant.0 c.write_same.ensures c.loop-j.invariant.1 c.loop-j.invariant.2 c.loop-j.invariant.3 c.loop-j.invariant.4,
  omega (arith, c.loop-j.invariant.1),
  omega (arith, c.loop-j.invariant.2),
  omega (arith, c.loop-j.invariant.3),
  same-written c.args.first c.loop-j.g c.loop-j.j c.loop-j.invariant.3,
)
