use borrow.Author.Rules.{rules}
use native.Mathlib.Omega.{arith}
use Rattle.cnf.proofs.Appending.{written_none}
use Rattle.netlist.specs.Node.{chain, netlist_clauses}
use Rattle.arithmetic.specs.Bits.{lit_at}
use Rattle.arithmetic.proofs.Choose.{chooser-written}
use Rattle.arithmetic.specs.Choose.{chooser}
use Rattle.arithmetic.proofs.choices.write_choice.Goals as goal

pub loop-j-init : goal.loop-j-init
unfolding chooser chain netlist_clauses
loop-j-init c = (written_none _ _ _ _, search rules, search rules, search rules)

pub loop-j-preserved : goal.loop-j-preserved
loop-j-preserved c = (
  chooser-written c.args.first c.loop-j.g c.args.c (lit_at c.args.a.now) (lit_at c.args.b.now) c.loop-j.j c.loop-j.invariant.0 c.mux_gate.ensures c.loop-j.invariant.1 c.loop-j.invariant.2 c.loop-j.invariant.3,
  omega (arith, c.loop-j.invariant.1),
  omega (arith, c.loop-j.invariant.2),
  omega (arith, c.loop-j.invariant.3),
)
