use native.Mathlib.Omega.{arith}
use mathlib.Core.Path.{refl}
use borrow.Author.Tests.{ne_eqb}
use Rattle.netlist.proofs.Emitting.{emitted-none}
use Rattle.comparison.proofs.Compare.{decides_opposite}
use Rattle.comparison.specs.Relation.{relation}
use Rattle.comparison.proofs.relation.Goals as goal

pub returns-in-0 : goal.returns-in-0
unfolding relation
returns-in-0 c = rw c.in-0.is c.equal.ensures

pub returns-in-1 : goal.returns-in-1
unfolding relation
returns-in-1 c = rw c.in-1.is (decides_opposite c.equal-in-1.ensures c.turned.ensures)

pub returns-in-2 : goal.returns-in-2
unfolding relation
returns-in-2 c = rw c.in-2.is c.less.ensures

pub returns-in-3 : goal.returns-in-3
unfolding relation
returns-in-3 c = rw c.in-3.is (decides_opposite (rw c.requires.b_len at c.less-in-3.ensures) c.turned-in-3.ensures)

pub returns-in-4 : goal.returns-in-4
unfolding relation
returns-in-4 c = rw c.in-4.is (rw c.requires.b_len at c.less-in-4.ensures)

pub returns-in-5 : goal.returns-in-5
unfolding relation
returns-in-5 c = rw c.in-5.is (decides_opposite c.less-in-5.ensures c.turned-in-5.ensures)

pub returns-in-6 : goal.returns-in-6
unfolding relation
returns-in-6 c = rw c.in-6.is c.less_signed.ensures

pub returns-in-7 : goal.returns-in-7
unfolding relation
returns-in-7 c = rw c.in-7.is (decides_opposite (rw c.requires.b_len at c.less_signed-in-7.ensures) c.turned-in-7.ensures)

pub returns-in-8 : goal.returns-in-8
unfolding relation
returns-in-8 c = rw c.in-8.is (rw c.requires.b_len at c.less_signed-in-8.ensures)

pub returns-in-9 : goal.returns-in-9
unfolding relation
returns-in-9 c = rw c.in-9.is c.at_least_signed.ensures

pub returns-in_default : goal.returns-in_default
unfolding relation
returns-in_default c =
    simp (ne_eqb c.args.rel 0 (omega arith), ne_eqb c.args.rel 1 (omega arith), ne_eqb c.args.rel 2 (omega arith), ne_eqb c.args.rel 3 (omega arith), ne_eqb c.args.rel 4 (omega arith), ne_eqb c.args.rel 5 (omega arith), ne_eqb c.args.rel 6 (omega arith), ne_eqb c.args.rel 7 (omega arith), ne_eqb c.args.rel 8 (omega arith), ne_eqb c.args.rel 9 (omega arith))
    (record { emitted = emitted-none _ _ _; lit = refl })
