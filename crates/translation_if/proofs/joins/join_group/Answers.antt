use mathlib.Core.Path.{refl}
use native.Mathlib.Omega.{arith}
use Rattle.netlist.specs.Node.{chain}
use Rattle.netlist.proofs.Emitting.{emitted-none}
use Rattle.arithmetic.specs.Bits.{tabulate}
use Rattle.arithmetic.specs.Join.{joiner}
use Rattle.translation_if.proofs.Branching.{group_ready, other_group, same_group}
use Rattle.translation_if.proofs.joins.join_group.Goals as goal

pub loop-j-init : goal.loop-j-init
unfolding joiner chain tabulate
loop-j-init c = (emitted-none _ _ _, refl)

pub overflow_mul-lits : goal.overflow_mul-lits
overflow_mul-lits c = omega (arith, (group_ready _ _ _ _ _ c.loop-j.invariant.0 c.requires.ready c.loop-j-test.true).next)

pub emit_mux-net-requires : goal.emit_mux-net-requires
emit_mux-net-requires c = group_ready _ _ _ _ _ c.loop-j.invariant.0 c.requires.ready c.loop-j-test.true

pub loop-j-preserved : goal.loop-j-preserved
loop-j-preserved c =
    elim c.if-x-y.branch [
      | goal.then-x-y p ↦ rw (p.words-is, p.starts-is, p.lits-is, p.net-is)
          (other_group c.args.lits.now c.args.other.now c.args.place c.args.w c.args.c c.loop-j.j c.loop-j-test.true c.loop-j.invariant.0 c.loop-j.invariant.1 p.if-x-y.true p.emit_mux-net.ensures)
      | goal.else-x-y p ↦ rw (p.words-is, p.starts-is, p.lits-is, p.net-is)
          (same_group c.args.lits.now c.args.other.now c.args.place c.args.w c.args.c c.loop-j.j c.loop-j-test.true c.loop-j.invariant.0 c.loop-j.invariant.1 p.if-x-y.false)
    ]
