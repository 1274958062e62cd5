use mathlib.Core.Path.{refl, sym, ◌∙◌}
use native.Mathlib.Omega.{arith}
use Rattle.netlist.proofs.Emitting.{emitted-none, ready-after}
use Rattle.translation_state.proofs.Ranges.{part_end, ranged}
use Rattle.translation_if.specs.If.{join_groups}
use Rattle.translation_if.proofs.Branching.{group_joined, group_literals, join-few}
use Rattle.translation_if.proofs.joins.join_groups.Goals as goal

pub loop-v-init : goal.loop-v-init
unfolding join_groups
loop-v-init c = (emitted-none _ _ _, refl)

pub join_group-net-requires : goal.join_group-net-requires
join_group-net-requires c =
    let e = part_end c.args.bytes.now c.args.h c.loop-v.v _ _ c.requires.fine c.loop-v-test.true c.place_of.ensures (c.from-w.ensures ∙ c.width_of.ensures) c.loop-v.lits (c.loop-v.auto.lits ∙ c.requires.lits_len.0) in
    let r = ranged c.args.bytes.now c.args.h c.loop-v.v c.requires.fine c.loop-v-test.true in
    record { ready = ready-after _ c.loop-v.invariant.0 c.requires.ready (omega (arith, join-few c.args.bytes.now c.args.h c.requires.fine c.args.n.next c.args.c c.args.lits.now c.args.other.now c.loop-v.v c.loop-v.auto.v-end, c.requires.fine.few, r.few, (c.from-w.ensures ∙ c.width_of.ensures))); w_in_bounds = (e, c.requires.lits_len.1 ∙ sym (c.loop-v.auto.lits ∙ c.requires.lits_len.0)) }

pub loop-v-preserved : goal.loop-v-preserved
loop-v-preserved c = (
  group_joined c.args.n _ _ c.args.bytes.now c.args.h c.requires.fine c.args.c c.args.lits.now c.args.other.now c.loop-v.lits c.loop-v.v _ _ c.loop-v.auto.v-end c.place_of.ensures (c.from-w.ensures ∙ c.width_of.ensures) c.loop-v.invariant.0 c.loop-v.invariant.1 c.join_group-net.ensures.emitted,
  group_literals c.args.n _ _ c.args.bytes.now c.args.h c.requires.fine c.args.c c.args.lits.now c.args.other.now c.loop-v.lits c.loop-v.v _ _ c.loop-v.auto.v-end c.place_of.ensures (c.from-w.ensures ∙ c.width_of.ensures) c.loop-v.invariant.0 c.loop-v.invariant.1 c.join_group-net.ensures.emitted _ c.join_group-net.ensures.lits_after,
)
