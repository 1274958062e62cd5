use native.Mathlib.Omega.{arith}
use Rattle.translation_state.specs.Inner.Reach.{wires_of}
use Rattle.translation_if.proofs.Branching.{arms_joined, joined_ready}
use Rattle.translation_if.proofs.joins.join_arms.Goals as goal

pub overflow_mul-arrival : goal.overflow_mul-arrival
overflow_mul-arrival c = omega (arith, (joined_ready _ _ c.requires.fine _ _ _ _ c.join_groups-n1.ensures.emitted c.requires.ready).next)

pub overflow_add-arrival : goal.overflow_add-arrival
overflow_add-arrival c = omega (arith, (joined_ready _ _ c.requires.fine _ _ _ _ c.join_groups-n1.ensures.emitted c.requires.ready).next)

pub emit-net-requires : goal.emit-net-requires
emit-net-requires c =
    joined_ready _ _ c.requires.fine _ _ _ _ c.join_groups-n1.ensures.emitted c.requires.ready

pub returns : goal.returns
returns c =
    arms_joined c.args.bytes.now c.args.h c.args.c (wires_of c.args.lits.now c.args.x) (wires_of c.args.other.now c.args.y) _ _ _ c.join_groups-n1.ensures.emitted c.join_groups-n1.ensures.lits_after c.opposite-a.ensures c.opposite-b.ensures c.emit-net.ensures
