use mathlib.Core.Path.{refl, ◌∙◌}
use native.Mathlib.Omega.{arith}
use Rattle.netlist.proofs.Emitting.{ready-after, ready_weaken}
use Rattle.translation_state.specs.Inner.Reach.{wires_of}
use Rattle.translation_if.proofs.Branching.{arm-few, branch_made, condition_made, condition_ready}
use Rattle.translation_if.proofs.begin_if.Goals as goal

pub arm_arrival-x-requires : goal.arm_arrival-x-requires
arm_arrival-x-requires c =
    ready_weaken (omega arith)
    (condition_ready _ _ c.args.c _ c.requires.sound_if.0 c.requires.sound_if.1 c.requires.lits_len c.place_of-a.ensures c.place_of-b.ensures (c.from-w.ensures ∙ c.width_of.ensures) c.relation-test.ensures c.requires.ready)

pub arm_arrival-y-requires : goal.arm_arrival-y-requires
arm_arrival-y-requires c =
    ready-after 1 c.arm_arrival-x.ensures.emitted
    (condition_ready _ _ c.args.c _ c.requires.sound_if.0 c.requires.sound_if.1 c.requires.lits_len c.place_of-a.ensures c.place_of-b.ensures (c.from-w.ensures ∙ c.width_of.ensures) c.relation-test.ensures c.requires.ready)
    (arm-few _ _ _ _)

pub returns : goal.returns
returns c =
    let s = wires_of c.args.lits.now c.args.s in
    branch_made c.args.bytes.now c.args.c c.args.d s _
    (condition_made _ _ c.args.c _ c.requires.sound_if.0 c.requires.sound_if.1 c.requires.lits_len c.place_of-a.ensures c.place_of-b.ensures (c.from-w.ensures ∙ c.width_of.ensures) c.relation-test.ensures s refl)
    c.arm_arrival-x.ensures c.opposite-fails.ensures c.arm_arrival-y.ensures
