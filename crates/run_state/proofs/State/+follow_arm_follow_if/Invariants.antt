-- Following an arm and following an if: the bytes left fall, and what is left of an arm means what the whole arm meant.
use Rattle.std.specs.Prelude.{is_some}
use Rattle.std.proofs.Common.{◌≡◌, false, ◌≤◌, ◌+◌, ◌-◌, ◌*◌, length}
use Rattle.run_state.specs.Inner.Walker.{way_at}
use Rattle.run_state.specs.declared.Course.{Course}
use Rattle.run_state.proofs.Following.{Going}
use Rattle.run_state.proofs.State.+follow_arm_follow_if.Given as goal

abbrev pub decreases-follow_arm : goal.decreases-follow_arm
decreases-follow_arm l = 2 * (length l.bytes.now - l.from) + 1

abbrev pub decreases-follow_if : goal.decreases-follow_if
decreases-follow_if l = 2 * (length l.bytes.now - l.at)

abbrev pub invariant-follow_arm-loop-self : goal.invariant-follow_arm-loop-self
invariant-follow_arm-loop-self l =
    (l.initial.at ≤ l.at) × Going l.bytes l.ins l.ds l.goal l.h l.depth l.fn.close (way_at l.initial.at l.initial.k l.initial.self Course.Passing) (way_at l.at l.k l.self Course.Passing) × (is_some l.self.stop ≡ false)

abbrev pub decreases-follow_arm-loop-self : goal.decreases-follow_arm-loop-self
decreases-follow_arm-loop-self l = length l.bytes - l.at
