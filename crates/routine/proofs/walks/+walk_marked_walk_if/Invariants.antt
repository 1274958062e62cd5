-- Both measures fall with the bytes left; the walk over an if, called at the same offset, counts one less.
use Rattle.std.proofs.Common.{◌≡◌, ◌+◌, ◌≤◌, length, ◌-◌, ◌*◌}
use Rattle.routine.specs.Inner.Walk.{walk_arm}
use Rattle.routine.proofs.walks.+walk_marked_walk_if.Given as goal

abbrev pub decreases-walk_marked : goal.decreases-walk_marked
decreases-walk_marked l = 2 * (length l.bytes.now - l.from) + 1

abbrev pub decreases-walk_if : goal.decreases-walk_if
decreases-walk_if l = 2 * (length l.bytes.now - l.at)

abbrev pub invariant-walk_marked-loop-mark : goal.invariant-walk_marked-loop-mark
invariant-walk_marked-loop-mark l =
    (l.initial.at ≤ l.at) × (walk_arm l.bytes l.h l.depth l.close l.at l.k ≡ walk_arm l.bytes l.h l.depth l.close l.initial.at l.initial.k)

abbrev pub decreases-walk_marked-loop-mark : goal.decreases-walk_marked-loop-mark
decreases-walk_marked-loop-mark l = length l.bytes - l.at
