-- The measures fall with the bytes left; the walk over an if, called at the same place, counts one less, and the walk over its arms two.
use Rattle.std.proofs.Common.{◌+◌, ◌*◌, ◌-◌, length}
use Rattle.translation_walk.proofs.Looping.{Going}
use Rattle.translation_walk.proofs.walks.+encode_arm_encode_arms_encode_if.Given as goal

abbrev pub decreases-encode_arm : goal.decreases-encode_arm
decreases-encode_arm l = 3 * (length l.bytes.now - l.here.next) + 2

abbrev pub decreases-encode_if : goal.decreases-encode_if
decreases-encode_if l = 3 * (length l.bytes.now - l.here.next) + 1

abbrev pub decreases-encode_arms : goal.decreases-encode_arms
decreases-encode_arms l = 3 * (length l.bytes.now - l.here.next)

abbrev pub invariant-encode_arm-loop-p : goal.invariant-encode_arm-loop-p
invariant-encode_arm-loop-p l =
    Going l.bytes l.h l.t l.ds l.depth l.fn.close l.initial.words l.initial.starts l.initial.lits l.initial.p l.words l.starts l.lits l.p

abbrev pub decreases-encode_arm-loop-p : goal.decreases-encode_arm-loop-p
decreases-encode_arm-loop-p l = length l.bytes - l.p.next
