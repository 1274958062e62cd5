use Prim.Native.Nat.{◌-◌}
use lib.ListN.{length}
use Rattle.routine.proofs.Flat.{Seeking}
use Rattle.routine.proofs.seeking.access_at.Given as goal

abbrev pub invariant-loop-at : goal.invariant-loop-at
invariant-loop-at l = Seeking l.bytes l.access l.initial.at l.initial.k l.at l.k

abbrev pub decreases-loop-at : goal.decreases-loop-at
decreases-loop-at l = length l.bytes - l.at
