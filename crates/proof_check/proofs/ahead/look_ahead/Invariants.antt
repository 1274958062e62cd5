use Rattle.std.proofs.Common.{◌-◌, ◌≤◌, length}
use Rattle.proof_check.proofs.ahead.look_ahead.Given as goal

abbrev pub invariant-loop-count : goal.invariant-loop-count
invariant-loop-count l = l.count ≤ 32

abbrev pub decreases-loop-count : goal.decreases-loop-count
decreases-loop-count l = length l.store.proof.now - l.at
