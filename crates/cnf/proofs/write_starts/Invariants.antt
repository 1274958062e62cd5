use Rattle.std.proofs.Common.{◌≡◌, ◌*◌, ◌+◌, take}
use Rattle.cnf.specs.Inner.Append.{spaced}
use Rattle.cnf.proofs.write_starts.Given as goal

abbrev pub invariant-loop-start : goal.invariant-loop-start
invariant-loop-start l =
    (l.x ≡ l.at + 4 * l.start-index) × (take l.start-index l.start-items ≡ spaced l.at l.start-index)
