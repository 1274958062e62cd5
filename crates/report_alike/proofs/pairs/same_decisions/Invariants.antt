use mathlib.Core.Path.{◌≡◌}
use mathlib.Core.Bool.{true}
use Rattle.report_alike.specs.Alike.{same_decisions}
use Rattle.report_alike.proofs.pairs.same_decisions.Given as goal

abbrev pub invariant-loop-number : goal.invariant-loop-number
invariant-loop-number l = same_decisions l.ds l.es l.number ≡ true
