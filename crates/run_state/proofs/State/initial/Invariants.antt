use mathlib.Core.Path.{◌≡◌}
use Rattle.run_state.specs.State.{over}
use Rattle.run_state.proofs.State.initial.Given as goal

abbrev pub invariant-loop-i : goal.invariant-loop-i
invariant-loop-i l = l.values ≡ over l.i l.inputs l.initial.values
