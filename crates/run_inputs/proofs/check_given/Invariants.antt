use Rattle.run_inputs.proofs.Lists.{Left}
use Rattle.run_inputs.proofs.check_given.Given as goal

abbrev pub invariant-loop-v : goal.invariant-loop-v
invariant-loop-v l = Left l.bytes l.inputs l.count l.v
