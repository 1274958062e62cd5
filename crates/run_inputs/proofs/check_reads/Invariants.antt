use Prim.Native.Nat.{◌-◌}
use lib.ListN.{length}
use Rattle.routine.specs.Routine.{text_of}
use Rattle.routine.specs.Decode.{commands_in}
use Rattle.run_inputs.proofs.Scan.{LeftOf}
use Rattle.run_inputs.proofs.check_reads.Given as goal

abbrev pub invariant-loop-n : goal.invariant-loop-n
invariant-loop-n l = LeftOf l.bytes l.inputs (text_of (commands_in l.bytes)) l.initial.n l.end l.at l.n

abbrev pub decreases-loop-n : goal.decreases-loop-n
decreases-loop-n l = length l.bytes - l.at
