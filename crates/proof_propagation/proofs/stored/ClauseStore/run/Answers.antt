use Rattle.std.proofs.Common.{◌-◌, length, sym, arith}
use Rattle.proof_reader.proofs.Running.{run_append}
use Rattle.proof_reader.proofs.Past.{run_past}
use Rattle.proof_propagation.proofs.Standing.{run_few}
use Rattle.proof_propagation.proofs.stored.ClauseStore.run.Goals as goal

pub returns-then-start-self : goal.returns-then-start-self
returns-then-start-self c =
    let r = c.requires.in_part c.if-start-self.true in
    record { readable = (r, omega (arith, run_few _ _ r)); same = sym (run_append c.args.self.closed.now c.args.self.proof.now c.args.start r).1 }

pub returns-else-start-self : goal.returns-else-start-self
returns-else-start-self c =
    let y = run_past c.args.self.closed.now c.args.self.proof.now c.args.start (c.args.start - length c.args.self.closed.now) (omega arith) c.requires.runs in
    record { readable = (y.0, omega (arith, run_few _ _ y.0)); same = sym y.1 }
