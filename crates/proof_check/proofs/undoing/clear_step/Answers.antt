use Rattle.std.proofs.Common.{replicate, ap, ◌∙◌, arith}
use Rattle.proof_check.proofs.Cleaning.{clean-room, clean-less, clean-none}
use Rattle.proof_check.proofs.undoing.clear_step.Goals as goal

pub overflow_sub-to : goal.overflow_sub-to
overflow_sub-to c = omega (arith, clean-room _ _ _ _ _ c.loop-to-test.true c.loop-to.invariant.1)

pub clear_command-requires-clause-closed_len_bound : goal.clear_command-requires-clause-closed_len_bound
clear_command-requires-clause-closed_len_bound c = omega (arith, c.requires.holds.parted.begun, clean-room _ _ _ _ _ c.loop-to-test.true c.loop-to.invariant.1)

pub loop-to-preserved : goal.loop-to-preserved
loop-to-preserved c =
    (c.clear_command.auto.marks ∙ c.loop-to.invariant.0, clean-less _ _ _ _ _ _ c.loop-to-test.true c.loop-to.invariant.1 c.clear_command.auto.marks c.clear_command.ensures)

pub returns : goal.returns
returns c = clean-none _ _ _ _ _ c.loop-to-test.false c.loop-to.invariant.1 ∙ ap (λ n. replicate n 0) c.loop-to.invariant.0
