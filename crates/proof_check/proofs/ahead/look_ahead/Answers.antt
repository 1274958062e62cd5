use Rattle.std.proofs.Common.{arith}
use Rattle.proof_reader.proofs.Reading.{literal_within, hint_within, close_within}
use Rattle.proof_check.proofs.ahead.look_ahead.Goals as goal

pub overflow_add-at : goal.overflow_add-at
overflow_add-at c =
    omega (arith, hint_within c.args.store.proof.now c.loop-count.at c.read_command.result c.read_command.ensures c.in-Hint.h c.in-Hint.is)

pub loop-count-smaller-in-Hint : goal.loop-count-smaller-in-Hint
loop-count-smaller-in-Hint c =
    omega (arith, hint_within c.args.store.proof.now c.loop-count.at c.read_command.result c.read_command.ensures c.in-Hint.h c.in-Hint.is)

pub overflow_add-at-in-Literal : goal.overflow_add-at-in-Literal
overflow_add-at-in-Literal c =
    omega (arith, literal_within c.args.store.proof.now c.loop-count.at c.read_command.result c.read_command.ensures c.in-Literal.field-0 c.in-Literal.is)

pub loop-count-smaller-in-Literal : goal.loop-count-smaller-in-Literal
loop-count-smaller-in-Literal c =
    omega (arith, literal_within c.args.store.proof.now c.loop-count.at c.read_command.result c.read_command.ensures c.in-Literal.field-0 c.in-Literal.is)

pub overflow_add-at-in-Close : goal.overflow_add-at-in-Close
overflow_add-at-in-Close c =
    omega (arith, close_within c.args.store.proof.now c.loop-count.at c.read_command.result c.read_command.ensures c.in-Close.is)

pub loop-count-smaller : goal.loop-count-smaller
loop-count-smaller c =
    omega (arith, close_within c.args.store.proof.now c.loop-count.at c.read_command.result c.read_command.ensures c.in-Close.is)
