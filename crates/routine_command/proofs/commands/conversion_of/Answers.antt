use Rattle.std.proofs.Common.{refl, arith}
use Rattle.routine_command.specs.Command.{opcode_of}
use Rattle.routine_command.specs.declared.Conversion.{Conversion}
use Rattle.routine_command.proofs.Opcodes.{converts_alone, converts_not}
use Rattle.routine_command.proofs.commands.conversion_of.Goals as goal

-- The conversion that a byte stands for. Assumes nothing.
pub returns-in-2 : goal.returns-in-2
unfolding opcode_of
returns-in-2 c = λ k. converts_alone c.args.op Conversion.Copy k (rw c.in-2.is refl)

pub returns-in-6 : goal.returns-in-6
unfolding opcode_of
returns-in-6 c = λ k. converts_alone c.args.op Conversion.Cut k (rw c.in-6.is refl)

pub returns-in-7 : goal.returns-in-7
unfolding opcode_of
returns-in-7 c = λ k. converts_alone c.args.op Conversion.ZeroExtend k (rw c.in-7.is refl)

pub returns-in-8 : goal.returns-in-8
unfolding opcode_of
returns-in-8 c = λ k. converts_alone c.args.op Conversion.SignExtend k (rw c.in-8.is refl)

pub returns-in_default : goal.returns-in_default
returns-in_default c =
    converts_not c.args.op (λ e. omega (arith, e, c.in_default)) (λ e. omega (arith, e, c.in_default)) (λ e. omega (arith, e, c.in_default))
    (λ e. omega (arith, e, c.in_default))
