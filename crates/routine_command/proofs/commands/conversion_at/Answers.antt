use Rattle.std.proofs.Common.{◌∙◌, arith}
use Rattle.routine_command.specs.declared.Opcode.{Opcode}
use Rattle.routine_command.proofs.Sizes.{cut, size_there, there}
use Rattle.routine_command.proofs.commands.conversion_at.Goals as goal

-- The conversion at an offset. Assumes nothing.
pub returns-then-bytes-at-lt3 : goal.returns-then-bytes-at-lt3
returns-then-bytes-at-lt3 c = cut _ _ (omega (arith, size_there c.args.bytes.now c.args.at (Opcode.Convert c.args.kind) c.requires.is))

pub returns : goal.returns
returns c = c.with_operands.ensures ∙ there _ _ (Opcode.Convert c.args.kind) c.requires.is (omega arith)
