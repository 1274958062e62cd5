use Rattle.std.proofs.Common.{sym, ◌∙◌, arith}
use Rattle.routine_command.specs.Command.{command_of}
use Rattle.routine_command.proofs.Sizes.{size-pos, size_at, cut, unknown, size_there, there}
use Rattle.routine_command.proofs.commands.command_at.Goals as goal

-- The whole command at an offset. Assumes nothing.
pub returns-then-bytes-at : goal.returns-then-bytes-at
returns-then-bytes-at c = cut _ _ (omega (arith, size-pos (command_of c.args.bytes.now c.args.at)))

pub returns-then-bytes-at-2 : goal.returns-then-bytes-at-2
returns-then-bytes-at-2 c = cut _ _ (omega (arith, size_at c.args.bytes.now c.args.at, c.size_by_op.ensures))

pub conversion_at-requires-clause-is : goal.conversion_at-requires-clause-is
conversion_at-requires-clause-is c = (c.conversion_of.ensures c.in-Some.kind).0 c.in-Some.is

pub returns-in-None : goal.returns-in-None
returns-in-None c = unknown _ _ (sym c.opcode_of.ensures ∙ c.in-None.is)

pub with_operands-requires : goal.with_operands-requires
with_operands-requires c =
    omega (
      arith,
      size_at c.args.bytes.now c.args.at,
      size_there c.args.bytes.now c.args.at c.in-Some-opcode_of.opcode (sym c.opcode_of.ensures ∙ c.in-Some-opcode_of.is),
      c.size_by_op.ensures,
    )

pub returns-in-Some-opcode_of : goal.returns-in-Some-opcode_of
returns-in-Some-opcode_of c =
    c.with_operands.ensures
    ∙ there _ _ c.in-Some-opcode_of.opcode (sym c.opcode_of.ensures ∙ c.in-Some-opcode_of.is)
    (omega (
      arith,
      size_at c.args.bytes.now c.args.at,
      size_there c.args.bytes.now c.args.at c.in-Some-opcode_of.opcode (sym c.opcode_of.ensures ∙ c.in-Some-opcode_of.is),
      c.size_by_op.ensures,
    ))
