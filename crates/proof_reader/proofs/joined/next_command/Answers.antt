use Prim.Native.Nat.{◌-◌}
use mathlib.Core.Path.{sym, ◌∙◌}
use native.Mathlib.Omega.{arith}
use lib.ListN.{length}
use Rattle.proof_reader.proofs.Past.{command_past}
use Rattle.proof_reader.proofs.joined.next_command.Goals as goal

pub returns : goal.returns
returns c =
    c.read_command.ensures ∙ sym (command_past c.args.closed.now c.args.proof.now c.args.at (c.args.at - length c.args.closed.now) (omega (arith, c.requires)))
