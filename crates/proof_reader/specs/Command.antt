-- The commands of a proof in a report.
use Rattle.std.specs.Prelude.{ℕ, ◌+◌, List, cond, length, ltb, leb, eqb}
use Rattle.slices.specs.Bytes.{entry, word}
use Rattle.proof_reader.specs.declared.Command.{Command}

-- the command at an offset: 0 is the end, 3 a close, 1 a literal and 2 a hint, each of four bytes
unfoldable pub command_at : List ℕ → ℕ → Command
command_at r at =
    cond (ltb at (length r))
    (cond (eqb (entry r at) 0) Command.End
    (cond (eqb (entry r at) 3) Command.Close
    (cond (leb (at + 5) (length r))
    (cond (eqb (entry r at) 1) (Command.Literal (word r (at + 1)))
    (cond (eqb (entry r at) 2) (Command.Hint (word r (at + 1)))
    Command.Unreadable))
    Command.Unreadable)))
    Command.Unreadable
