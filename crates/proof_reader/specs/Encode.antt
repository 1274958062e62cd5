-- A command as bytes: what `command_at` reads back.
use Rattle.std.specs.Prelude.{ℕ, ◌<◌, List, [], ◌∷◌}
use Rattle.slices.specs.Bytes.{word_bytes}
use Rattle.proof_reader.specs.declared.Command.{Command}

-- the bytes of a command: its own byte, and after it the number of a literal or a hint; what cannot be read has none
unfoldable pub encode : Command → List ℕ
encode (Command.Literal l) = 1 ∷ word_bytes l
encode (Command.Hint h) = 2 ∷ word_bytes h
encode Command.Close = 3 ∷ []
encode Command.End = 0 ∷ []
encode Command.Unreadable = []

-- a command that its bytes hold whole: it can be read, and its number takes no more than four bytes
unfoldable pub Whole : Command → Type 0
Whole (Command.Literal l) = l < 4294967296
Whole (Command.Hint h) = h < 4294967296
Whole Command.Close = Prim.Unit {0}
Whole Command.End = Prim.Unit {0}
Whole Command.Unreadable = ⊥
