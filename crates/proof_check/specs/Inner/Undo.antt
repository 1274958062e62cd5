-- The undoing of a step's marks: the variables of its literals and of the clauses that its hints name, command by command from the last.
-- Each of its commands takes five bytes.
use Rattle.std.specs.Prelude.{◌≡◌, ℕ, zero, suc, ◌+◌, ◌-◌, ◌*◌, List, [], ◌∷◌, ◌++◌, length, replicate, slice_index_or}
use Rattle.cnf.specs.Clause.{Clause}
use Rattle.proof_propagation.specs.Inner.Clear.{clear}
use Rattle.proof_reader.specs.Command.{command_at}
use Rattle.proof_reader.specs.declared.Command.{Command}

-- the literals whose variables a command may have marked
unfoldable pub touches : List Clause → Command → List ℕ
touches cs (Command.Literal l) = l ∷ []
touches cs (Command.Hint h) = slice_index_or cs h []
touches cs Command.Close = []
touches cs Command.End = []
touches cs Command.Unreadable = []

-- those of the k commands before an offset
unfoldable pub touched : List Clause → List ℕ → ℕ → ℕ → List ℕ
unfolding touches
touched cs r zero at = []
touched cs r (suc k) at = touches cs (command_at r (at - 5)) ++ touched cs r k (at - 5)

-- undoing the commands of a step, from its beginning up to an offset, leaves every variable undecided
unfoldable pub Clean : List ℕ → ℕ → List Clause → List ℕ → ℕ → Type 0
unfolding touched
Clean r begin cs m at = (k : ℕ) × (begin + k * 5 ≡ at) × (clear m (touched cs r k at) ≡ replicate (length m) 0)
