-- What a row of hints tells.
use Rattle.std.specs.Prelude.{◌≡◌, ℕ, ◌≤◌, Bool, cond, not, ◌&&◌, List, [], length, nat_lt, slice_index_or}
use Rattle.proof_propagation.specs.Hint.{hint_of}
use Rattle.proof_propagation.specs.declared.Hint.{Hint}
use Rattle.proof_reader.specs.Command.{command_at}
use Rattle.proof_reader.specs.declared.Command.{Command}
use Rattle.proof_check.specs.Phase.{going, conflicted}
use Rattle.proof_check.specs.State.{State}
use Rattle.proof_propagation.specs.Inner.Store.{proof_of}
use Rattle.proof_propagation.specs.declared.stored.ClauseStore.{ClauseStore}
use Rattle.proof_check.specs.Inner.Held.{state_in, Between, Onward, finish_in}
use Rattle.proof_check.specs.declared.Progress.{Progress}
use Rattle.proof_check.specs.declared.Row.{Row}

-- whether the step takes a hint to the clause of a number
abbrev pub takes : State → ℕ → Bool
takes s h = going s.phase && (not (conflicted s.phase) && nat_lt h (length s.clauses))

-- what the clause of a hint says, where the step takes it; any other command says neither
unfoldable pub said_by : State → Command → Hint
said_by s (Command.Literal l) = Hint.Neither
said_by s (Command.Hint h) = cond (takes s h) (hint_of s.marks (slice_index_or s.clauses h [])) Hint.Neither
said_by s Command.Close = Hint.Neither
said_by s Command.End = Hint.Neither
said_by s Command.Unreadable = Hint.Neither

-- what going over a row of hints from p on did: the definition goes on from there to the same outcome; the command that follows is no hint of the row
pub record Rowed (c : ClauseStore) (starts marks : List ℕ) (p : Progress) (marks₁ trail₁ : List ℕ) (x : Row) : Type 0 where
  pub between : Between c starts marks₁ trail₁ x.progress
  pub onward : Onward starts starts p x.progress
  pub further : p.at ≤ x.progress.at
  pub goes : (base : ℕ) → finish_in base c starts marks (state_in c starts marks p) ≡ finish_in base c starts marks (state_in c starts marks₁ x.progress)
  pub read : x.command ≡ command_at (proof_of c) x.progress.at
  pub neither : said_by (state_in c starts marks₁ x.progress) x.command ≡ Hint.Neither
