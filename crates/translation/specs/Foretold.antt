-- Note 2's law: what was told of the space decides 16, and is what the translation then answers.
use Rattle.std.specs.Prelude.{ℕ, ◌≡◌, List, Bool, cond, ◌||◌, length, ltb, Result, Ok, Err}
use Rattle.slices.specs.declared.Buffer.{Buffer}
use Rattle.lead.specs.declared.Target.{Target}
use Rattle.lead.specs.declared.Refusal as lead
use Rattle.translation_meaning.specs.declared.Size.{Size}
use Rattle.translation_space.specs.Space.{space_answer}
use Rattle.translation.specs.declared.Refusal.{Refusal}

-- a buffer is too small: it is smaller than told, or more than 16,777,216 entries are told for it
abbrev pub too_small : (lent : List ℕ) → (told : ℕ) → Bool
too_small lent told = ltb (length lent) told || ltb 16777216 told

-- what was refused is refused alike; 16 exactly when words, and then when starts is too small; otherwise just these counts
abbrev pub foretold_by : (words starts : List ℕ) → Result Size lead.Refusal → Result Size Refusal
foretold_by words starts (Err refusal) = Err (Refusal.Lead refusal)
foretold_by words starts (Ok size) =
    cond (too_small words size.words) (Err (Refusal.TooSmall Buffer.Words))
    (cond (too_small starts size.clauses) (Err (Refusal.TooSmall Buffer.Starts))
    (Ok size))

-- the translation answers r as `space` has foretold
pub record Foretold (bs : List ℕ) (t : Target) (ds words starts : List ℕ) (r : Result Size Refusal) : Type 0 where
  pub equal : r ≡ foretold_by words starts (space_answer bs t ds)
