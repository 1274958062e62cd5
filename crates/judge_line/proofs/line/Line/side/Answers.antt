use mathlib.Core.Path.{◌≡◌, refl, sym, ap}
use Prim.Native.Nat.{ℕ, zero, suc}
use Rattle.judge_line.specs.Text.{bytes}
use Rattle.judge_line.specs.Line.{side_word}
use Rattle.judge_line.proofs.Laid.{meant}
use Rattle.judge_line.proofs.line.Line.side.Goals as goal

-- The word of a side, by whether its number is 0.
-- any number but 0 is above
above : (n : ℕ) → (n ≡ 0 → ⊥) → bytes "above" ≡ side_word n
unfolding side_word
above zero h = absurd (h refl)
above (suc n) h = refl

pub returns-then-side-eq0-clause-appends : goal.returns-then-side-eq0-clause-appends
unfolding bytes side_word
returns-then-side-eq0-clause-appends c = meant c.text.ensures (sym (ap side_word c.if-side-eq0.true))

pub returns-else-side-eq0-clause-appends : goal.returns-else-side-eq0-clause-appends
unfolding bytes
returns-else-side-eq0-clause-appends c = meant c.text-else-side-eq0.ensures (above _ c.if-side-eq0.false)
