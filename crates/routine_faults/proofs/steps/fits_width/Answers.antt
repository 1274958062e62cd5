use mathlib.Core.Path.{sym, ◌∙◌}
use native.Mathlib.Nat.{lt_of_lt_of_le}
use borrow.Author.Tests.{lt-ltb, le-leb}
use lib.Pow.{pow_mono}
use Rattle.routine_faults.proofs.steps.fits_width.Goals as goal

pub returns-then-w-ge32 : goal.returns-then-w-ge32
returns-then-w-ge32 c =
    le-leb _ _ c.if-w-ge32.true ∙ sym (lt-ltb _ _ (lt_of_lt_of_le c.ranges.c.fits (pow_mono c.if-w-ge32.true)))
