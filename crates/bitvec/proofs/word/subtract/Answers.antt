use Rattle.std.proofs.Common.{◌≡◌, ℕ, ◌+◌, ◌-◌, ◌%◌, ◌<◌, ◌∙◌, arith}
use Rattle.bitvec.specs.Word.{subtract}
use Rattle.bitvec.proofs.Powers.{wrapped_difference}
use Rattle.bitvec.proofs.word.subtract.Goals as goal

-- `subtract` reduces the difference of 32 bits, which b added to wraps back to a.
wraps_back : (a b : ℕ) → a < 4294967296 → b < 4294967296 → ((a + (4294967296 - b)) % 4294967296 + b) % 4294967296 ≡ a
wraps_back a b l m = omega arith

pub returns : goal.returns
unfolding subtract
returns c = c.reduced.ensures ∙ wrapped_difference _ _ _ _ c.requires (wraps_back c.args.a c.args.b c.ranges.a.fits c.ranges.b.fits)
