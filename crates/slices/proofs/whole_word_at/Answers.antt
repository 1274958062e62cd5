use native.Mathlib.Omega.{arith}
use Rattle.slices.specs.Bytes.{word}
use Rattle.slices.proofs.whole_word_at.Goals as goal

pub returns : goal.returns
unfolding word
returns c = omega arith
