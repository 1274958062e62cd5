use native.Mathlib.Omega.{arith}
use Rattle.slices.specs.Bytes.{word}
use Rattle.slices.proofs.Past.{word-past}
use Rattle.slices.proofs.word_at.Goals as goal

pub returns-then-bytes-i : goal.returns-then-bytes-i
returns-then-bytes-i c = word-past _ _ c.if-bytes-i.true

pub returns : goal.returns
unfolding word
returns c = omega arith
