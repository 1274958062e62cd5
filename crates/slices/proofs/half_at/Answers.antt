use native.Mathlib.Omega.{arith}
use Rattle.slices.specs.Bytes.{half}
use Rattle.slices.proofs.Past.{half-past}
use Rattle.slices.proofs.half_at.Goals as goal

pub returns-then-bytes-i : goal.returns-then-bytes-i
returns-then-bytes-i c = half-past _ _ c.if-bytes-i.true

pub returns : goal.returns
unfolding half
returns c = omega arith
