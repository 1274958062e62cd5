use mathlib.Core.Path.{refl}
use Rattle.report_witness.specs.Witness.{by_course}
use Rattle.report_witness.proofs.runs.by_course.Goals as goal

pub returns-in-Astray : goal.returns-in-Astray
unfolding by_course
returns-in-Astray c = rw c.in-Astray.is refl

pub returns-in-Passing : goal.returns-in-Passing
unfolding by_course
returns-in-Passing c = rw c.in-Passing.is refl

pub returns-then-is_on : goal.returns-then-is_on
unfolding by_course
returns-then-is_on c = rw (c.in-Arrived.is, ← c.size_of_array-size.ensures, ← c.lies_at.ensures, ← c.is_on.ensures, c.if-is_on.true) refl

pub returns-else-is_on : goal.returns-else-is_on
unfolding by_course
returns-else-is_on c = rw (c.in-Arrived.is, ← c.size_of_array-size.ensures, ← c.lies_at.ensures, ← c.is_on.ensures, c.if-is_on.false) refl
