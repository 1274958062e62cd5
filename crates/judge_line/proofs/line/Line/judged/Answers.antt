use mathlib.Core.Path.{sym, ap}
use Rattle.judge_line.specs.Line.{line_of}
use Rattle.judge_line.proofs.Laid.{appended, meant}
use Rattle.judge_line.proofs.line.Line.judged.Goals as goal

-- The line of an accepted report is its two parts, one after the other.
pub returns-in-Ok-clause-appends : goal.returns-in-Ok-clause-appends
unfolding line_of
returns-in-Ok-clause-appends c = meant (appended c.claimed.ensures.appends c.shown.ensures.appends) (sym (ap line_of c.in-Ok.is))

pub returns-in-Err-clause-appends : goal.returns-in-Err-clause-appends
unfolding line_of
returns-in-Err-clause-appends c = meant c.refused.ensures.appends (sym (ap line_of c.in-Err.is))
