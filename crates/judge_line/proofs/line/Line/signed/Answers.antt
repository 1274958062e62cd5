use mathlib.Core.Path.{sym, ap}
use Rattle.judge_line.specs.Text.{bytes}
use Rattle.judge_line.specs.Line.{signed}
use Rattle.judge_line.proofs.Laid.{meant}
use Rattle.judge_line.proofs.line.Line.signed.Goals as goal

pub returns-in-Natural-clause-appends : goal.returns-in-Natural-clause-appends
unfolding signed
returns-in-Natural-clause-appends c = meant c.decimal.ensures.appends (sym (ap signed c.in-Natural.is))

pub returns-in-Negative-clause-appends : goal.returns-in-Negative-clause-appends
unfolding bytes signed
returns-in-Negative-clause-appends c = meant c.named.ensures.appends (sym (ap signed c.in-Negative.is))
