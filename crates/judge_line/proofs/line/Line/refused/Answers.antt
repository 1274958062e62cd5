use mathlib.Core.Path.{refl}
use Rattle.judge_line.specs.Text.{bytes}
use Rattle.judge_line.specs.Line.{refused}
use Rattle.judge_line.proofs.Laid.{appended, meant}
use Rattle.judge_line.proofs.line.Line.refused.Goals as goal

pub returns-clause-appends : goal.returns-clause-appends
unfolding bytes refused
returns-clause-appends c =
    meant (appended (appended c.named.ensures.appends c.named-2.ensures.appends) c.text.ensures) (rw c.row-row.ensures refl)
