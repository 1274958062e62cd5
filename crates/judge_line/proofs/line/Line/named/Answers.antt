use Rattle.judge_line.proofs.Laid.{appended}
use Rattle.judge_line.proofs.line.Line.named.Goals as goal

pub returns-clause-appends : goal.returns-clause-appends
returns-clause-appends c = appended c.text.ensures c.decimal.ensures.appends
