use Rattle.judge_line.specs.Text.{bytes}
use Rattle.judge_line.specs.Line.{claimed}
use Rattle.judge_line.proofs.Laid.{appended}
use Rattle.judge_line.proofs.line.Line.claimed.Goals as goal

pub returns-clause-appends : goal.returns-clause-appends
unfolding bytes claimed
returns-clause-appends c =
    appended (appended (appended (appended c.named.ensures.appends c.text.ensures) c.side.ensures.appends) c.named-2.ensures.appends) c.named-3.ensures.appends
