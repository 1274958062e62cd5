use Rattle.judge_line.specs.Text.{bytes}
use Rattle.judge_line.specs.Line.{shown}
use Rattle.judge_line.proofs.Laid.{appended}
use Rattle.judge_line.proofs.line.Line.shown.Goals as goal

pub returns-clause-appends : goal.returns-clause-appends
unfolding bytes shown
returns-clause-appends c =
    appended (appended (appended (appended c.text.ensures c.signed.ensures.appends) c.named.ensures.appends) c.named-2.ensures.appends) c.text-2.ensures
