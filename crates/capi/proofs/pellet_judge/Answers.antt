use Rattle.capi_answer.proofs.Leaving.{judge_short, judge_leaves_lem}
use Rattle.capi_answer.proofs.Telling.{finds, finds_nothing}
use borrow.Author.Tests.{lt-ltb, le-ltb}
use Rattle.capi.proofs.pellet_judge.Goals as goal

pub returns-then-answer-lt-ANSWER_ENTRIES : goal.returns-then-answer-lt-ANSWER_ENTRIES
returns-then-answer-lt-ANSWER_ENTRIES c =
    record { leaves = judge_short _ _ _ _ _ _ _ _ _ _ _ _ _ c.judge-judged.ensures.judges (lt-ltb _ _ c.if-answer-lt-ANSWER_ENTRIES.true); finds = finds_nothing _ _ _ _ }

pub returns : goal.returns
returns c =
    record { leaves = judge_leaves_lem _ _ _ _ _ _ _ _ _ _ _ _ _ _ _ c.fill.ensures c.judge-judged.ensures.judges (le-ltb _ _ c.if-answer-lt-ANSWER_ENTRIES.false); finds = finds _ _ _ _ _ c.judge-judged.result c.fill.ensures c.judge-judged.ensures.demand3 }
