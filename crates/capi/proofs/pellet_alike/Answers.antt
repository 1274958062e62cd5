use Rattle.capi_answer.proofs.Leaving.{short, alike_leaves_lem}
use borrow.Author.Tests.{lt-ltb, le-ltb}
use Rattle.capi_answer.specs.Left.{alike_leaves}
use Rattle.capi.proofs.pellet_alike.Goals as goal

pub returns-then-answer-lt-ANSWER_ENTRIES : goal.returns-then-answer-lt-ANSWER_ENTRIES
unfolding alike_leaves
returns-then-answer-lt-ANSWER_ENTRIES c = short _ _ _ _ (lt-ltb _ _ c.if-answer-lt-ANSWER_ENTRIES.true)

pub returns : goal.returns
unfolding alike_leaves
returns c =
    alike_leaves_lem _ _ _ _ _ _ c.fill.ensures c.alike.ensures
    (le-ltb _ _ c.if-answer-lt-ANSWER_ENTRIES.false)
