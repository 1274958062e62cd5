use Rattle.capi_answer.proofs.Leaving.{short, check_leaves_lem}
use borrow.Author.Tests.{lt-ltb, le-ltb}
use Rattle.capi_answer.specs.Left.{check_leaves}
use Rattle.capi.proofs.pellet_check.Goals as goal

pub returns-then-answer-lt-ANSWER_ENTRIES : goal.returns-then-answer-lt-ANSWER_ENTRIES
unfolding check_leaves
returns-then-answer-lt-ANSWER_ENTRIES c = short _ _ _ _ (lt-ltb _ _ c.if-answer-lt-ANSWER_ENTRIES.true)

pub returns : goal.returns
unfolding check_leaves
returns c =
    check_leaves_lem _ _ _ _ c.fill.ensures c.check.ensures
    (le-ltb _ _ c.if-answer-lt-ANSWER_ENTRIES.false)
