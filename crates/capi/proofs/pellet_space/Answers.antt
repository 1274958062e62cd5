use Rattle.capi_answer.proofs.Leaving.{short, space_leaves_lem}
use borrow.Author.Tests.{lt-ltb, le-ltb}
use Rattle.capi_answer.specs.Left.{space_leaves}
use Rattle.capi.proofs.pellet_space.Goals as goal

pub returns-then-answer-lt-ANSWER_ENTRIES : goal.returns-then-answer-lt-ANSWER_ENTRIES
unfolding space_leaves
returns-then-answer-lt-ANSWER_ENTRIES c = short _ _ _ _ (lt-ltb _ _ c.if-answer-lt-ANSWER_ENTRIES.true)

pub returns : goal.returns
unfolding space_leaves
returns c =
    space_leaves_lem _ _ _ _ _ _ _ c.fill.ensures c.space.ensures.value
    (le-ltb _ _ c.if-answer-lt-ANSWER_ENTRIES.false)
