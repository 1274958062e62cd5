use Rattle.capi_answer.proofs.Leaving.{run_leaves_lem, short}
use borrow.Author.Tests.{lt-ltb, le-ltb}
use Rattle.capi_answer.specs.Left.{run_leaves}
use Rattle.capi.proofs.pellet_run.Goals as goal

pub returns-then-answer-lt-ANSWER_ENTRIES : goal.returns-then-answer-lt-ANSWER_ENTRIES
unfolding run_leaves
returns-then-answer-lt-ANSWER_ENTRIES c = short _ _ _ _ (lt-ltb _ _ c.if-answer-lt-ANSWER_ENTRIES.true)

pub returns : goal.returns
unfolding run_leaves
returns c = run_leaves_lem _ _ _ _ _ _ _ _ _ c.fill.ensures c.run.ensures.run_answers (le-ltb _ _ c.if-answer-lt-ANSWER_ENTRIES.false)
