use Rattle.capi_answer.proofs.Leaving.{prove_leaves_lem, short}
use borrow.Author.Tests.{lt-ltb, le-ltb}
use Rattle.capi_answer.specs.Left.{prove_leaves}
use Rattle.capi.proofs.pellet_prove.Goals as goal

pub returns-then-answer-lt-ANSWER_ENTRIES : goal.returns-then-answer-lt-ANSWER_ENTRIES
unfolding prove_leaves
returns-then-answer-lt-ANSWER_ENTRIES c = short _ _ _ _ (lt-ltb _ _ c.if-answer-lt-ANSWER_ENTRIES.true)

pub returns : goal.returns
unfolding prove_leaves
returns c = prove_leaves_lem _ _ _ _ _ _ _ _ _ _ _ _ c.fill_prove.ensures c.prove.ensures.checks (le-ltb _ _ c.if-answer-lt-ANSWER_ENTRIES.false)
