use Rattle.capi_answer.proofs.Leaving.{translate_leaves_lem, short}
use Rattle.translation_meaning.proofs.Demand.{demand}
use borrow.Author.Tests.{lt-ltb, le-ltb}
use Rattle.capi_answer.specs.Left.{translate_leaves}
use Rattle.capi.proofs.pellet_translate.Goals as goal

pub returns-then-answer-lt-ANSWER_ENTRIES : goal.returns-then-answer-lt-ANSWER_ENTRIES
unfolding translate_leaves
returns-then-answer-lt-ANSWER_ENTRIES c = record { leaves = short _ _ _ _ (lt-ltb _ _ c.if-answer-lt-ANSWER_ENTRIES.true); demand2 = demand _ _ _ }

pub returns : goal.returns
unfolding translate_leaves
returns c =
    record { leaves = translate_leaves_lem _ _ _ _ _ _ _ _ _ _ _ c.fill.ensures c.translate.ensures.translation_answers (le-ltb _ _ c.if-answer-lt-ANSWER_ENTRIES.false); demand2 = c.translate.ensures.demand2 }
