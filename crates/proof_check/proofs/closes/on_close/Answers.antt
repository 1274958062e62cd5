use Rattle.std.proofs.Common.{sym, ◌∙◌, Ok}
use Rattle.proof_check.specs.declared.Turn.{Turn}
use Rattle.proof_check.proofs.Adding.{close_over, close_early, full_words, full_starts, did_close}
use Rattle.proof_check.proofs.closes.on_close.Goals as goal

pub returns-then-not-is_going : goal.returns-then-not-is_going
returns-then-not-is_going c = λ m t r z e. close_over c.args.base c.args.words.now c.args.starts.now m t r c.args.p (sym c.is_going.ensures ∙ c.if-not-is_going.true)

pub returns-then-not-is_conflicted : goal.returns-then-not-is_conflicted
returns-then-not-is_conflicted c = λ m t r z e. close_early c.args.base c.args.words.now c.args.starts.now m t r c.args.p (sym c.is_going.ensures ∙ c.if-not-is_going.false) (sym c.is_conflicted.ensures ∙ c.if-not-is_conflicted.true)

pub returns-then-words-p : goal.returns-then-words-p
returns-then-words-p c = λ m t r z e. full_words c.args.base c.args.words.now c.args.starts.now m t r c.args.p z (sym c.is_conflicted.ensures ∙ c.if-not-is_conflicted.false) c.if-words-p.true

pub returns-then-starts-count : goal.returns-then-starts-count
returns-then-starts-count c = λ m t r z e. full_starts c.args.base c.args.words.now c.args.starts.now m t r c.args.p z (sym c.is_conflicted.ensures ∙ c.if-not-is_conflicted.false) c.if-words-p.false c.if-starts-count.true

pub returns : goal.returns
returns c =
    λ m t r z e. did_close c.args.words.now c.args.starts.now m t r c.args.p z (sym c.is_conflicted.ensures ∙ c.if-not-is_conflicted.false) c.if-words-p.false c.if-starts-count.false c.args.base c.phase_after.result _ (λ i. Ok (Turn.More (c.with_close.ensures i))) c.phase_after.ensures e
