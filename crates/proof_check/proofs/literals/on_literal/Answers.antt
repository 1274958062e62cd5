use Rattle.std.proofs.Common.{sym, ◌∙◌, Ok}
use Rattle.proof_check.specs.declared.Turn.{Turn}
use Rattle.proof_check.proofs.Taking.{literal_over, literal_late, literal_none, literal_high, literal_again, literal_full, did_literal}
use Rattle.proof_check.proofs.literals.on_literal.Goals as goal

pub returns-then-not-is_going : goal.returns-then-not-is_going
returns-then-not-is_going c = λ s t r z e. literal_over c.args.base c.args.words.now s c.args.marks.now t r c.args.p c.args.l z (sym c.is_going.ensures ∙ c.if-not-is_going.true)

pub returns-then-not-is_in_literals : goal.returns-then-not-is_in_literals
returns-then-not-is_in_literals c = λ s t r z e. literal_late c.args.base c.args.words.now s c.args.marks.now t r c.args.p c.args.l z (sym c.is_going.ensures ∙ c.if-not-is_going.false) (sym c.is_in_literals.ensures ∙ c.if-not-is_in_literals.true)

pub returns-then-l-lt2 : goal.returns-then-l-lt2
returns-then-l-lt2 c = λ s t r z e. literal_none c.args.base c.args.words.now s c.args.marks.now t r c.args.p c.args.l z (sym c.is_in_literals.ensures ∙ c.if-not-is_in_literals.false) c.if-l-lt2.true

pub returns-then-marks-v : goal.returns-then-marks-v
returns-then-marks-v c = λ s t r z e. literal_high c.args.base c.args.words.now s c.args.marks.now t r c.args.p c.args.l z (sym c.is_in_literals.ensures ∙ c.if-not-is_in_literals.false) c.if-l-lt2.false c.if-marks-v.true

pub returns-then-marks-v-ne0 : goal.returns-then-marks-v-ne0
returns-then-marks-v-ne0 c = λ s t r z e. literal_again c.args.base c.args.words.now s c.args.marks.now t r c.args.p c.args.l z (sym c.is_in_literals.ensures ∙ c.if-not-is_in_literals.false) c.if-l-lt2.false c.if-marks-v.false c.if-marks-v-ne0.true

pub returns-then-words-p : goal.returns-then-words-p
returns-then-words-p c = λ s t r z e. literal_full c.args.base c.args.words.now s c.args.marks.now t r c.args.p c.args.l z (sym c.is_in_literals.ensures ∙ c.if-not-is_in_literals.false) c.if-l-lt2.false c.if-marks-v.false c.if-marks-v-ne0.false c.if-words-p.true

pub returns : goal.returns
returns c =
    rw c.false_mark.ensures (λ s t r z e. did_literal c.args.base c.args.words.now s c.args.marks.now t r c.args.p c.args.l z (sym c.is_in_literals.ensures ∙ c.if-not-is_in_literals.false) c.if-l-lt2.false c.if-marks-v.false c.if-marks-v-ne0.false e _ (λ i. Ok (Turn.More (c.with_literal.ensures i))) c.if-words-p.false)
