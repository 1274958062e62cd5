use Rattle.std.proofs.Common.{length, sym, ap, subst, ◌∙◌}
use Rattle.proof_propagation.specs.Hint.{hint_of}
use Rattle.proof_propagation.specs.Inner.Standing.{HasMarks}
use Rattle.proof_propagation.specs.Inner.Store.{proof_of}
use Rattle.proof_propagation.proofs.Standing.{stored_lent, stored_step}
use Rattle.proof_propagation.proofs.stored.ClauseStore.scan.Goals as goal

pub scan-requires-clause-has_marks : goal.scan-requires-clause-has_marks
scan-requires-clause-has_marks c =
    subst (HasMarks (length c.args.marks.now)) (sym (stored_lent c.args.self.words.now c.args.starts.now (proof_of c.args.self) c.args.given c.args.number c.if-number-given.true)) c.requires.stands.fits

pub returns-then-number-given : goal.returns-then-number-given
returns-then-number-given c =
    c.scan.ensures ∙ ap (hint_of c.args.marks.now) (stored_lent c.args.self.words.now c.args.starts.now (proof_of c.args.self) c.args.given c.args.number c.if-number-given.true)

pub scan-requires-else-number-given-clause-has_marks : goal.scan-requires-else-number-given-clause-has_marks
scan-requires-else-number-given-clause-has_marks c =
    subst (HasMarks (length c.args.marks.now)) (stored_step c.args.self.words.now c.args.starts.now (proof_of c.args.self) c.args.given c.args.number c.if-number-given.false ∙ sym c.run.ensures.same) c.requires.stands.fits

pub returns-else-number-given : goal.returns-else-number-given
returns-else-number-given c =
    c.scan-else-number-given.ensures ∙ ap (hint_of c.args.marks.now) (c.run.ensures.same ∙ sym (stored_step c.args.self.words.now c.args.starts.now (proof_of c.args.self) c.args.given c.args.number c.if-number-given.false))
