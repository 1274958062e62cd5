use Rattle.std.proofs.Common.{sym, ap, ◌∙◌}
use Rattle.proof_propagation.specs.Inner.Clear.{clear}
use Rattle.proof_propagation.specs.Inner.Store.{proof_of}
use Rattle.proof_propagation.proofs.Standing.{stored_lent, stored_step}
use Rattle.proof_propagation.proofs.stored.ClauseStore.clear.Goals as goal

pub returns-then-number-given : goal.returns-then-number-given
returns-then-number-given c =
    c.clear_literals.ensures ∙ ap (clear c.args.marks.now) (stored_lent c.args.self.words.now c.args.starts.now (proof_of c.args.self) c.args.given c.args.number c.if-number-given.true)

pub returns-else-number-given : goal.returns-else-number-given
returns-else-number-given c =
    c.clear_literals-else-number-given.ensures ∙ ap (clear c.args.marks.now) (c.run.ensures.same ∙ sym (stored_step c.args.self.words.now c.args.starts.now (proof_of c.args.self) c.args.given c.args.number c.if-number-given.false))
