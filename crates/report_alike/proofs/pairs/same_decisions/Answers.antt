use mathlib.Core.Path.{sym, ◌∙◌}
use Rattle.report_alike.proofs.Deciding.{none_yet, same_next, differ}
use Rattle.report_alike.proofs.pairs.same_decisions.Goals as goal

pub loop-number-init : goal.loop-number-init
loop-number-init c = none_yet _ _

pub returns-then-byte_at : goal.returns-then-byte_at
returns-then-byte_at c =
    differ c.args.ds.now c.args.es.now c.loop-number.number _ c.loop-number-test.true
    (λ e. c.if-byte_at.true (c.byte_at.ensures ∙ e ∙ sym c.byte_at-in-loop-number.ensures))

pub loop-number-preserved : goal.loop-number-preserved
loop-number-preserved c =
    same_next _ _ c.loop-number.number c.loop-number.invariant (sym c.byte_at.ensures ∙ c.if-byte_at.false ∙ c.byte_at-in-loop-number.ensures)
