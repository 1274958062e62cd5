use mathlib.Core.Path.{sym, ap, ◌∙◌}
use Rattle.report_alike.specs.Alike.{same_target, same_decisions}
use Rattle.report_witness.proofs.Reading.{fits, counted_routine}
use Rattle.report_alike.proofs.Paired.{other_target, same-named}
use Rattle.report_alike.proofs.pairs.alike_leads.Goals as goal

pub returns-then-ne : goal.returns-then-ne
unfolding same_target
returns-then-ne c = other_target _ _ _ _ (sym c.ne.ensures ∙ c.if-ne.true)

pub shared_ref_as_front-same_decisions : goal.shared_ref_as_front-same_decisions
shared_ref_as_front-same_decisions c = (fits _ _ _ c.requires).decisions

pub ifs_before-before-requires : goal.ifs_before-before-requires
ifs_before-before-requires c = counted_routine _ _ _ c.requires

pub returns : goal.returns
unfolding same_target
returns c =
    same-named _ _ _ _ (sym c.ne.ensures ∙ c.if-ne.false) _ (c.same_decisions.ensures ∙ ap (same_decisions _ _) c.ifs_before-before.ensures)
