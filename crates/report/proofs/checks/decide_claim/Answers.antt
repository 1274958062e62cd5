use mathlib.Core.Path.{sym, ◌∙◌}
use Rattle.slices.proofs.Results.{mapped_ok}
use Rattle.report_witness.proofs.Reading.{fits, lets}
use Rattle.report_judgement.specs.declared.Refusal.{Refusal}
use Rattle.report.proofs.checks.decide_claim.Goals as goal

pub open-requires : goal.open-requires
open-requires c = fits _ _ _ c.requires.0

pub decide_lead-requires : goal.decide_lead-requires
decide_lead-requires c =
    let l = lets c.args.report.now c.args.accepted.header c.args.accepted.counts _ (sym c.open.ensures ∙ mapped_ok Refusal.Witness _ _ c.in_ok-lead.ensures.cases) in
    (c.requires.0, l.long, l.short, c.requires.1, c.requires.2)
