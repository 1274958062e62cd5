use Rattle.std.proofs.lemmas.Result.{err_from_is_err_and}
use mathlib.Core.Path.{sym, ◌∙◌}
use Rattle.slices.proofs.Results.{mapped_err, mapped_ok}
use Rattle.report_witness.specs.declared.Refusal.{Refusal}
use Rattle.report_witness.proofs.Reading.{too_long, cut_short, opened_by}
use Rattle.report_witness.proofs.leads.open.Goals as goal

pub returns-then-report-gt16777216 : goal.returns-then-report-gt16777216
returns-then-report-gt16777216 c = too_long _ _ _ c.if-report-gt16777216.true

pub returns-then-report-proof_at : goal.returns-then-report-proof_at
returns-then-report-proof_at c = cut_short _ _ _ c.if-report-gt16777216.false (rw c.proof_at.ensures at c.if-report-proof_at.true)

pub returns-in_err-map_err : goal.returns-in_err-map_err
returns-in_err-map_err c =
    let p = err_from_is_err_and c.from_residual.result c.from_residual.ensures.1 in
    let m = mapped_err Refusal.Lead _ _ c.in_err-map_err.ensures.cases in
    rw (p.1, p.2, m.2)
    (opened_by _ _ _ c.if-report-gt16777216.false (rw c.proof_at.ensures at c.if-report-proof_at.false) _ c.read_lead-lead.ensures _ (sym m.1 ∙ c.admit_lead.ensures))

pub returns : goal.returns
returns c =
    let m = mapped_ok Refusal.Lead _ _ c.in_ok-map_err.ensures.cases in
    opened_by _ _ _ c.if-report-gt16777216.false (rw c.proof_at.ensures at c.if-report-proof_at.false) _ c.read_lead-lead.ensures _ (sym m ∙ c.admit_lead.ensures)
