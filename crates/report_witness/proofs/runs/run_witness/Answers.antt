use Rattle.std.proofs.Common.{rules}
use Rattle.std.proofs.lemmas.Result.{err_from_is_err_and}
use mathlib.Core.Path.{sym, ◌∙◌}
use native.Mathlib.Omega.{arith}
use Rattle.slices.proofs.Results.{mapped_err, mapped_ok}
use Rattle.run_inputs.specs.declared.TooGreat.{TooGreat}
use Rattle.report_witness.specs.declared.Refusal.{Refusal}
use Rattle.report_witness.proofs.Reading.{fits}
use Rattle.report_witness.proofs.Running.{run-refused, run_settled}
use Rattle.report_witness.proofs.runs.run_witness.Goals as goal

pub shared_ref_as_front-inputs : goal.shared_ref_as_front-inputs
shared_ref_as_front-inputs c = omega (arith, c.input_count-n.ensures, (fits _ _ _ c.requires).inputs)

pub shared_ref_as_front-run_to_access : goal.shared_ref_as_front-run_to_access
shared_ref_as_front-run_to_access c = omega (arith, (fits _ _ _ c.requires).decisions)

pub returns-in_err-map_err : goal.returns-in_err-map_err
returns-in_err-map_err c =
    let p = err_from_is_err_and c.from_residual.result c.from_residual.ensures.1 in
    let m = mapped_err (λ (word : TooGreat). Refusal.Input word.0) c.check_words.result c.in_err-map_err.field-0.0 (search rules) in
    rw (p.1, p.2, m.2) (run-refused _ _ _ _ _ _ c.input_count-n.ensures _ (sym c.check_words.ensures ∙ m.1))

pub returns : goal.returns
returns c =
    let fit = mapped_ok (λ (word : TooGreat). Refusal.Input word.0) c.check_words.result tt (search rules) in
    run_settled _ _ _ _ _ _ c.input_count-n.ensures (sym c.check_words.ensures ∙ fit) _ c.run_to_access-course.ensures _ c.by_course.ensures
