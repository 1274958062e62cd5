use Rattle.std.proofs.lemmas.Result.{err_from_is_err_and}
use mathlib.Core.Path.{sym}
use Rattle.report_witness.proofs.Reading.{fits}
use Rattle.report_alike.proofs.Paired.{first-refused, second-refused, both_open}
use Rattle.report_alike.proofs.pairs.compare.Goals as goal

pub returns-in_err-one : goal.returns-in_err-one
returns-in_err-one c =
    let p = err_from_is_err_and c.from_residual.result c.from_residual.ensures.1 in
    rw (p.1, p.2) (first-refused _ _ _ _ _ _ (sym c.in_err-one.ensures))

pub returns-in_err-other : goal.returns-in_err-other
returns-in_err-other c =
    let p = err_from_is_err_and c.from_residual-in_err-other.result c.from_residual-in_err-other.ensures.1 in
    rw (p.1, p.2) (second-refused _ _ _ _ _ _ (sym c.in_ok-one.ensures) _ (sym c.in_err-other.ensures))

pub returns : goal.returns
returns c = both_open _ _ _ _ _ _ (sym c.in_ok-one.ensures) _ (sym c.in_ok-other.ensures) _ c.alike_leads.ensures

pub open-requires : goal.open-requires
open-requires c = fits _ _ _ c.requires

pub open-requires-2 : goal.open-requires-2
open-requires-2 c = fits _ _ _ c.requires
