use Rattle.std.proofs.lemmas.Result.{err_from_is_err_and}
use mathlib.Core.Path.{sym}
use Rattle.report_witness.specs.Pair.{same_target}
use Rattle.report_witness.proofs.Paired.{first-refused, second-refused, both_open}
use Rattle.report_witness.proofs.pairs.compare.Goals as goal

pub returns-in_err-one : goal.returns-in_err-one
returns-in_err-one c =
    let p = err_from_is_err_and c.from_residual.result c.from_residual.ensures.1 in
    rw (p.1, p.2) (first-refused _ _ _ _ _ (sym c.in_err-one.ensures))

pub returns-in_err-other : goal.returns-in_err-other
returns-in_err-other c =
    let p = err_from_is_err_and c.from_residual-in_err-other.result c.from_residual-in_err-other.ensures.1 in
    rw (p.1, p.2) (second-refused _ _ _ _ _ (sym c.in_ok-one.ensures) _ (sym c.in_err-other.ensures))

pub returns : goal.returns
unfolding same_target
returns c = rw c.eq.ensures (both_open _ _ _ _ _ (sym c.in_ok-one.ensures) _ (sym c.in_ok-other.ensures))
