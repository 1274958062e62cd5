use native.Mathlib.Omega.{arith}
use mathlib.Core.Path.{sym, ◌∙◌}
use Rattle.proof.proofs.Fitting.{clause_fits_lem, stand_next, stand_not, stand_end}
use Rattle.proof.proofs.fits.stand.Goals as goal

pub returns-then-not-clause_fits : goal.returns-then-not-clause_fits
returns-then-not-clause_fits c =
    sym (stand_not c.args.words.now c.args.starts.now c.args.variables c.args.count c.loop-i.i c.loop-i.at c.loop-i-test.true (sym c.clause_fits.ensures ∙ c.if-not-clause_fits.true)) ∙ c.loop-i.invariant.2

pub bounds-words-at : goal.bounds-words-at
bounds-words-at c =
    let f = clause_fits_lem c.args.words.now c.args.starts.now c.args.variables c.loop-i.i c.loop-i.at (sym c.clause_fits.ensures ∙ c.if-not-clause_fits.false) in
    omega (arith, f.inside)

pub loop-i-preserved : goal.loop-i-preserved
loop-i-preserved c =
    let e = sym c.clause_fits.ensures ∙ c.if-not-clause_fits.false in
    let f = clause_fits_lem c.args.words.now c.args.starts.now c.args.variables c.loop-i.i c.loop-i.at e in (
      omega arith,
      omega (arith, f.inside),
      stand_next c.args.words.now c.args.starts.now c.args.variables c.args.count c.loop-i.i c.loop-i.at _ c.loop-i-test.true e (omega arith) ∙ c.loop-i.invariant.2,
    )

pub returns : goal.returns
returns c =
    sym (stand_end c.args.words.now c.args.starts.now c.args.variables c.args.count c.loop-i.i c.loop-i.at c.loop-i.invariant.0 c.loop-i-test.false) ∙ c.loop-i.invariant.2
