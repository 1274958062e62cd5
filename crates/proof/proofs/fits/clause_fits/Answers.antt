use native.Mathlib.Omega.{arith}
use Rattle.proof.proofs.Fitting.{clause_unlisted, clause_elsewhere, clause_outside, clause_by}
use Rattle.proof.proofs.fits.clause_fits.Goals as goal

pub returns-then-starts-number : goal.returns-then-starts-number
returns-then-starts-number c =
    clause_unlisted c.args.words.now c.args.starts.now c.args.variables c.args.number c.args.at c.if-starts-number.true

pub returns-then-starts-number-2 : goal.returns-then-starts-number-2
returns-then-starts-number-2 c =
    clause_elsewhere c.args.words.now c.args.starts.now c.args.variables c.args.number c.args.at c.if-starts-number.false c.if-starts-number-2.true

pub returns-then-words-at : goal.returns-then-words-at
returns-then-words-at c =
    clause_outside c.args.words.now c.args.starts.now c.args.variables c.args.number c.args.at c.if-starts-number.false c.if-starts-number-2.false (omega arith)

pub returns-then-words-to : goal.returns-then-words-to
returns-then-words-to c =
    clause_outside c.args.words.now c.args.starts.now c.args.variables c.args.number c.args.at c.if-starts-number.false c.if-starts-number-2.false c.if-words-to.true

pub returns : goal.returns
returns c =
    clause_by c.args.words.now c.args.starts.now c.args.variables c.args.number c.args.at c.if-starts-number.false c.if-starts-number-2.false c.if-words-to.false c.literals_fit.result c.literals_fit.ensures
