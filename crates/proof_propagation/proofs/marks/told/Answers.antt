use mathlib.Core.Path.{sym, ap, ◌∙◌}
use borrow.Author.Tests.{eq-eqb, ne_eqb}
use mathlib.Core.List.{[]}
use Rattle.proof_propagation.specs.Inner.Scan.{scan_of}
use Rattle.proof_propagation.proofs.Scanning.{scan_none, scan_one, scan_set}
use Rattle.proof_propagation.proofs.marks.told.Goals as goal

pub returns-then-found-eq0 : goal.returns-then-found-eq0
returns-then-found-eq0 c = sym (ap (λ k. scan_of c.args.marks.now k []) c.if-found-eq0.true ∙ scan_none c.args.marks.now)

pub returns-then-marks-v-eq0 : goal.returns-then-marks-v-eq0
returns-then-marks-v-eq0 c = sym (scan_one c.args.marks.now c.args.found c.if-found-eq0.false (eq-eqb _ 0 c.if-marks-v-eq0.true))

pub returns-else-marks-v-eq0 : goal.returns-else-marks-v-eq0
returns-else-marks-v-eq0 c = sym (scan_set c.args.marks.now c.args.found c.if-found-eq0.false (ne_eqb _ 0 c.if-marks-v-eq0.false))
