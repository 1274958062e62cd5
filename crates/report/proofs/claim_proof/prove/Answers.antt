use Rattle.std.proofs.Common.{rules}
use Rattle.std.proofs.lemmas.Result.{err_from_is_err_and}
use Rattle.slices.proofs.Results.{mapped_err, mapped_ok}
use Rattle.report_witness.proofs.Reading.{fits, counted_routine}
use Rattle.report.specs.Inner.Translation.{by_translation}
use Rattle.report.proofs.Fitting.{prove_refused, prove_marks, prove_values, prove_trail, prove_begins, proved}
use Rattle.report.proofs.claim_proof.prove.Goals as goal

pub shared_ref_as_front-decisions : goal.shared_ref_as_front-decisions
shared_ref_as_front-decisions c = (fits _ _ _ c.requires.0).decisions

pub fit-requires : goal.fit-requires
fit-requires c = counted_routine _ _ _ c.requires.0

pub returns-in_err-size : goal.returns-in_err-size
returns-in_err-size c =
    let p = err_from_is_err_and c.from_residual.result c.from_residual.ensures.1 in
    let m = mapped_err by_translation c.fit.result c.in_err-size.field-0.0 (search rules) in
    rw (p.1, p.2) (prove_refused c.args.routine.now c.args.report.now c.args.from c.args.base c.args.accepted.header c.args.accepted.counts c.requires.0 c.args.lead c.args.words.now c.args.starts.now c.args.marks.now c.args.values c.args.trail c.requires.4 c.requires.5
    c.fit.new.words c.fit.new.starts c.fit.result c.fit.ensures
    _ m.1 _ m.2)

pub returns-then-marks-m : goal.returns-then-marks-m
returns-then-marks-m c =
    prove_marks c.args.routine.now c.args.report.now c.args.from c.args.base c.args.accepted.header c.args.accepted.counts c.requires.0 c.args.lead c.args.words.now c.args.starts.now c.args.marks.now c.args.values c.args.trail c.requires.4 c.requires.5
    c.fit.new.words c.fit.new.starts c.fit.result c.fit.ensures
    _ (mapped_ok by_translation c.fit.result c.in_ok-size.size (search rules)) c.if-marks-m.true

pub returns-then-values-from : goal.returns-then-values-from
returns-then-values-from c =
    prove_values c.args.routine.now c.args.report.now c.args.from c.args.base c.args.accepted.header c.args.accepted.counts c.requires.0 c.args.lead c.args.words.now c.args.starts.now c.args.marks.now c.args.values c.args.trail c.requires.4 c.requires.5
    c.fit.new.words c.fit.new.starts c.fit.result c.fit.ensures
    _ (mapped_ok by_translation c.fit.result c.in_ok-size.size (search rules)) c.if-marks-m.false (rw c.from.ensures at c.if-values-from.true)

pub returns-then-trail-ifs : goal.returns-then-trail-ifs
returns-then-trail-ifs c =
    prove_trail c.args.routine.now c.args.report.now c.args.from c.args.base c.args.accepted.header c.args.accepted.counts c.requires.0 c.args.lead c.args.words.now c.args.starts.now c.args.marks.now c.args.values c.args.trail c.requires.4 c.requires.5
    c.fit.new.words c.fit.new.starts c.fit.result c.fit.ensures
    _ (mapped_ok by_translation c.fit.result c.in_ok-size.size (search rules)) c.if-marks-m.false (rw c.from.ensures at c.if-values-from.false) c.if-trail-ifs.true

pub check-requires : goal.check-requires
check-requires c =
    prove_begins c.args.routine.now c.args.report.now c.args.from c.args.base c.args.accepted.header c.args.accepted.counts c.requires.0 c.args.lead c.args.words.now c.args.starts.now c.args.marks.now c.args.values c.args.trail c.requires.4 c.requires.5
    c.fit.new.words c.fit.new.starts c.fit.result c.fit.ensures
    _ (mapped_ok by_translation c.fit.result c.in_ok-size.size (search rules)) c.if-marks-m.false (rw c.from.ensures at c.if-values-from.false) c.requires.1 c.requires.2 c.requires.3

pub returns : goal.returns
returns c =
    proved c.args.routine.now c.args.report.now c.args.from c.args.base c.args.accepted.header c.args.accepted.counts c.requires.0 c.args.lead c.args.words.now c.args.starts.now c.args.marks.now c.args.values c.args.trail c.requires.4 c.requires.5
    c.fit.new.words c.fit.new.starts c.fit.result c.fit.ensures
    _ (mapped_ok by_translation c.fit.result c.in_ok-size.size (search rules)) c.if-marks-m.false (rw c.from.ensures at c.if-values-from.false) c.if-trail-ifs.false _ c.check.ensures
