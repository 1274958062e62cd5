use native.Mathlib.Omega.{arith}
use Rattle.proof_propagation.specs.Stored.{clauses_of}
use Rattle.proof.specs.Checking.{part}
use Rattle.proof.proofs.Asking.{unsatisfied_unfit, check_unfit, too_long, too_far, too_few, check_over, unsatisfied_over}
use Rattle.proof.proofs.prove.Goals as goal

pub returns-then-report-gt16777216 : goal.returns-then-report-gt16777216
returns-then-report-gt16777216 c =
    record { checks = check_unfit c.args.words.now c.args.starts.now c.args.marks.now c.args.report.now c.args.from c.args.clauses c.args.variables (too_long c.args.words.now c.args.starts.now c.args.marks.now c.args.report.now c.args.from c.args.clauses c.args.variables c.if-report-gt16777216.true); unsatisfied = unsatisfied_unfit (clauses_of (part c.args.words.now) (part c.args.starts.now) c.args.clauses) }

pub returns-then-report-from : goal.returns-then-report-from
returns-then-report-from c =
    record { checks = check_unfit c.args.words.now c.args.starts.now c.args.marks.now c.args.report.now c.args.from c.args.clauses c.args.variables (too_far c.args.words.now c.args.starts.now c.args.marks.now c.args.report.now c.args.from c.args.clauses c.args.variables c.if-report-gt16777216.false c.if-report-from.true); unsatisfied = unsatisfied_unfit (clauses_of (part c.args.words.now) (part c.args.starts.now) c.args.clauses) }

pub returns-then-m-variables : goal.returns-then-m-variables
returns-then-m-variables c =
    record { checks = check_unfit c.args.words.now c.args.starts.now c.args.marks.now c.args.report.now c.args.from c.args.clauses c.args.variables (too_few c.args.words.now c.args.starts.now c.args.marks.now c.args.report.now c.args.from c.args.clauses c.args.variables c.if-report-gt16777216.false c.if-report-from.false (omega (arith, c.usable-m.ensures, c.if-m-variables.true))); unsatisfied = unsatisfied_unfit (clauses_of (part c.args.words.now) (part c.args.starts.now) c.args.clauses) }

pub returns : goal.returns
returns c =
    record { checks = check_over c.args.words.now c.args.starts.now c.args.marks.now c.args.report.now c.args.from c.args.clauses c.args.variables c.if-report-gt16777216.false c.if-report-from.false (omega (arith, c.usable-m.ensures, c.if-m-variables.false)) c.usable-w.result c.usable-s.result c.usable-m.result c.usable-w.ensures c.usable-s.ensures c.usable-m.ensures c.check_parts.new.starts c.check_parts.new.marks c.check_parts.result c.check_parts.ensures.in_parts; unsatisfied = unsatisfied_over c.args.words.now c.args.starts.now c.args.clauses c.usable-w.result c.usable-s.result c.usable-w.ensures c.usable-s.ensures c.check_parts.result c.check_parts.ensures.unsatisfied }
