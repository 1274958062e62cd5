use native.Mathlib.Omega.{arith}
use Rattle.judge_line.specs.Text.{bytes}
use Rattle.judge_line.proofs.Laid.{said}
use Rattle.judge_files.proofs.Printing.{counted, within, no_routine, no_report, both}
use Rattle.judge_files.proofs.answer.answer.Goals as goal

-- What is printed, where a file cannot be read and where both can.
pub returns-in_default : goal.returns-in_default
unfolding bytes
returns-in_default c =
    record { writes = said c.write_text.ensures (no_routine _ _ _ c.in_default.is); prefix_len = counted _ _ (omega (arith, c.write_text.ensures.ends, c.write_text.auto.out)) }

pub returns-in_default-report : goal.returns-in_default-report
unfolding bytes
returns-in_default-report c =
    record { writes = said c.write_text-in_default-report.ensures (no_report _ _ _ _ _ c.in-Some.is c.in_default-report.is); prefix_len = counted _ _ (omega (arith, c.write_text-in_default-report.ensures.ends, c.write_text-in_default-report.auto.out)) }

pub slice_bounds-answer_bytes-end : goal.slice_bounds-answer_bytes-end
slice_bounds-answer_bytes-end c =
    (within _ _ _ c.in-Some.is c.requires.within).1

pub slice_bounds-answer_bytes-end-2 : goal.slice_bounds-answer_bytes-end-2
slice_bounds-answer_bytes-end-2 c =
    (within _ _ _ c.in-Some-report.is c.requires.within_2).1

pub returns : goal.returns
returns c =
    record { writes = said c.answer_bytes.ensures.writes (both _ _ _ _ _ _ c.in-Some.is c.in-Some-report.is); prefix_len = c.answer_bytes.ensures.prefix_len }
