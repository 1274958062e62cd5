use native.Mathlib.Omega.{arith}
use Rattle.judge_line.specs.Text.{bytes}
use Rattle.judge_line.proofs.Laid.{said}
use Rattle.judge_files.proofs.Printing.{too_long, judged, counted}
use Rattle.judge_files.proofs.answer.answer_bytes.Goals as goal

-- What is printed, where the report is too long and where it is judged.
pub returns-then-report-gt65536 : goal.returns-then-report-gt65536
unfolding bytes
returns-then-report-gt65536 c =
    record { writes = said c.write_text.ensures (too_long _ _ c.if-report-gt65536.true); prefix_len = counted _ _ (omega (arith, c.write_text.ensures.ends, c.write_text.auto.out)) }

pub returns : goal.returns
returns c =
    record { writes = said c.write_line.ensures.writes (judged _ _ _ c.if-report-gt65536.false c.judge_lent.ensures); prefix_len = counted _ _ (omega (arith, c.write_line.ensures.upper_bound, c.write_line.auto.out)) }
