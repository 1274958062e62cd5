use Rattle.std.proofs.Common.{arith, refl}
use Rattle.judge_line.proofs.Laid.{copied}
use Rattle.judge_line.proofs.text.write_text.Goals as goal

pub returns : goal.returns
returns c = record { laid = copied _ _ _ _ _ c.copy_from_slice.ensures.after (omega arith) (omega arith); ends = refl }
