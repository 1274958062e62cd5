use Rattle.std.proofs.Common.{arith}
use Rattle.cnf.proofs.Appending.{put_sets}
use Rattle.translation_state.proofs.literals.store_bits.Goals as goal

pub returns : goal.returns
returns c = put_sets _ _ _ _ c.args.r.now c.copy_from_slice.ensures.after (omega arith) (omega arith)
