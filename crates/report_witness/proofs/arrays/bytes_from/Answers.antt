use Rattle.report_witness.proofs.Padding.{bytes_copied}
use Rattle.report_witness.proofs.arrays.bytes_from.Goals as goal

pub returns : goal.returns
returns c = bytes_copied c.args.report.now c.args.from c.args.n c.requires.0 c.requires.1 _ c.copy_from_slice.ensures.after
