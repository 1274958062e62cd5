use Rattle.arithmetic.proofs.Laws.{extended_by}
use Rattle.arithmetic.specs.Bits.{places}
use Rattle.arithmetic.proofs.extensions.extended.Goals as goal

pub returns : goal.returns
returns c = rw c.copy_from_slice.ensures.after (extended_by c.args.a.now c.args.l places c.requires)
