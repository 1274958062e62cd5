use Rattle.comparison.proofs.Compare.{carry_room, decides_carry}
use Rattle.comparison.proofs.comparisons.less.Goals as goal

pub no_carry-requires : goal.no_carry-requires
no_carry-requires c =
    carry_room _ _ 2 _ c.emit_difference.ensures c.requires.a_nonzero.0 c.requires.ready

pub returns : goal.returns
returns c = decides_carry _ _ 2 _ c.emit_difference.ensures c.requires.a_nonzero.0 c.no_carry.ensures
