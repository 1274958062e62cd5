use Rattle.routine.proofs.Passing.{never-refused, passes}
use Rattle.routine.proofs.walks.pass_arm.Goals as goal

pub unreachable-requires : goal.unreachable-requires
unreachable-requires c = never-refused _ _ _ _ _ _ _ c.walk_marked.ensures c.requires _ c.in-Err.is

pub returns : goal.returns
returns c = passes _ _ _ _ _ _ _ c.walk_marked.ensures _ c.in-Ok.is
