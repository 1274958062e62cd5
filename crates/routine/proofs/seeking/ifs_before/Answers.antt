use Rattle.routine.proofs.Flat.{ifs-found}
use Rattle.routine.proofs.seeking.ifs_before.Goals as goal

pub returns-in-None : goal.returns-in-None
returns-in-None c = ifs-found _ _ c.requires _ _ c.access_at.ensures _ c.in-None.is

pub returns-in-Some : goal.returns-in-Some
returns-in-Some c = ifs-found _ _ c.requires _ _ c.access_at.ensures _ c.in-Some.is
