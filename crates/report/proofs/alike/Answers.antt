use mathlib.Core.Path.{sym}
use Rattle.report.proofs.Paired.{no_pair, fits_leads, paired}
use Rattle.report.proofs.alike.Goals as goal

pub compare-requires : goal.compare-requires
compare-requires c = fits_leads _ _ (sym c.in-Ok.ensures)

pub returns-in-Err : goal.returns-in-Err
returns-in-Err c = no_pair _ _ _ _ (sym c.in-Err.ensures)

pub returns-in-Ok : goal.returns-in-Ok
returns-in-Ok c = paired _ _ (sym c.in-Ok.ensures) _ _ _ c.compare.ensures
