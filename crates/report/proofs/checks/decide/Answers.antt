use mathlib.Core.Path.{sym}
use Rattle.report.proofs.Decided.{counted, no_routine, decided}
use Rattle.report.proofs.checks.decide.Goals as goal

pub decide_claim-requires : goal.decide_claim-requires
decide_claim-requires c = (counted _ _ (sym c.in-Ok.ensures), c.requires.0, c.requires.1)

pub returns-in-Err : goal.returns-in-Err
returns-in-Err c = no_routine _ _ _ _ (sym c.in-Err.ensures)

pub returns-in-Ok : goal.returns-in-Ok
returns-in-Ok c = decided _ _ _ _ (sym c.in-Ok.ensures) _ c.decide_claim.ensures
