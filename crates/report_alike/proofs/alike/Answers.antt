use mathlib.Core.Path.{sym}
use Rattle.report_alike.proofs.Merging.{merges}
use Rattle.report_alike.proofs.Answering.{counted, no_pair, paired}
use Rattle.report_alike.proofs.alike.Goals as goal

pub compare-requires : goal.compare-requires
compare-requires c = counted _ _ (sym c.in-Ok.ensures)

pub returns-in-Err : goal.returns-in-Err
returns-in-Err c =
    let answers = no_pair _ _ _ _ (sym c.in-Err.ensures) in
    record { value = answers; one_finding = merges _ _ _ _ answers }

pub returns-in-Ok : goal.returns-in-Ok
returns-in-Ok c =
    let answers = paired _ _ _ _ (sym c.in-Ok.ensures) _ c.compare.ensures in
    record { value = answers; one_finding = merges _ _ _ _ answers }
