use mathlib.Core.Path.{refl, sym, ap, ◌∙◌}
use Rattle.refusals.specs.Table.{pair_row}
use Rattle.std.specs.Prelude.{Ok}
use Rattle.report_shorter.proofs.Kept.{keeps-second, keeps-first, not_alike, refused}
use Rattle.report_shorter.proofs.shorter.Goals as goal

pub returns-then-not-same : goal.returns-then-not-same
returns-then-not-same c =
    record { hands_back = not_alike _ _ _ _ (record { place = refl; bytes = refl }) (sym c.alike-compared.ensures.value ∙ c.in-Ok.is ∙ ap Ok (c.if-not-same.true)); place_after = c.row_of_pair-told.ensures ∙ ap pair_row c.alike-compared.ensures.value }

pub returns-then-second-first : goal.returns-then-second-first
returns-then-second-first c =
    record { hands_back = keeps-second _ _ _ (sym c.alike-compared.ensures.value ∙ c.in-Ok.is ∙ ap Ok (c.if-not-same.false)) c.if-second-first.true; place_after = c.row_of_pair-told.ensures ∙ ap pair_row c.alike-compared.ensures.value }

pub returns-in-Err : goal.returns-in-Err
returns-in-Err c =
    record { hands_back = refused _ _ _ _ (record { place = refl; bytes = refl }) _ (sym c.alike-compared.ensures.value ∙ c.in-Err.is); place_after = c.row_of_pair-told.ensures ∙ ap pair_row c.alike-compared.ensures.value }

pub returns-else-second-first : goal.returns-else-second-first
returns-else-second-first c =
    record { hands_back = keeps-first _ _ _ (sym c.alike-compared.ensures.value ∙ c.in-Ok.is ∙ ap Ok (c.if-not-same.false)) c.if-second-first.false; place_after = c.row_of_pair-told.ensures ∙ ap pair_row c.alike-compared.ensures.value }
