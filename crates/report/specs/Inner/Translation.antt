-- The refusals of a translation, as those of a report.
use Rattle.translation.specs.declared.Refusal as translating
use Rattle.report_witness.specs.declared.Refusal as witness
use Rattle.report_judgement.specs.declared.Refusal.{Refusal}

-- why there is no translation
abbrev pub by_translation : translating.Refusal → Refusal
by_translation (translating.Refusal.Lead refusal) = Refusal.Witness (witness.Refusal.Lead refusal)
by_translation (translating.Refusal.TooSmall buffer) = Refusal.TooSmall buffer
