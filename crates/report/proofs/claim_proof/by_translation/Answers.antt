use mathlib.Core.Path.{refl}
use Rattle.report.proofs.claim_proof.by_translation.Goals as goal

pub returns-in-Lead : goal.returns-in-Lead
returns-in-Lead c = rw c.in-Lead.is refl

pub returns-in-TooSmall : goal.returns-in-TooSmall
returns-in-TooSmall c = rw c.in-TooSmall.is refl
