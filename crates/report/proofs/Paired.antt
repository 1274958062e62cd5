-- What is said of two reports, from what the parts answered. Assumes nothing.
use Rattle.std.specs.Prelude.{Bool, Result, Ok, Err}
use mathlib.Core.Path.{◌≡◌, refl}
use mathlib.Core.List.{List}
use Prim.Native.Nat.{ℕ}
use Rattle.routine.specs.Decode.{checked}
use Rattle.routine.specs.declared.Accepted.{Accepted}
use Rattle.routine.specs.declared.Refusal as declared
use Rattle.routine.proofs.Decoded.{accepted, refused_by_lem}
use Rattle.lead.specs.declared.Refusal as lead
use Rattle.report_witness.specs.Pair.{compared}
use Rattle.report_witness.specs.Inner.LeadFits.{LeadFits}
use Rattle.report_witness.specs.declared.Refusal as witness
use Rattle.report_witness.proofs.Reading.{fits}
use Rattle.report.specs.Alike.{alike}

module _ (bs : List ℕ) where
  pub no_pair : (first second : List ℕ) (refusal : declared.Refusal) → checked bs ≡ Err refusal
      → Err (witness.Refusal.Lead (lead.Refusal.Routine refusal)) ≡ alike bs first second
  unfolding alike
  no_pair first second refusal e = rw (refused_by_lem bs refusal (checked bs) refl e) refl

  module _ (a : Accepted) (e : checked bs ≡ Ok a) where
    pub fits_leads : LeadFits a.header a.counts
    fits_leads = let y = accepted bs a.header a.counts (checked bs) refl e in fits bs a.header a.counts (record { commands = y.arm; decodes = y.decodes })

    pub paired : (first second : List ℕ) (c : Result Bool witness.Refusal) → c ≡ compared first second a.header a.counts → c ≡ alike bs first second
    unfolding alike
    paired first second c by = let y = accepted bs a.header a.counts (checked bs) refl e in rw y.decodes by
