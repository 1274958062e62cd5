-- What is said of two reports, from what the parts answered. Assumes nothing.
use Rattle.std.specs.Prelude.{Bool, Result, Ok, Err}
use mathlib.Core.Path.{◌≡◌, refl, ◌∙◌}
use mathlib.Core.List.{List}
use Prim.Native.Nat.{ℕ}
use Rattle.routine.specs.Decode.{commands_in, checked}
use Rattle.routine.specs.Inner.Known.{IsRoutineWith}
use Rattle.routine.specs.declared.Accepted.{Accepted}
use Rattle.routine.specs.declared.Refusal as declared
use Rattle.routine.proofs.Decoded.{accepted, refused_by_lem}
use Rattle.lead.specs.declared.Refusal as lead
use Rattle.report_alike.specs.Alike.{compared, alike}
use Rattle.report_witness.specs.declared.Refusal as witness

-- what `compare` asks of a routine that was accepted
pub counted : (bs : List ℕ) (a : Accepted) → checked bs ≡ Ok a → IsRoutineWith bs a.header a.counts
counted bs a e = let y = accepted bs a.header a.counts (checked bs) refl e in record { commands = y.arm; decodes = y.decodes }

module _ (bs first second : List ℕ) where
  pub no_pair : (refusal : declared.Refusal) → checked bs ≡ Err refusal → Err (witness.Refusal.Lead (lead.Refusal.Routine refusal)) ≡ alike bs first second
  unfolding alike
  no_pair refusal e = rw (refused_by_lem bs refusal (checked bs) refl e) refl

  pub paired : (a : Accepted) → checked bs ≡ Ok a → (c : Result Bool witness.Refusal) → c ≡ compared first second a.header (commands_in bs) a.counts
      → c ≡ alike bs first second
  unfolding alike commands_in
  paired a e c by = let y = accepted bs a.header a.counts (checked bs) refl e in by ∙ rw y.decodes refl
