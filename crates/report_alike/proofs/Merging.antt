-- Two reports that are alike are one finding. Assumes nothing.
use Prim.Native.Nat.{ℕ}
use Rattle.std.specs.Prelude.{Bool, Result, Ok}
use mathlib.Core.Path.{◌≡◌, sym, ap, ◌∙◌}
use mathlib.Core.List.{List}
use mathlib.Core.Bool.{true}
use native.Mathlib.Omega.{arith}
use Rattle.slices.specs.Bytes.{entry}
use Rattle.routine_header.specs.declared.Header.{Header}
use Rattle.routine_faults.specs.declared.Counts.{Counts}
use Rattle.routine.specs.Routine.{Arm}
use Rattle.routine.specs.Access.{ifs_before}
use Rattle.routine.specs.Decode.{Decoded, rejected, routine, decode}
use Rattle.run_state.specs.Run.{Event}
use Rattle.run_state.specs.Goes.{goes_way}
use Rattle.run_state.proofs.SameWay.{same_way}
use Rattle.report_witness.specs.Lead.{lead_in, decisions_of}
use Rattle.report_alike.proofs.Likeness.{same-access, same-side, alike_target, alike-decisions, alike_by_target}
use Rattle.report_judgement.specs.Demand.{Overflows}
use Rattle.report_judgement.specs.declared.Finding.{Finding}
use Rattle.report_alike.specs.Alike.{same_target, compared_by, compared, by_routine, alike}
use Rattle.report_witness.specs.declared.Refusal.{Refusal}
use Rattle.report_alike.specs.OneFinding.{alike_before, SameFinding, OneFinding}

module _ (first second : List ℕ) where
  were_by : (d : Decoded) → by_routine (compared first second) d ≡ Ok true
      → by_routine (λ h a k. compared_by (λ l m. same_target l.target m.target) first second h k) d ≡ Ok true
  were_by (rejected refusal) e = let z : ◌≡◌ {A = ℕ} 0 1 = cc in absurd (omega arith)
  were_by (routine h a k) e = alike_by_target first second h a k e

  module _ (bs : List ℕ) (h : Header) (a : Arm) (k : Counts) (e : compared first second h a k ≡ Ok true) where
    one_access : entry first 0 ≡ entry second 0
    one_access = same-access _ _ (alike_target first second h a k e)

    one_way : (events : List Event)
        → goes_way (decisions_of (lead_in first h k) k) (ifs_before a (entry first 0)) events ≡ goes_way (decisions_of (lead_in second h k) k) (ifs_before a (entry first 0)) events
    one_way = same_way _ _ (ifs_before a (entry first 0)) (alike-decisions first second h a k e)

    -- whatever the access is called
    way_to : (access : ℕ) → access ≡ entry first 0 → (events : List Event)
        → goes_way (decisions_of (lead_in first h k) k) (ifs_before a access) events ≡ goes_way (decisions_of (lead_in second h k) k) (ifs_before a access) events
    way_to access at = rw at one_way

    one_overflow : (witness : List ℕ) (f : Finding) → f.access ≡ entry first 0
        → Overflows bs (decisions_of (lead_in first h k) k) witness h a k f → Overflows bs (decisions_of (lead_in second h k) k) witness h a k f
    one_overflow witness f at o =
        record {
          accepted = o.accepted;
          goes = sym (way_to f.access at _) ∙ o.goes;
          comes = o.comes;
          every = λ ins listed goes. o.every ins listed (way_to f.access at _ ∙ goes);
        }

    pub one_finding : SameFinding bs first second h a k
    one_finding =
        record {
          access = one_access;
          side = same-side _ _ (alike_target first second h a k e);
          goes = λ events. one_way events ∙ ap (λ (n : ℕ). goes_way (decisions_of (lead_in second h k) k) (ifs_before a n) events) one_access;
          overflows = one_overflow;
        }

pub merges : (bs first second : List ℕ) (r : Result Bool Refusal) → r ≡ alike bs first second → OneFinding bs first second r
unfolding alike alike_before
merges bs first second r is =
    record {
      before = λ e. were_by first second (decode bs) (sym is ∙ e);
      same = λ e h a k decodes. one_finding first second bs h a k (sym (ap (by_routine (compared first second)) decodes) ∙ sym is ∙ e);
    }
