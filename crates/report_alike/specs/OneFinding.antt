-- Note 5's law: two reports that are alike were so before, and are one finding.
use Rattle.std.specs.Prelude.{ℕ, ◌≡◌, List, Bool, true, Result, Ok}
use Rattle.slices.specs.Bytes.{entry}
use Rattle.routine_header.specs.declared.Header.{Header}
use Rattle.routine_faults.specs.declared.Counts.{Counts}
use Rattle.routine.specs.Routine.{Arm}
use Rattle.routine.specs.Access.{ifs_before}
use Rattle.routine.specs.Decode.{routine, decode}
use Rattle.run_state.specs.Run.{Event}
use Rattle.run_state.specs.Goes.{goes_way}
use Rattle.report_witness.specs.Lead.{lead_in, decisions_of}
use Rattle.report_judgement.specs.Demand.{Overflows}
use Rattle.report_judgement.specs.declared.Finding.{Finding}
use Rattle.report_alike.specs.Alike.{same_target, compared_by, by_routine}
use Rattle.report_witness.specs.declared.Refusal.{Refusal}

-- alike as document 01 has it: the same access and the same side, whatever was decided
unfoldable pub alike_before : (bs first second : List ℕ) → Result Bool Refusal
alike_before bs first second = by_routine (λ h a k. compared_by (λ l m. same_target l.target m.target) first second h k) (decode bs)

-- two reports on a routine are one finding: they name the same access and side; whatever a run comes to, it goes the way of both or of neither; and what
-- overflows on the way of the first, with whatever witness, overflows on the way of the second
pub record SameFinding (bs first second : List ℕ) (h : Header) (a : Arm) (k : Counts) : Type 0 where
  pub access : entry first 0 ≡ entry second 0
  pub side : entry first 1 ≡ entry second 1
  pub goes : (es : List Event)
      → goes_way (decisions_of (lead_in first h k) k) (ifs_before a (entry first 0)) es ≡ goes_way (decisions_of (lead_in second h k) k) (ifs_before a (entry second 0)) es
  pub overflows : (witness : List ℕ) (f : Finding) → f.access ≡ entry first 0
      → Overflows bs (decisions_of (lead_in first h k) k) witness h a k f → Overflows bs (decisions_of (lead_in second h k) k) witness h a k f

-- whatever two reports hold: if they are alike, they were so before, and they are one finding
pub record OneFinding (bs first second : List ℕ) (r : Result Bool Refusal) : Type 0 where
  pub before : r ≡ Ok true → alike_before bs first second ≡ Ok true
  pub same : r ≡ Ok true → (h : Header) (a : Arm) (k : Counts) → decode bs ≡ routine h a k → SameFinding bs first second h a k
