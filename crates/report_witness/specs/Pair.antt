-- Two reports on one routine, by their leads: whether they name the same access and the same side.
use Rattle.std.specs.Prelude.{ℕ, List, Bool, ◌&&◌, eqb, Result, Ok, Err}
use Rattle.routine_header.specs.declared.Header.{Header}
use Rattle.routine_faults.specs.declared.Counts.{Counts}
use Rattle.lead.specs.declared.Target.{Target}
use Rattle.report_witness.specs.Lead.{opened}
use Rattle.report_witness.specs.declared.Lead.{Lead}
use Rattle.report_witness.specs.declared.Refusal.{Refusal}

-- the same access and the same side
unfoldable pub same_target : Target → Target → Bool
same_target t u = eqb t.access u.access && eqb t.side u.side

-- the first refusal of two leads, or whether they name the same
abbrev pub by_leads : (one other : Result Lead Refusal) → Result Bool Refusal
by_leads (Err refusal) other = Err refusal
by_leads (Ok one) (Err refusal) = Err refusal
by_leads (Ok one) (Ok other) = Ok (same_target one.target other.target)

-- 11 and 12 of the first, then of the second, then what they name
unfoldable pub compared : (first second : List ℕ) → Header → Counts → Result Bool Refusal
compared first second h k = by_leads (opened first h k) (opened second h k)
