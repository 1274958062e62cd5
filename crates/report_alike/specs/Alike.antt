-- Whether two reports on one routine are alike.
use Rattle.std.specs.Prelude.{ℕ, zero, suc, List, Bool, true, ◌&&◌, eqb, Result, Ok, Err}
use Rattle.slices.specs.Bytes.{entry}
use Rattle.routine_header.specs.declared.Header.{Header}
use Rattle.routine_faults.specs.declared.Counts.{Counts}
use Rattle.routine.specs.Routine.{Arm}
use Rattle.routine.specs.Access.{ifs_before}
use Rattle.routine.specs.Decode.{Decoded, rejected, routine, decode}
use Rattle.lead.specs.declared.Target.{Target}
use Rattle.lead.specs.declared.Refusal as lead
use Rattle.report_witness.specs.Lead.{decisions_of, opened}
use Rattle.report_witness.specs.declared.Lead.{Lead}
use Rattle.report_witness.specs.declared.Refusal as witness

-- the same access and the same side
unfoldable pub same_target : Target → Target → Bool
same_target t u = eqb t.access u.access && eqb t.side u.side

-- equal decisions, byte for byte, at the first `before` ifs
unfoldable pub same_decisions : (ds es : List ℕ) → (before : ℕ) → Bool
same_decisions ds es zero = true
same_decisions ds es (suc n) = same_decisions ds es n && eqb (entry ds n) (entry es n)

-- alike (02, note 5): the same access and side, and equal decisions at every if that stands before the access in the text:
-- at those that the access stands in,
-- and at those that end before it, also where no run comes to both.
-- Ifs that stand after the access do not matter.
unfoldable pub alike_leads : Arm → Counts → Lead → Lead → Bool
alike_leads a k l m =
    same_target l.target m.target && same_decisions (decisions_of l k) (decisions_of m k) (ifs_before a l.target.access)

-- the first refusal of two leads, or what `same` says of them
abbrev pub by_leads : (same : Lead → Lead → Bool) → (one other : Result Lead witness.Refusal) → Result Bool witness.Refusal
by_leads same (Err refusal) other = Err refusal
by_leads same (Ok one) (Err refusal) = Err refusal
by_leads same (Ok one) (Ok other) = Ok (same one other)

-- 11 and 12 of the first, then of the second, then what `same` says of the two leads
abbrev pub compared_by : (same : Lead → Lead → Bool) → (first second : List ℕ) → Header → Counts → Result Bool witness.Refusal
compared_by same first second h k = by_leads same (opened first h k) (opened second h k)

-- whether two reports on a routine are alike
unfoldable pub compared : (first second : List ℕ) → Header → Arm → Counts → Result Bool witness.Refusal
compared first second h a k = compared_by (alike_leads a k) first second h k

-- 1 to 8, then the leads
abbrev pub by_routine : (leads : Header → Arm → Counts → Result Bool witness.Refusal) → Decoded → Result Bool witness.Refusal
by_routine leads (rejected refusal) = Err (witness.Refusal.Lead (lead.Refusal.Routine refusal))
by_routine leads (routine h a k) = leads h a k

-- what `alike` answers
unfoldable pub alike : (bs first second : List ℕ) → Result Bool witness.Refusal
alike bs first second = by_routine (compared first second) (decode bs)
