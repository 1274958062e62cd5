-- Whether two reports on one routine are alike.
use Rattle.std.specs.Prelude.{ℕ, List, Bool, Result, Err}
use Rattle.routine.specs.Decode.{Decoded, rejected, routine, decode}
use Rattle.lead.specs.declared.Refusal as lead
use Rattle.report_witness.specs.Pair.{compared}
use Rattle.report_witness.specs.declared.Refusal as witness

-- 1 to 8, then the leads
abbrev pub by_routine : (first second : List ℕ) → Decoded → Result Bool witness.Refusal
by_routine first second (rejected refusal) = Err (witness.Refusal.Lead (lead.Refusal.Routine refusal))
by_routine first second (routine h a k) = compared first second h k

-- what `alike` answers
unfoldable pub alike : (bs first second : List ℕ) → Result Bool witness.Refusal
alike bs first second = by_routine first second (decode bs)
