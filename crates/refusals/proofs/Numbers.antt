-- 0 is no refusal's number. Assumes nothing.
use Rattle.std.specs.Prelude.{Result, Ok, Err}
use Prim.Native.Nat.{◌<◌}
use mathlib.Core.Path.{◌≡◌, refl}
use mathlib.Core.Bool.{Bool, true, false}
use native.Mathlib.Omega.{arith}
use Rattle.routine_faults.specs.declared.Fault.{Fault}
use Rattle.routine.specs.declared.Refusal as routine
use Rattle.lead.specs.declared.Refusal as lead
use Rattle.report_witness.specs.declared.Refusal as witness
use Rattle.refusals.specs.Table.{number_of_fault, routine_row, lead_row, witness_row, pair_row}

of_fault : (fault : Fault) → 0 < number_of_fault fault
of_fault Fault.Unknown = omega arith
of_fault Fault.Operand = omega arith
of_fault Fault.Widths = omega arith
of_fault Fault.Misplaced = omega arith
of_fault Fault.TooMany = omega arith

of_routine : (refusal : routine.Refusal) → 0 < (routine_row refusal).number
of_routine routine.Refusal.Length = omega arith
of_routine (routine.Refusal.Header at) = omega arith
of_routine (routine.Refusal.Command fault at) = of_fault fault
of_routine (routine.Refusal.Trailing at) = omega arith

of_lead : (refusal : lead.Refusal) → 0 < (lead_row refusal).number
of_lead (lead.Refusal.Routine refusal) = of_routine refusal
of_lead (lead.Refusal.DecisionCount given) = omega arith
of_lead (lead.Refusal.OutOfRange at) = omega arith

of_witness : (refusal : witness.Refusal) → 0 < (witness_row refusal).number
of_witness (witness.Refusal.Lead refusal) = of_lead refusal
of_witness (witness.Refusal.Cut length) = omega arith
of_witness (witness.Refusal.Input number) = omega arith
of_witness (witness.Refusal.Astray number) = omega arith
of_witness (witness.Refusal.Missed access) = omega arith
of_witness (witness.Refusal.OffSide access) = omega arith

-- 0 is told of two reports only where they are alike
pub zero_alike : (compared : Result Bool witness.Refusal) → (pair_row compared).number ≡ 0 → compared ≡ Ok true
zero_alike (Ok true) e = refl
zero_alike (Ok false) e = absurd (omega arith)
zero_alike (Err refusal) e = absurd (omega (arith, of_witness refusal, e))
