-- What a return of 0 of judging tells: no refusal has that number, so it is an accepted report's. Assumes nothing.
use Rattle.std.specs.Prelude.{Result, Ok, Err}
use mathlib.Core.Path.{◌≡◌, refl, ap}
use mathlib.Core.List.{List}
use Prim.Native.Nat.{ℕ, ◌≤◌}
use native.Mathlib.Omega.{arith}
use Rattle.routine_faults.specs.declared.Fault.{Fault}
use Rattle.routine.specs.declared.Refusal as routine
use Rattle.lead.specs.declared.Refusal as lead
use Rattle.report_witness.specs.declared.Refusal as witness
use Rattle.proof_check.specs.declared.Refusal as proof
use Rattle.report_judgement.specs.declared.Refusal as report
use Rattle.refusals.specs.Table.{number_of_fault, routine_row, lead_row, witness_row, proof_row, report_row}
use Rattle.report_judgement.specs.Demand.{Demand3}
use Rattle.report_judgement.specs.declared.Finding.{Finding}
use Rattle.capi_answer.specs.Reply.{Reply, Fills, judge_fills}
use Rattle.capi_answer.specs.Left.{Finds}

-- ---- no refusal has the number 0

of_fault : (x : Fault) → 1 ≤ number_of_fault x
of_fault Fault.Unknown = omega arith
of_fault Fault.Operand = omega arith
of_fault Fault.Widths = omega arith
of_fault Fault.Misplaced = omega arith
of_fault Fault.TooMany = omega arith

of_routine : (x : routine.Refusal) → 1 ≤ (routine_row x).number
of_routine routine.Refusal.Length = omega arith
of_routine (routine.Refusal.Header at) = omega arith
of_routine (routine.Refusal.Command x at) = of_fault x
of_routine (routine.Refusal.Trailing at) = omega arith

of_lead : (x : lead.Refusal) → 1 ≤ (lead_row x).number
of_lead (lead.Refusal.Routine x) = of_routine x
of_lead (lead.Refusal.DecisionCount given) = omega arith
of_lead (lead.Refusal.OutOfRange at) = omega arith

of_witness : (x : witness.Refusal) → 1 ≤ (witness_row x).number
of_witness (witness.Refusal.Lead x) = of_lead x
of_witness (witness.Refusal.Cut length) = omega arith
of_witness (witness.Refusal.Input number) = omega arith
of_witness (witness.Refusal.Astray number) = omega arith
of_witness (witness.Refusal.Missed access) = omega arith
of_witness (witness.Refusal.OffSide access) = omega arith

of_proof : (x : proof.Refusal) → 1 ≤ (proof_row x).number
of_proof (proof.Refusal.Unreadable at) = omega arith
of_proof (proof.Refusal.Literal at) = omega arith
of_proof (proof.Refusal.NoClause at) = omega arith
of_proof (proof.Refusal.Neither at) = omega arith
of_proof (proof.Refusal.NoConflict at) = omega arith
of_proof (proof.Refusal.AfterConflict at) = omega arith
of_proof (proof.Refusal.OutOfPlace at) = omega arith
of_proof (proof.Refusal.Trailing after) = omega arith
of_proof (proof.Refusal.Full at) = omega arith

of_report : (x : report.Refusal) → 1 ≤ (report_row x).number
of_report (report.Refusal.Witness x) = of_witness x
of_report (report.Refusal.TooSmall buffer) = omega arith
of_report (report.Refusal.Proof x) = of_proof x

-- ---- demand 3

pub finds : (bs r ans ans₁ : List ℕ) (code : ℕ) (j : Result Finding report.Refusal) → Fills (judge_fills j ans) ans₁ code → Demand3 bs r j → Finds bs r ans ans₁ code
finds bs r ans ans₁ code (Ok f) x d = record {
  tells = λ z. record { finding = f; told = ap (λ (y : Reply). y.answer) x.equal; found = d.holds f refl };
}
finds bs r ans ans₁ code (Err refusal) x d = record {
  tells = λ z.
      let p = of_report refusal in
      let q : code ≡ (report_row refusal).number = ap (λ (y : Reply). y.code) x.equal in
      absurd (omega arith);
}

-- 255 is not 0
pub finds_nothing : (bs r ans ans₁ : List ℕ) → Finds bs r ans ans₁ 255
finds_nothing bs r ans ans₁ = record { tells = λ z. absurd (omega arith) }
