-- The lead: whether there is a claim to translate, by 1 to 8, then 11 and 12.
use Rattle.std.specs.Prelude.{ℕ, ◌+◌, List, length, ltb, leb, eqb, Result, Ok, Err}
use Rattle.slices.specs.Bytes.{entry}
use Rattle.slices.specs.Guard.{unless}
use Rattle.routine_header.specs.Header.{first_bad}
use Rattle.routine_header.specs.declared.Header.{Header}
use Rattle.routine_faults.specs.Step.{accesses}
use Rattle.routine_faults.specs.declared.Counts.{Counts}
use Rattle.routine.specs.Routine.{Arm}
use Rattle.routine.specs.Decode.{Decoded, rejected, routine, decode}
use Rattle.lead.specs.declared.Target.{Target}
use Rattle.lead.specs.declared.Refusal.{Refusal}

-- the named access and side
abbrev pub target_of : (access side : ℕ) → Target
target_of access side = record { access = access; side = side }

-- the number of the first decision above 2, or how many there are
unfoldable pub first_odd : List ℕ → ℕ
first_odd ds = first_bad (λ i. leb (entry ds i) 2) 1 (length ds) 0

-- 11, then 12, for a routine with these counts: the access at offset 0, the side at 1, the decision of if n at 2 + n
unfoldable pub admitted_lead : Target → (ds : List ℕ) → Counts → Result (Unit {0}) Refusal
unfolding unless
admitted_lead t ds k =
    unless (eqb (length ds) k.ifs) (Err (Refusal.DecisionCount (length ds)))
    (unless (ltb t.access (accesses k)) (Err (Refusal.OutOfRange 0))
    (unless (leb t.side 1) (Err (Refusal.OutOfRange 1))
    (unless (eqb (first_odd ds) (length ds)) (Err (Refusal.OutOfRange (2 + first_odd ds)))
    (Ok tt))))

-- whether there is a claim to translate: the refusal, or the routine
pub data ClaimAdmission : Type 0 where
  refused : Refusal → ClaimAdmission
  translates : Header → Arm → Counts → ClaimAdmission

-- 11 and 12, then the routine
abbrev pub by_lead : Header → Arm → Counts → Result (Unit {0}) Refusal → ClaimAdmission
by_lead h a k (Err refusal) = refused refusal
by_lead h a k (Ok passed) = translates h a k

-- 1 to 8, then 11 and 12
abbrev pub claim_by_routine : Target → (ds : List ℕ) → Decoded → ClaimAdmission
claim_by_routine t ds (rejected refusal) = refused (Refusal.Routine refusal)
claim_by_routine t ds (routine h a k) = by_lead h a k (admitted_lead t ds k)

-- whether there is a claim to translate
unfoldable pub claim_admission : (bs : List ℕ) → Target → (ds : List ℕ) → ClaimAdmission
claim_admission bs t ds = claim_by_routine t ds (decode bs)
