-- What two reports have that are alike. Assumes nothing.
use Prim.Native.Nat.{ℕ, ◌<◌}
use Rattle.std.specs.Prelude.{Result, Ok, Err}
use mathlib.Core.Path.{◌≡◌, refl, sym, ap₂, ◌∙◌}
use mathlib.Core.List.{List}
use mathlib.Core.Bool.{Bool, true}
use native.Mathlib.Omega.{arith}
use lib.Dec.{eqb}
use borrow.Author.Tests.{eqb-true}
use Rattle.slices.specs.Bytes.{entry}
use Rattle.routine_header.specs.declared.Header.{Header}
use Rattle.routine_faults.specs.declared.Counts.{Counts}
use Rattle.routine_faults.proofs.Tests.{both}
use Rattle.routine.specs.Routine.{Arm}
use Rattle.routine.specs.Access.{ifs_before}
use Rattle.lead.specs.declared.Target.{Target}
use Rattle.report_witness.specs.Lead.{lead_in, decisions_of, opened}
use Rattle.report_alike.specs.Alike.{same_target, same_decisions, alike_leads, by_leads, compared_by, compared}
use Rattle.report_witness.specs.declared.Lead.{Lead}
use Rattle.report_witness.specs.declared.Refusal.{Refusal}
use Rattle.report_witness.proofs.Reading.{lets}
use Rattle.report_alike.proofs.Deciding.{same_at}

-- both were let through, and the leads are alike
record Both (same : Lead → Lead → Bool) (x y : Result Lead Refusal) : Type 0 where
  one : Lead
  other : Lead
  first : x ≡ Ok one
  second : y ≡ Ok other
  alike : same one other ≡ true

by_both : (same : Lead → Lead → Bool) (x y : Result Lead Refusal) → by_leads same x y ≡ Ok true → Both same x y
by_both same (Ok l) (Ok m) e = let q : same l m ≡ true = cc in record { one = l; other = m; first = refl; second = refl; alike = q }
by_both same (Ok l) (Err refusal) e = let z : ◌≡◌ {A = ℕ} 0 1 = cc in absurd (omega arith)
by_both same (Err refusal) y e = let z : ◌≡◌ {A = ℕ} 0 1 = cc in absurd (omega arith)

-- two targets that are the same
pub same-access : (t u : Target) → same_target t u ≡ true → t.access ≡ u.access
unfolding same_target
same-access t u e = eqb-true _ _ (both (eqb t.access u.access) (eqb t.side u.side) e).0

pub same-side : (t u : Target) → same_target t u ≡ true → t.side ≡ u.side
unfolding same_target
same-side t u e = eqb-true _ _ (both (eqb t.access u.access) (eqb t.side u.side) e).1

-- two leads that are alike
parted : (a : Arm) (k : Counts) (l m : Lead) → alike_leads a k l m ≡ true
    → (same_target l.target m.target ≡ true) × (same_decisions (decisions_of l k) (decisions_of m k) (ifs_before a l.target.access) ≡ true)
unfolding alike_leads
parted a k l m e = both (same_target l.target m.target) (same_decisions (decisions_of l k) (decisions_of m k) (ifs_before a l.target.access)) e

module _ (first second : List ℕ) (h : Header) (a : Arm) (k : Counts) (e : compared first second h a k ≡ Ok true) where
  said : Both (alike_leads a k) (opened first h k) (opened second h k)
  unfolding compared
  said = by_both (alike_leads a k) (opened first h k) (opened second h k) e

  leads : alike_leads a k (lead_in first h k) (lead_in second h k) ≡ true
  leads = sym (ap₂ (alike_leads a k) (lets first h k said.one said.first).lead (lets second h k said.other said.second).lead) ∙ said.alike

  -- they name the same
  pub alike_target : same_target (lead_in first h k).target (lead_in second h k).target ≡ true
  alike_target = (parted a k (lead_in first h k) (lead_in second h k) leads).0

  -- they decide alike before the access
  pub alike-decisions : (number : ℕ) → number < ifs_before a (entry first 0) → entry (decisions_of (lead_in first h k) k) number ≡ entry (decisions_of (lead_in second h k) k) number
  alike-decisions number l =
      same_at (decisions_of (lead_in first h k) k) (decisions_of (lead_in second h k) k) (ifs_before a (entry first 0))
      (parted a k (lead_in first h k) (lead_in second h k) leads).1 number l

  -- they are alike by what they name alone
  pub alike_by_target : compared_by (λ l m. same_target l.target m.target) first second h k ≡ Ok true
  alike_by_target = rw (said.first, said.second, (parted a k said.one said.other said.alike).0) refl
