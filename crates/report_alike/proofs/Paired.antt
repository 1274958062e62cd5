-- What is said of two leads, from what was said of each. Assumes nothing.
use Rattle.std.specs.Prelude.{Ok, Err}
use mathlib.Core.Path.{◌≡◌, refl}
use mathlib.Core.List.{List}
use mathlib.Core.Bool.{Bool, true, false, not, ◌&&◌}
use native.Mathlib.Omega.{arith}
use Prim.Native.Nat.{ℕ}
use Rattle.routine_header.specs.declared.Header.{Header}
use Rattle.routine_faults.specs.declared.Counts.{Counts}
use Rattle.routine.specs.Routine.{Arm}
use Rattle.routine.specs.Access.{ifs_before}
use Rattle.report_witness.specs.Lead.{decisions_of, opened}
use Rattle.report_alike.specs.Alike.{same_target, same_decisions, alike_leads, compared}
use Rattle.report_witness.specs.declared.Lead.{Lead}
use Rattle.report_witness.specs.declared.Refusal as witness

-- ---- two leads

module _ (a : Arm) (k : Counts) (l m : Lead) where
  pub other_target : not (same_target l.target m.target) ≡ true → false ≡ alike_leads a k l m
  unfolding alike_leads
  other_target e = go (same_target l.target m.target) e
    where
      go : (b : Bool) → not b ≡ true → false ≡ b && same_decisions (decisions_of l k) (decisions_of m k) (ifs_before a l.target.access)
      go false q = refl
      go true q = let z : ◌≡◌ {A = ℕ} 0 1 = cc in absurd (omega arith)

  pub same-named : not (same_target l.target m.target) ≡ false → (x : Bool) → x ≡ same_decisions (decisions_of l k) (decisions_of m k) (ifs_before a l.target.access)
      → x ≡ alike_leads a k l m
  unfolding alike_leads
  same-named e x by = go (same_target l.target m.target) e
    where
      go : (b : Bool) → not b ≡ false → x ≡ b && same_decisions (decisions_of l k) (decisions_of m k) (ifs_before a l.target.access)
      go true q = by
      go false q = let z : ◌≡◌ {A = ℕ} 0 1 = cc in absurd (omega arith)

-- ---- two reports

module _ (first second : List ℕ) (h : Header) (a : Arm) (k : Counts) where
  pub first-refused : (refusal : witness.Refusal) → opened first h k ≡ Err refusal → Err refusal ≡ compared first second h a k
  unfolding compared
  first-refused refusal e = rw e refl

  module _ (one : Lead) (is : opened first h k ≡ Ok one) where
    pub second-refused : (refusal : witness.Refusal) → opened second h k ≡ Err refusal → Err refusal ≡ compared first second h a k
    unfolding compared
    second-refused refusal e = rw (is, e) refl

    pub both_open : (other : Lead) → opened second h k ≡ Ok other → (same : Bool) → same ≡ alike_leads a k one other → Ok same ≡ compared first second h a k
    unfolding compared
    both_open other e same q = rw (is, e, q) refl
