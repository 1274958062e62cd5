-- An accepted routine has at most 32 ifs and at most 64 accesses. Assumes nothing.
use mathlib.Core.Path.{◌≡◌, refl}
use mathlib.Core.List.{List}
use mathlib.Core.Bool.{false}
use Prim.Native.Nat.{ℕ, ◌≤◌}
use native.Mathlib.Omega.{arith}
use borrow.Author.Tests.{leb-false}
use Rattle.routine_faults.specs.Step.{accesses, too_many, counts_after}
use Rattle.routine.specs.Routine.{Arm}
use Rattle.routine.specs.Decode.{routine, decode}
use Rattle.routine.specs.Inner.Stands.{Stands}
use Rattle.routine_header.specs.declared.Header.{Header}
use Rattle.routine_faults.specs.declared.Counts.{Counts}
use Rattle.routine_command.specs.declared.Conversion.{Conversion}
use Rattle.routine_command.specs.declared.Operation.{Operation}
use Rattle.routine_command.specs.declared.Simple.{Simple}
use Rattle.routine.proofs.Views.{induction}
use Rattle.routine.proofs.Decoded.{decoded}
use Rattle.routine_command.specs.declared.Mark.{Mark}

-- a command that is no if leaves the count of the ifs
pub same-ifs : (c : Simple Conversion Operation) (k : Counts) → (counts_after c k).ifs ≡ k.ifs
same-ifs (Simple.Set d x) k = refl
same-ifs (Simple.Convert op d s) k = refl
same-ifs (Simple.Compute op d s t) k = refl
same-ifs (Simple.Read d a i) k = refl
same-ifs (Simple.Write a i s) k = refl

few-ifs-after : (bs : List ℕ) (h : Header) (a : Arm) (depth : ℕ) (close : Mark) (at : ℕ) (k : Counts) (end : ℕ) (k₁ : Counts) → Stands bs h depth close at k a end k₁
    → k.ifs ≤ 32 → k₁.ifs ≤ 32
few-ifs-after bs h =
    induction bs h (λ depth close at k a end k₁. k.ifs ≤ 32 → k₁.ifs ≤ 32)
    (λ depth close at k mark e l f. f)
    (λ depth close at k c rest end k₁ v go f. go (rw (same-ifs c k) f))
    (λ depth close at k c first second rest end k₁ v go₁ go₂ go₃ f. go₃ (go₂ (go₁ (let l = v.few in omega arith))))

pub few-ifs : (bs : List ℕ) (h : Header) (a : Arm) (k : Counts) → decode bs ≡ routine h a k → k.ifs ≤ 32
few-ifs bs h a k e = few-ifs-after bs h a 0 Mark.End _ _ _ k (decoded bs h a k e).stands (omega arith)

-- a command that is not the 65th access
few-next : (c : Simple Conversion Operation) (k : Counts) → too_many c k ≡ false → accesses k ≤ 64 → accesses (counts_after c k) ≤ 64
unfolding too_many
few-next (Simple.Set d x) k e l = l
few-next (Simple.Convert op d s) k e l = l
few-next (Simple.Compute op d s t) k e l = l
few-next (Simple.Read d a i) k e l = omega (arith, leb-false 64 (accesses k) e)
few-next (Simple.Write a i s) k e l = omega (arith, leb-false 64 (accesses k) e)

few-accesses-after : (bs : List ℕ) (h : Header) (a : Arm) (depth : ℕ) (close : Mark) (at : ℕ) (k : Counts) (end : ℕ) (k₁ : Counts) → Stands bs h depth close at k a end k₁
    → accesses k ≤ 64 → accesses k₁ ≤ 64
few-accesses-after bs h =
    induction bs h (λ depth close at k a end k₁. accesses k ≤ 64 → accesses k₁ ≤ 64)
    (λ depth close at k mark e l f. f)
    (λ depth close at k c rest end k₁ v go f. go (few-next c k v.few f))
    (λ depth close at k c first second rest end k₁ v go₁ go₂ go₃ f. go₃ (go₂ (go₁ f)))

pub few-accesses : (bs : List ℕ) (h : Header) (a : Arm) (k : Counts) → decode bs ≡ routine h a k → accesses k ≤ 64
few-accesses bs h a k e = few-accesses-after bs h a 0 Mark.End _ _ _ k (decoded bs h a k e).stands (omega arith)
