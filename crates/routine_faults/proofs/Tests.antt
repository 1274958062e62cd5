-- What tests say. Assumes nothing.
use mathlib.Core.Path.{◌≡◌, refl, sym}
use Rattle.std.proofs.Common.{true≢false}
use Rattle.routine_command.specs.declared.Mark.{Mark}
use Rattle.routine_faults.specs.Step.{same_mark}
use mathlib.Core.Bool.{Bool, true, false, ◌&&◌}
use Prim.Native.Nat.{ℕ}
use native.Mathlib.Omega.{arith}

-- both sides of `&&`
pub both : (a b : Bool) → (a && b) ≡ true → (a ≡ true) × (b ≡ true)
both true true e = (refl, refl)
both true false e = let z : ◌≡◌ {A = ℕ} 0 1 = cc in absurd (omega arith)
both false b e = let z : ◌≡◌ {A = ℕ} 0 1 = cc in absurd (omega arith)

-- a test has one answer
pub not_both : {A : Type 0} (b : Bool) → b ≡ true → b ≡ false → A
not_both b e f = let z : ◌≡◌ {A = ℕ} 0 1 = cc in absurd (omega arith)

-- marks that are the same, and that are not
pub mark_same : (m n : Mark) → m ≡ n → same_mark m n ≡ true
mark_same Mark.End n e = rw (← e)
mark_same Mark.Else n e = rw (← e)
mark_same Mark.EndIf n e = rw (← e)

pub mark_is : (m n : Mark) → same_mark m n ≡ true → m ≡ n
mark_is Mark.End Mark.End e = refl
mark_is Mark.Else Mark.Else e = refl
mark_is Mark.EndIf Mark.EndIf e = refl
mark_is Mark.End Mark.Else e = absurd (true≢false (sym e))
mark_is Mark.End Mark.EndIf e = absurd (true≢false (sym e))
mark_is Mark.Else Mark.End e = absurd (true≢false (sym e))
mark_is Mark.Else Mark.EndIf e = absurd (true≢false (sym e))
mark_is Mark.EndIf Mark.End e = absurd (true≢false (sym e))
mark_is Mark.EndIf Mark.Else e = absurd (true≢false (sym e))

pub mark_other : (m n : Mark) → (m ≡ n → ⊥) → same_mark m n ≡ false
mark_other m n f = go (same_mark m n) refl
  where
    go : (b : Bool) → same_mark m n ≡ b → same_mark m n ≡ false
    go true e = absurd (f (mark_is m n e))
    go false e = e
