-- Decisions that are equal at the first so many ifs. Assumes nothing.
use Prim.Native.Nat.{ℕ, zero, suc, ◌+◌, ◌<◌}
use mathlib.Core.Path.{◌≡◌, refl, ap, ap₂, ◌∙◌}
use mathlib.Core.List.{List}
use mathlib.Core.Bool.{Bool, true, false, ◌&&◌}
use native.Mathlib.Numerals.{add-one}
use native.Mathlib.Omega.{arith}
use lib.Dec.{eqb}
use borrow.Author.Tests.{eq-eqb, eqb-true, eqb-false}
use Rattle.slices.specs.Bytes.{entry}
use Rattle.routine_faults.proofs.Tests.{both}
use Rattle.report_alike.specs.Alike.{same_decisions}

module _ (ds es : List ℕ) where
  pub none_yet : same_decisions ds es 0 ≡ true
  unfolding same_decisions
  none_yet = refl

  -- one if more
  pub same_next : (n : ℕ) → same_decisions ds es n ≡ true → entry ds n ≡ entry es n → same_decisions ds es (n + 1) ≡ true
  unfolding same_decisions
  same_next n so e = ap (same_decisions ds es) (add-one n) ∙ ap₂ (λ (x y : Bool). x && y) so (eq-eqb _ _ e)

  -- what it says of each of these ifs
  pub same_at : (before : ℕ) → same_decisions ds es before ≡ true → (n : ℕ) → n < before → entry ds n ≡ entry es n
  unfolding same_decisions
  same_at zero so n l = absurd (omega arith)
  same_at (suc m) so n l = pick (same_at m parts.0 n) (eqb n m) refl
    where
      parts : (same_decisions ds es m ≡ true) × (eqb (entry ds m) (entry es m) ≡ true)
      parts = both _ _ so

      pick : (n < m → entry ds n ≡ entry es n) → (b : Bool) → eqb n m ≡ b → entry ds n ≡ entry es n
      pick earlier true e = rw (eqb-true n m e) (eqb-true _ _ parts.1)
      pick earlier false e = earlier (omega (arith, eqb-false n m e))

  -- one that differs
  pub differ : (n before : ℕ) → n < before → (entry ds n ≡ entry es n → ⊥) → false ≡ same_decisions ds es before
  differ n before l apart = pick (same_decisions ds es before) refl
    where
      pick : (b : Bool) → same_decisions ds es before ≡ b → false ≡ b
      pick true e = absurd (apart (same_at before e n l))
      pick false e = refl
