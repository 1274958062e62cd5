-- Laws of the first wrong place, for a loop that looks for it. Assumes nothing.
use mathlib.Core.Path.{◌≡◌, refl}
use mathlib.Core.Bool.{Bool, true, false}
use Prim.Native.Nat.{ℕ, zero, suc, ◌+◌, ◌-◌, ◌≤◌, ◌<◌}
use native.Mathlib.Numerals.{sub-one}
use native.Mathlib.Omega.{arith}
use Rattle.routine_header.specs.Header.{first_bad}

module _ (ok : ℕ → Bool) (step at : ℕ) where
  pub bad_none : (n : ℕ) → n ≤ 0 → at ≡ first_bad ok step n at
  unfolding first_bad
  bad_none zero l = refl
  bad_none (suc n) l = absurd (omega arith)

  pub bad_here : (n : ℕ) → 0 < n → ok at ≡ false → at ≡ first_bad ok step n at
  unfolding first_bad
  bad_here zero l e = absurd (omega arith)
  bad_here (suc n) l e = rw e

  pub bad_next : (n : ℕ) → 0 < n → ok at ≡ true → first_bad ok step (n - 1) (at + step) ≡ first_bad ok step n at
  unfolding first_bad
  bad_next zero l e = absurd (omega arith)
  bad_next (suc n) l e = rw (e, sub-one)
