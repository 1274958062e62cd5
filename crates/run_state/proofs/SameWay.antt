-- Decisions that are equal at the ifs before an access name one way. Assumes nothing.
use Prim.Native.Nat.{ℕ, ◌<◌}
use mathlib.Core.Path.{◌≡◌, refl, ap, ap₂}
use mathlib.Core.List.{List, [], ◌∷◌}
use mathlib.Core.Bool.{Bool, true, false, not, ◌&&◌, ◌||◌}
use lib.Dec.{ltb}
use borrow.Author.Tests.{ltb-true}
use Rattle.slices.specs.Bytes.{entry}
use Rattle.run_state.specs.Run.{Event, took, came}
use Rattle.run_state.specs.Course.{follows, keeps}
use Rattle.run_state.specs.Goes.{goes_way}

module _ (ds es : List ℕ) (before : ℕ) (same : (number : ℕ) → number < before → entry ds number ≡ entry es number) where
  -- at one if
  same-keeps : (number arm : ℕ) → keeps ds before number arm ≡ keeps es before number arm
  same-keeps number arm = pick (ltb number before) refl
    where
      pick : (b : Bool) → ltb number before ≡ b → (not b || follows (entry ds number) arm) ≡ (not b || follows (entry es number) arm)
      pick true e = ap (λ (d : ℕ). follows d arm) (same number (ltb-true _ _ e))
      pick false e = refl

  -- at all that a run comes to
  pub same_way : (events : List Event) → goes_way ds before events ≡ goes_way es before events
  unfolding goes_way
  same_way [] = refl
  same_way (took number arm ∷ events) = ap₂ (λ (x y : Bool). x && y) (same-keeps number arm) (same_way events)
  same_way (came number array index ∷ events) = same_way events
