-- The side of an index that lies on the side of a number. Assumes nothing.
use mathlib.Core.Path.{◌≡◌, refl, sym}
use mathlib.Core.Bool.{true}
use Prim.Native.Nat.{ℕ}
use native.Mathlib.Omega.{arith}
use borrow.Author.Tests.{eqb-true}
use Rattle.std.proofs.Common.{Option, None, Some}
use Rattle.run_state.specs.Side.{side_number, is_on}
use Rattle.run_state.specs.declared.Side.{Side}

-- outside, on the side with that number
pub record On (side : ℕ) (l : Option Side) : Type 0 where
  pub on : Side
  pub named : side_number on ≡ side
  pub outside : l ≡ Some on

pub on-side : (side : ℕ) (l : Option Side) → is_on side l ≡ true → On side l
on-side side None e = let z : ◌≡◌ {A = ℕ} 0 1 = cc in absurd (omega arith)
on-side side (Some on) e = record { on = on; named = sym (eqb-true side (side_number on) e); outside = refl }
