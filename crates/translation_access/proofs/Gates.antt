-- How many gates an access takes. Assumes nothing.
use mathlib.Core.Bool.{Bool, true, false, cond}
use Prim.Native.Nat.{ℕ, ◌+◌, ◌*◌, ◌≤◌}
use native.Mathlib.Omega.{arith}
use lib.ListN.{length, length-append}
use lib.Dec.{eqb}
use mathlib.Core.List.{[]}
use Rattle.arithmetic.specs.Bits.{Bits}
use Rattle.arithmetic.specs.Circuit.{never}
use Rattle.comparison.proofs.Access.{above-short}
use Rattle.comparison.specs.Access.{above}
use Rattle.translation_access.specs.Index.{passing, claim, top}

-- one that is not the named one
pub passing-short : (g : ℕ) (a : Bits) (size w arrival : ℕ) → length (passing g a size w arrival).nodes ≤ 3 * w + 2
unfolding passing
passing-short g a size w arrival = simp length-append (omega (arith, above-short g a size w))

-- the named one
pub claim-short : (side g : ℕ) (a : Bits) (size w : ℕ) → length (claim side g a size w).nodes ≤ 3 * w
unfolding claim
claim-short side g a size w = pick (eqb side 0) (eqb side 1)
  where
    pick : (p q : Bool) → length (cond p (record { nodes = []; lit = top a w }) (cond q (above g a size w) never)).nodes ≤ 3 * w
    pick true q = omega arith
    pick false true = above-short g a size w
    pick false false = omega arith
