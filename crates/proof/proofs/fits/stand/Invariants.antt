use Prim.Native.Nat.{◌≤◌, ◌-◌}
use mathlib.Core.Path.{◌≡◌}
use lib.ListN.{length}
use Rattle.proof.specs.Fit.{standing}
use Rattle.proof.proofs.fits.stand.Given as goal

abbrev pub invariant-loop-i : goal.invariant-loop-i
invariant-loop-i l =
    (l.i ≤ l.count) × (l.at ≤ length l.words) × (standing l.words l.starts l.variables (l.count - l.i) l.i l.at ≡ standing l.words l.starts l.variables l.count 0 0)
