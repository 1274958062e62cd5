-- Runs begin with any leftovers. Assumes nothing.
use mathlib.Core.List.{List}
use Prim.Native.Nat.{ℕ}
use lib.ListN.{replicate}
use Rattle.routine_faults.proofs.Fine.{fine}
use Rattle.routine.proofs.Decoded.{decoded}
use Rattle.run_inputs.proofs.Rewording.{reworded}
use Rattle.run_state.specs.State.{initial}
use Rattle.run_state.proofs.Laid.{laid-entry}
use Rattle.run.specs.Leftovers.{AnyLeftovers}

pub any_leftovers : (bs : List ℕ) → AnyLeftovers bs
unfolding initial
any_leftovers bs = record {
  holds = λ h a k d. record {
    begins = λ ins v l. laid-entry ins (replicate 32 0) h.variables v l (fine bs h (decoded bs h a k d).header).few;
    accepts = λ ins f v x l b. reworded bs ins v x b h a k l f;
  };
}
