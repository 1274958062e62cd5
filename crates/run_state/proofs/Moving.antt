-- A command that does not stop the run gives one variable a value. Assumes nothing.
use mathlib.Core.Path.{◌≡◌, refl, ap}
use mathlib.Core.List.{List}
use Prim.Native.Nat.{ℕ}
use lib.Seq.{set-get_or}
use Rattle.routine_header.specs.declared.Header.{Header}
use Rattle.routine_faults.specs.declared.Counts.{Counts}
use Rattle.routine_command.specs.declared.Conversion.{Conversion}
use Rattle.routine_command.specs.declared.Operation.{Operation}
use Rattle.routine_command.specs.declared.Simple.{Simple}
use Rattle.run_state.specs.State.{value, assigned, moved}
use Rattle.run_state.specs.Inner.Moves.{operands_of, value_after}
use Rattle.run_state.specs.declared.State.{State}

abbrev with_values : State → List ℕ → State
with_values s vs = record { values = vs; trail = s.trail; stop = s.stop }

pub moves : (bs ins : List ℕ) (h : Header) (c : Simple Conversion Operation) (k : Counts) (s : State)
    → assigned s (operands_of c).d (value_after bs ins h c k (value s (operands_of c).a) (value s (operands_of c).b)) ≡ moved bs ins h c k s
unfolding moved
moves bs ins h (Simple.Set d x) k s = refl
moves bs ins h (Simple.Convert op d a) k s = refl
moves bs ins h (Simple.Compute op d a b) k s = refl
moves bs ins h (Simple.Read d array i) k s = refl
moves bs ins h (Simple.Write array i a) k s =
    ap (λ (vs : List ℕ). with_values s vs) (set-get_or s.values a 0)

-- what stopped the run stays as it is
pub moved_stop : (bs ins : List ℕ) (h : Header) (c : Simple Conversion Operation) (k : Counts) (s : State) → (moved bs ins h c k s).stop ≡ s.stop
unfolding moved
moved_stop bs ins h (Simple.Set d x) k s = refl
moved_stop bs ins h (Simple.Convert op d a) k s = refl
moved_stop bs ins h (Simple.Compute op d a b) k s = refl
moved_stop bs ins h (Simple.Read d array i) k s = refl
moved_stop bs ins h (Simple.Write array i a) k s = refl
