-- What going past an arm tells.
use Rattle.std.specs.Prelude.{ℕ, ◌≡◌, List}
use Rattle.routine.specs.Routine.{Arm}
use Rattle.routine.specs.Inner.Stands.{Stands}
use Rattle.routine_header.specs.declared.Header.{Header}
use Rattle.routine_faults.specs.declared.Counts.{Counts}
use Rattle.routine.specs.declared.Passed.{Passed}
use Rattle.routine_command.specs.declared.Mark.{Mark}

-- the end of whatever arm stands at `at`, and the counts there
pub record Passes (bs : List ℕ) (h : Header) (depth : ℕ) (close : Mark) (at : ℕ) (k : Counts) (r : Passed) : Type 0 where
  pub tells : (a : Arm) (end : ℕ) (k₁ : Counts) → Stands bs h depth close at k a end k₁ → (r.next ≡ end) × (r.counts ≡ k₁)
