-- What is said of two leads, from what was said of each. Assumes nothing.
use Rattle.std.specs.Prelude.{Ok, Err}
use mathlib.Core.Path.{◌≡◌, refl}
use mathlib.Core.List.{List}
use Prim.Native.Nat.{ℕ}
use Rattle.routine_header.specs.declared.Header.{Header}
use Rattle.routine_faults.specs.declared.Counts.{Counts}
use Rattle.report_witness.specs.Lead.{opened}
use Rattle.report_witness.specs.Pair.{same_target, compared}
use Rattle.report_witness.specs.declared.Lead.{Lead}
use Rattle.report_witness.specs.declared.Refusal.{Refusal}

module _ (first second : List ℕ) (h : Header) (k : Counts) where
  pub first-refused : (refusal : Refusal) → opened first h k ≡ Err refusal → Err refusal ≡ compared first second h k
  unfolding compared
  first-refused refusal e = rw e refl

  module _ (one : Lead) (is : opened first h k ≡ Ok one) where
    pub second-refused : (refusal : Refusal) → opened second h k ≡ Err refusal → Err refusal ≡ compared first second h k
    unfolding compared
    second-refused refusal e = rw (is, e) refl

    pub both_open : (other : Lead) → opened second h k ≡ Ok other → Ok (same_target one.target other.target) ≡ compared first second h k
    unfolding compared
    both_open other e = rw (is, e) refl
