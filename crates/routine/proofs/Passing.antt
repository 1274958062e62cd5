-- Walking over an arm that stands ends where it ends. Assumes nothing.
use mathlib.Core.Path.{◌≡◌, ap, ◌∙◌}
use mathlib.Core.List.{List}
use Prim.Native.Nat.{ℕ}
use native.Mathlib.Omega.{arith}
use Rattle.routine.specs.Routine.{Arm}
use Rattle.routine.specs.Inner.Walk.{Walked, walked, walk_arm}
use Rattle.routine.specs.Inner.Stands.{Stands, SomeArm}
use Rattle.routine.specs.Inner.Passes.{Passes}
use Rattle.routine_header.specs.declared.Header.{Header}
use Rattle.routine_faults.specs.declared.Counts.{Counts}
use Rattle.routine.specs.declared.Passed.{Passed}
use Rattle.routine.specs.declared.Refusal.{Refusal}
use Rattle.std.specs.Prelude.{Ok, Err}
use Rattle.routine_command.specs.declared.Mark.{Mark}

module _ (bs : List ℕ) (h : Header) (depth : ℕ) (close : Mark) (at : ℕ) (k : Counts) (w : Walked) (is : w ≡ walk_arm bs h depth close at k) where
  walks : (a : Arm) (end : ℕ) (k₁ : Counts) → Stands bs h depth close at k a end k₁ → w ≡ Ok (record { next = end; counts = k₁ })
  unfolding walk_arm
  walks a end k₁ s = is ∙ ap walked s.reads

  pub never-refused : SomeArm bs h depth close at k → (refusal : Refusal) → w ≡ Err refusal → ⊥
  never-refused s refusal e = let q = walks s.arm s.end s.after s.stands in let z : ◌≡◌ {A = ℕ} 0 1 = cc in omega arith

  pub passes : (r : Passed) → w ≡ Ok r → Passes bs h depth close at k r
  passes r e = record {
    tells = λ a end k₂ s.
        let q = walks a end k₂ s in
        let x : r.next ≡ end = cc in
        let y : r.counts ≡ k₂ = cc in
        (x, y);
  }
