-- The end: each way out. Assumes nothing.
use Rattle.std.proofs.Common.{◌≡◌, ℕ, ◌+◌, ◌<◌, ◌≤◌, true, false, List, length, refl, le-leb, Ok, Err}
use borrow.Author.Tests.{lt-leb}
use Rattle.proof_check.specs.Phase.{going}
use Rattle.slices.specs.Guard.{unless}
use Rattle.proof_check.specs.State.{stop}
use Rattle.proof_check.specs.Check.{on_end}
use Rattle.proof_check.specs.Lent.{limits_of}
use Rattle.proof_check.specs.Inner.Held.{state_of}
use Rattle.proof_check.specs.declared.Progress.{Progress}
use Rattle.proof_check.specs.declared.Refusal.{Refusal}

module _ (b : ℕ) (w s m r : List ℕ) (p : Progress) where
  pub end_early : going p.phase ≡ true → stop (Err (Refusal.OutOfPlace (b + p.at))) ≡ on_end (limits_of b w s m) r (state_of w s m r p)
  unfolding on_end unless
  end_early e = rw e refl

  pub end_trailing : going p.phase ≡ false → p.at + 1 < length r → stop (Err (Refusal.Trailing (b + p.at + 1))) ≡ on_end (limits_of b w s m) r (state_of w s m r p)
  unfolding on_end unless
  end_trailing e h = rw (e, lt-leb (length r) (p.at + 1) h) refl

  pub end-accepted : going p.phase ≡ false → length r ≤ p.at + 1 → stop (Ok (record { steps = p.steps; hints = p.hints })) ≡ on_end (limits_of b w s m) r (state_of w s m r p)
  unfolding on_end unless
  end-accepted e h = rw (e, le-leb (length r) (p.at + 1) h) refl
