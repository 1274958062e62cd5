-- One command, by its kind: what its handler did is what one step of the definition does. Assumes nothing.
use Rattle.std.proofs.Common.{◌≡◌, ℕ, ◌+◌, List, refl, ◌∙◌, Result, Ok, Err}
use Rattle.proof_reader.specs.Command.{command_at}
use Rattle.proof_reader.specs.declared.Command.{Command}
use Rattle.proof_check.specs.State.{Next, stop, down}
use Rattle.proof_check.specs.Check.{on_literal, on_hint, on_close, on_end, obey, step}
use Rattle.proof_check.specs.Lent.{limits_of}
use Rattle.proof_check.specs.Inner.Held.{state_of, Did}
use Rattle.proof_check.specs.declared.Progress.{Progress}
use Rattle.proof_check.specs.declared.Refusal.{Refusal}
use Rattle.proof_check.specs.declared.Turn.{Turn}
use Rattle.proof_check.specs.declared.Tally.{Tally}

module _ (b : ℕ) (w s m t r : List ℕ) (p : Progress) (s' m' t' : List ℕ) (x : Result Turn Refusal) where
  abbrev Steps : Type 0
  Steps = Did w s m t r p s' m' t' x (step (limits_of b w s m) r (state_of w s m r p))

  step_is : (c : Command) → command_at r p.at ≡ c → obey (limits_of b w s m) r (state_of w s m r p) c ≡ step (limits_of b w s m) r (state_of w s m r p)
  unfolding step
  step_is c e = rw e refl

  did_step : (n : Next) → Did w s m t r p s' m' t' x n → n ≡ step (limits_of b w s m) r (state_of w s m r p) → Steps
  did_step n d e = record { same = d.same ∙ e; kept = d.kept }

  pub step_literal : (l : ℕ) → command_at r p.at ≡ Command.Literal l → Did w s m t r p s' m' t' x (on_literal (limits_of b w s m) (state_of w s m r p) l) → Steps
  unfolding obey
  step_literal l e d = did_step _ d (step_is (Command.Literal l) e)

  pub step_hint : (h : ℕ) → command_at r p.at ≡ Command.Hint h → Did w s m t r p s' m' t' x (on_hint (limits_of b w s m) (state_of w s m r p) h) → Steps
  unfolding obey
  step_hint h e d = did_step _ d (step_is (Command.Hint h) e)

  pub step_close : command_at r p.at ≡ Command.Close → Did w s m t r p s' m' t' x (on_close (limits_of b w s m) (state_of w s m r p)) → Steps
  unfolding obey
  step_close e d = did_step _ d (step_is Command.Close e)

module _ (b : ℕ) (w s m t r : List ℕ) (p : Progress) where
  pub step_end : command_at r p.at ≡ Command.End → (a : Tally) → stop (Ok a) ≡ on_end (limits_of b w s m) r (state_of w s m r p) → Steps b w s m t r p s m t (Ok (Turn.Ended a))
  unfolding obey
  step_end e a f = record { same = f ∙ step_is b w s m t r p s m t (Ok (Turn.Ended a)) Command.End e; kept = (refl, refl, refl) }

  -- a command that is turned down
  step_down : (c : Command) → command_at r p.at ≡ c → (a : Refusal) → down a ≡ obey (limits_of b w s m) r (state_of w s m r p) c → Steps b w s m t r p s m t (Err a)
  step_down c e a f = record { same = f ∙ step_is b w s m t r p s m t (Err a) c e; kept = (refl, refl, refl) }

  pub end-refused : command_at r p.at ≡ Command.End → (a : Refusal) → down a ≡ on_end (limits_of b w s m) r (state_of w s m r p) → Steps b w s m t r p s m t (Err a)
  unfolding obey
  end-refused e a f = step_down Command.End e a f

  pub step-refused : (h : ℕ) → command_at r p.at ≡ Command.Hint h → (a : Refusal) → down a ≡ on_hint (limits_of b w s m) (state_of w s m r p) h → Steps b w s m t r p s m t (Err a)
  unfolding obey
  step-refused h e a f = step_down (Command.Hint h) e a f

  pub step-unreadable : command_at r p.at ≡ Command.Unreadable → Steps b w s m t r p s m t (Err (Refusal.Unreadable (b + p.at)))
  unfolding obey
  step-unreadable e = step_down Command.Unreadable e (Refusal.Unreadable (b + p.at)) refl
