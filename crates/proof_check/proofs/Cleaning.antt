-- The undoing of a step by its commands: from the last. Assumes nothing.
use Rattle.std.proofs.Common.{◌≡◌, ℕ, zero, suc, ◌+◌, ◌-◌, ◌/◌, ◌<◌, ◌≤◌, List, [], length, set, replicate, sym, refl, ap, ◌∙◌, arith}
use lib.ListN.{length-replicate, get_or-eq_default}
use Rattle.cnf.specs.Clause.{Clause}
use Rattle.proof_propagation.specs.Inner.Standing.{stored_at, stored_of}
use Rattle.proof_propagation.specs.Inner.Clear.{clear}
use Rattle.proof_propagation.proofs.Standing.{first_at, first-length}
use Rattle.proof_propagation.proofs.Clearing.{clear_append, clear_swap, clear_zeros}
use Rattle.proof_reader.specs.Command.{command_at}
use Rattle.proof_reader.specs.declared.Command.{Command}
use Rattle.proof_check.specs.Inner.Undo.{touches, touched, Clean}

module _ (r : List ℕ) (begin : ℕ) (cs : List Clause) (m : List ℕ) (at : ℕ) where
  -- before the first command
  pub clean_start : at ≡ begin → m ≡ replicate (length m) 0 → Clean r begin cs m at
  unfolding Clean touched clear
  clean_start b e = (0, omega arith, e)

  module _ (c : Clean r begin cs m at) (m' : List ℕ) where
    -- what one command more marks is undone with it
    pub clean-more : length m' ≡ length m → clear m' (touches cs (command_at r at)) ≡ clear m (touches cs (command_at r at)) → Clean r begin cs m' (at + 5)
    unfolding Clean touched
    clean-more l q =
        let b : at + 5 - 5 ≡ at = omega arith in
        let a = touches cs (command_at r at) in
        let t = touched cs r c.0 at in (
          suc c.0,
          omega (arith, c.1),
          rw (b, l)
              (clear_append m' a t ∙ ap (λ (x : List ℕ). clear x t) q ∙ clear_swap m a t ∙ ap (λ (x : List ℕ). clear x a) c.2 ∙ clear_zeros (length m) a),
        )

    -- and where no variable is decided, there is nothing to undo
    pub clean_zeros : m' ≡ replicate (length m) 0 → Clean r begin cs m' (at + 5)
    unfolding Clean
    clean_zeros e =
        let l : length m' ≡ length m = ap length e ∙ length-replicate (length m) 0 in
        (suc c.0, omega (arith, c.1), rw (l, e) (clear_zeros (length m) (touched cs r (suc c.0) (at + 5))))

-- one command less, the last first
pub clean-room : (r : List ℕ) (begin : ℕ) (cs : List Clause) (m : List ℕ) (at : ℕ) → begin < at → Clean r begin cs m at → begin + 5 ≤ at
unfolding Clean
clean-room r begin cs m at h (zero, q, e) = absurd (omega arith)
clean-room r begin cs m at h (suc k, q, e) = omega arith

pub clean-less : (r : List ℕ) (begin : ℕ) (cs : List Clause) (m m' : List ℕ) (at : ℕ) → begin < at → Clean r begin cs m at → length m' ≡ length m → m' ≡ clear m (touches cs (command_at r (at - 5))) → Clean r begin cs m' (at - 5)
unfolding Clean touched
clean-less r begin cs m m' at h (zero, q, e) l f = absurd (omega arith)
clean-less r begin cs m m' at h (suc k, q, e) l f =
    (k, omega arith, ap (λ (x : List ℕ). clear x (touched cs r k (at - 5))) f ∙ sym (clear_append m (touches cs (command_at r (at - 5))) (touched cs r k (at - 5))) ∙ e ∙ ap (λ (n : ℕ). replicate n 0) (sym l))

pub clean-none : (r : List ℕ) (begin : ℕ) (cs : List Clause) (m : List ℕ) (at : ℕ) → at ≤ begin → Clean r begin cs m at → m ≡ replicate (length m) 0
unfolding Clean touched clear
clean-none r begin cs m at h (zero, q, e) = e
clean-none r begin cs m at h (suc k, q, e) = absurd (omega arith)

-- what undoing a command does
module _ (w s r m m' : List ℕ) (given count : ℕ) (k : Command) where
  pub undo_literal : (l : ℕ) → k ≡ Command.Literal l → m' ≡ set m (l / 2) 0 → m' ≡ clear m (touches (stored_of w s r given count) k)
  unfolding clear touches
  undo_literal l e q = rw e q

  pub undo_hint : (h : ℕ) → k ≡ Command.Hint h → h < count → m' ≡ clear m (stored_at w s r given h) → m' ≡ clear m (touches (stored_of w s r given count) k)
  unfolding touches
  undo_hint h e b q = rw (e, first_at (stored_at w s r given) count h b) q

  pub undo_far : (h : ℕ) → k ≡ Command.Hint h → count ≤ h → m ≡ clear m (touches (stored_of w s r given count) k)
  unfolding clear touches
  undo_far h e b = rw (e, get_or-eq_default (stored_of w s r given count) [] {n = h} (rw first-length b)) refl
