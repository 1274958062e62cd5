-- The number of commands that `run` is given does not matter once it is enough: its first line is never come to from `finish`. Assumes nothing.
use Rattle.std.proofs.Common.{◌≡◌, ℕ, zero, suc, ◌+◌, ◌-◌, ◌<◌, ◌≤◌, List, [], length, get_or, refl, ap, ◌∙◌, subst, arith, Result, Err}
use Rattle.proof_propagation.specs.Hint.{hint_of}
use Rattle.proof_propagation.specs.declared.Hint.{Hint}
use Rattle.proof_reader.specs.Command.{command_at}
use Rattle.proof_check.specs.State.{State, Limits, Next, more, stop}
use Rattle.proof_check.specs.Check.{on_literal, after_hint, on_hint, on_close, on_end, obey, step, Outcome, follow, run, finish}
use Rattle.proof_reader.specs.declared.Command.{Command}
use Rattle.proof_check.specs.declared.Refusal.{Refusal}
use Rattle.proof_check.specs.declared.Tally.{Tally}
use Rattle.proof_check.proofs.Unless.{unless_in}
use Rattle.proof_reader.proofs.Reading.{Reads, reads}

-- a command that is gone on from lies in the report, and the next is further on
unfoldable pub Moves : ℕ → ℕ → Next → Type 0
Moves at len (more t) = (at < t.at) × (at < len)
Moves at len (stop a) = Prim.Unit {0}

stays : (at len : ℕ) (a : Refusal) → Moves at len (stop (Err a))
unfolding Moves
stays at len a = tt

ended : (at len : ℕ) (v : Result Tally Refusal) → Moves at len (stop v)
unfolding Moves
ended at len v = tt

moves : (at len : ℕ) (t : State) → at < t.at → at < len → Moves at len (more t)
unfolding Moves
moves at len t a b = (a, b)

module _ (L : Limits) (s : State) (len : ℕ) where
  literal_moves : (l : ℕ) → s.at + 5 ≤ len → Moves s.at len (on_literal L s l)
  unfolding on_literal
  literal_moves l h =
      unless_in (Moves s.at len) (stays _ _) _ _ _ (λ _.
      unless_in (Moves s.at len) (stays _ _) _ _ _ (λ _.
      unless_in (Moves s.at len) (stays _ _) _ _ _ (λ _.
      unless_in (Moves s.at len) (stays _ _) _ _ _ (λ _.
      unless_in (Moves s.at len) (stays _ _) _ _ _ (λ _. moves _ _ _ (omega arith) (omega arith))))))

  after_moves : (x : Hint) → s.at + 5 ≤ len → Moves s.at len (after_hint L s x)
  unfolding after_hint
  after_moves Hint.Conflict h = moves _ _ _ (omega arith) (omega arith)
  after_moves (Hint.Unit l) h = moves _ _ _ (omega arith) (omega arith)
  after_moves Hint.Neither h = stays _ _ _

  hint_moves : (k : ℕ) → s.at + 5 ≤ len → Moves s.at len (on_hint L s k)
  unfolding on_hint
  hint_moves k h =
      unless_in (Moves s.at len) (stays _ _) _ _ _ (λ _.
      unless_in (Moves s.at len) (stays _ _) _ _ _ (λ _.
      unless_in (Moves s.at len) (stays _ _) _ _ _ (λ _. after_moves (hint_of s.marks (get_or s.clauses k [])) h)))

  close_moves : s.at + 1 ≤ len → Moves s.at len (on_close L s)
  unfolding on_close
  close_moves h =
      unless_in (Moves s.at len) (stays _ _) _ _ _ (λ _.
      unless_in (Moves s.at len) (stays _ _) _ _ _ (λ _.
      unless_in (Moves s.at len) (stays _ _) _ _ _ (λ _.
      unless_in (Moves s.at len) (stays _ _) _ _ _ (λ _. moves _ _ _ (omega arith) (omega arith)))))

obey_moves : (L : Limits) (r : List ℕ) (s : State) (c : Command) → Reads r s.at c → Moves s.at (length r) (obey L r s c)
unfolding obey Reads on_end
obey_moves L r s (Command.Literal l) h = literal_moves L s (length r) l h.0
obey_moves L r s (Command.Hint k) h = hint_moves L s (length r) k h.0
obey_moves L r s Command.Close h = close_moves L s (length r) h.0
obey_moves L r s Command.End h =
    unless_in (Moves s.at (length r)) (stays _ _) _ _ _ (λ _.
    unless_in (Moves s.at (length r)) (stays _ _) _ _ _ (λ _. ended _ _ _))
obey_moves L r s Command.Unreadable h = stays _ _ _

pub step_moves : (L : Limits) (r : List ℕ) (s : State) → Moves s.at (length r) (step L r s)
unfolding step
step_moves L r s = obey_moves L r s (command_at r s.at) (reads r s.at)

follows : (f g : State → Outcome) (s : State) (at len : ℕ) (x : Next) → Moves at len x → ((t : State) → at < t.at → at < len → f t ≡ g t) → follow f s x ≡ follow g s x
unfolding Moves
follows f g s at len (more t) m e = e t m.0 m.1
follows f g s at len (stop a) m e = refl

-- enough is enough
pub steady : (n k : ℕ) (L : Limits) (r : List ℕ) (s : State) → length r - s.at < n → length r - s.at < k → run n L r s ≡ run k L r s
unfolding run
steady zero k L r s a b = absurd (omega arith)
steady (suc n) zero L r s a b = absurd (omega arith)
steady (suc n) (suc k) L r s a b =
    follows (λ t. run n L r t) (λ t. run k L r t) s s.at (length r) (step L r s) (step_moves L r s)
    (λ t x y. steady n k L r t (omega arith) (omega arith))

-- so any larger number gives the same answer
pub finish_steady : (n : ℕ) (L : Limits) (r : List ℕ) (s : State) → length r - s.at < n → run n L r s ≡ finish L r s
unfolding finish
finish_steady n L r s h = steady n (suc (length r - s.at)) L r s h (omega arith)

-- one command, and the rest
pub finish-more : (L : Limits) (r : List ℕ) (s t : State) → step L r s ≡ more t → finish L r s ≡ finish L r t
unfolding finish run
finish-more L r s t e =
    let m : Moves s.at (length r) (more t) = subst (λ (n : Next). Moves s.at (length r) n) e (step_moves L r s) in
    ap (follow (λ u. run (length r - s.at) L r u) s) e ∙ finish_steady (length r - s.at) L r t (further m)
  where
    further : Moves s.at (length r) (more t) → length r - t.at < length r - s.at
    further m = unfold Moves in (let a = m.0 in let b = m.1 in omega arith)

-- one command, and the verdict
pub finish-stop : (L : Limits) (r : List ℕ) (s : State) (v : Result Tally Refusal) → step L r s ≡ stop v → finish L r s ≡ record { verdict = v; last = s }
unfolding finish run
finish-stop L r s v e = ap (follow (λ t. run (length r - s.at) L r t) s) e
