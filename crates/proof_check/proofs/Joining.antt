-- A proof in two parts: going on in the second from where the check of the first stopped is checking the whole. Assumes nothing.
use Rattle.std.proofs.Common.{◌≡◌, ℕ, zero, suc, ◌-◌, ◌<◌, ◌≤◌, true, ltb, List, ◌++◌, length, replicate, sym, refl, ap, ◌∙◌, inl, inr, true≢false, arith, length-append, ltb-false, ltb-true, Ok, Err}
use Rattle.proof_reader.specs.Command.{command_at}
use Rattle.proof_reader.specs.Inner.Literals.{literals_at}
use Rattle.proof_reader.specs.Inner.Runs.{Ones}
use Rattle.proof_reader.specs.declared.Command.{Command}
use Rattle.proof_reader.proofs.Reading.{Reads, reads, same_literal, same_hint, same_close}
use Rattle.proof_reader.proofs.Running.{run_append}
use Rattle.proof_propagation.specs.Stored.{start_of}
use Rattle.proof_propagation.specs.Inner.Standing.{stored_at, stored_of, HasMarks}
use Rattle.proof_propagation.proofs.Cases.{both}
use Rattle.proof_propagation.proofs.Standing.{first-same, stored_given, stored_step}
use Rattle.proof_check.specs.Phase.{in_literals}
use Rattle.proof_check.specs.State.{State, Limits, Next, more, stop}
use Rattle.proof_check.specs.Check.{on_end, obey, step, Outcome, follow, run, finish}
use Rattle.proof_check.specs.Inner.Held.{Store, state_of, Ready, Parted}
use Rattle.proof_check.specs.declared.Progress.{Progress}
use Rattle.proof_check.specs.declared.Refusal.{Refusal}
use Rattle.proof_check.proofs.Adding.{zeros_undecided}
use Rattle.proof_check.proofs.Cleaning.{clean_start, clean-none}
use Rattle.proof_check.proofs.Steady.{finish-more}
use Rattle.proof_check.proofs.Trailing.{trailed_zeros}
use Rattle.proof_check.proofs.Unless.{unless_in}

-- ---- the definition

-- what a command that is gone on from did, it does with more bytes after it
unfoldable Again : Next → Next → Type 0
Again (more t) n = n ≡ more t
Again (stop v) n = Prim.Unit {0}

again_same : (n k : Next) → k ≡ n → Again n k
unfolding Again
again_same (more t) k e = e
again_same (stop v) k e = tt

again_refused : (k : Next) (v : Refusal) → Again (stop (Err v)) k
unfolding Again
again_refused k v = tt

module _ (L : Limits) (r x : List ℕ) (s : State) where
  obey_again : (c : Command) → command_at r s.at ≡ c → Reads r s.at c → Again (obey L r s c) (step L (r ++ x) s)
  unfolding obey step on_end
  obey_again (Command.Literal l) e h = again_same _ _ (ap (obey L (r ++ x) s) (same_literal r x s.at l h))
  obey_again (Command.Hint k) e h = again_same _ _ (ap (obey L (r ++ x) s) (same_hint r x s.at k h))
  obey_again Command.Close e h = again_same _ _ (ap (obey L (r ++ x) s) (same_close r x s.at h))
  obey_again Command.End e h =
      unless_in (λ n. Again n (step L (r ++ x) s)) (again_refused _) _ _ _ (λ _.
      unless_in (λ n. Again n (step L (r ++ x) s)) (again_refused _) _ _ _ (λ _. ended))
    where
      ended : Again (stop (Ok (record { steps = s.steps; hints = s.hints }))) (step L (r ++ x) s)
      ended = unfold Again in tt
  obey_again Command.Unreadable e h = again_refused _ _

  step_again : Again (step L r s) (step L (r ++ x) s)
  unfolding step
  step_again = obey_again (command_at r s.at) refl (reads r s.at)

follow_again : (L : Limits) (r x : List ℕ) (rest : State → Outcome) (s : State) (k : Next) → Again k (step L (r ++ x) s) → ((t : State) → finish L (r ++ x) (rest t).last ≡ finish L (r ++ x) t)
    → finish L (r ++ x) (follow rest s k).last ≡ finish L (r ++ x) s
unfolding Again
follow_again L r x rest s (more t) e f = f t ∙ sym (finish-more L (r ++ x) s t e)
follow_again L r x rest s (stop v) e f = refl

run_again : (n : ℕ) (L : Limits) (r x : List ℕ) (s : State) → finish L (r ++ x) (run n L r s).last ≡ finish L (r ++ x) s
unfolding run
run_again zero L r x s = refl
run_again (suc n) L r x s = follow_again L r x (λ t. run n L r t) s (step L r s) (step_again L r x s) (λ t. run_again n L r x t)

-- THE LAW: checking the whole is going on from the state in which the check of the first part stopped
pub finish_joined : (L : Limits) (r x : List ℕ) (s : State) → finish L (r ++ x) s ≡ finish L (r ++ x) (finish L r s).last
unfolding finish
finish_joined L r x s = sym (run_again (suc (length r - s.at)) L r x s)

-- ---- how the code holds it: between two steps of the first part, what is known of it is known of the whole

module _ (w s m t r x : List ℕ) (p : Progress) (z : Ready w s m t r p) (f : in_literals p.phase ≡ true) (b : p.at ≡ p.begin) (n : p.literals ≡ 0) where
  abbrev q : List ℕ
  q = r ++ x

  stored_joined : (i : ℕ) → i < p.count → stored_at w s q p.given i ≡ stored_at w s r p.given i
  stored_joined i k =
      elim (both (ltb i p.given)) [
        | inl e ↦ let h = ltb-true i p.given e in stored_given w s q p.given i h ∙ sym (stored_given w s r p.given i h)
        | inr e ↦ let h = ltb-false i p.given e in
            stored_step w s q p.given i h ∙ (run_append r x (start_of s i) ((z.store.each i k).runs h)).1 ∙ sym (stored_step w s r p.given i h)
      ]

  clauses_joined : stored_of w s q p.given p.count ≡ stored_of w s r p.given p.count
  clauses_joined = first-same (stored_at w s q p.given) (stored_at w s r p.given) p.count stored_joined

  pub state_joined : state_of w s m q p ≡ state_of w s m r p
  unfolding literals_at
  state_joined = rw (clauses_joined, n) refl

  store_joined : Store w s q p.given (length m) p.count p.used
  store_joined =
      record {
        entries = z.store.entries;
        over = z.store.over;
        room = z.store.room;
        each = λ i k. let a = z.store.each i k in
            record { listed = a.listed; inside = a.inside; runs = λ h. (run_append r x (start_of s i) (a.runs h)).0; fits = rw (stored_joined i k) a.fits };
        sized = rw clauses_joined z.store.sized;
      }

  zeros : m ≡ replicate (length m) 0
  zeros = clean-none r p.begin (stored_of w s r p.given p.count) m p.at (omega arith) z.clean

  pub ready_joined : length q ≤ 16777216 → Ready w s m t q p
  unfolding literals_at Ones HasMarks
  ready_joined limit =
      record {
        store = store_joined;
        fits = rw n tt;
        among = λ _. rw n (omega arith, tt);
        fresh = λ _ l. rw n (zeros_undecided m (length m) l zeros);
        past = λ _ e. absurd (true≢false (sym f ∙ e));
        undone = z.undone;
        clean = clean_start q p.begin (stored_of w s q p.given p.count) m p.at b zeros;
        trailed = trailed_zeros m t q (length m) p zeros;
        marked = z.marked;
        short = z.short;
        begun = z.begun;
        few = z.few;
        noted = z.noted;
        numbered = z.numbered;
        stepped = z.stepped;
        hinted = z.hinted;
        within = rw length-append (omega (arith, z.within));
        limit = limit;
      }

  -- where the first part ended, the second goes on: each clause of a step lies in the first part
  pub parted_joined : p.at ≡ length r → Parted r s p
  parted_joined e = record { begun = omega arith; each = λ i k g _. (z.store.each i k).runs g }
