-- A hint: each way out. Assumes nothing.
use Rattle.std.proofs.Common.{◌≡◌, ℕ, ◌+◌, ◌-◌, ◌/◌, ◌<◌, ◌≤◌, Bool, true, false, cond, not, ◌&&◌, ltb, List, [], length, get_or, set, replicate, sym, refl, ap, ◌∙◌, subst, inl, inr, true≢false, arith, length-set, ltb-true, le-ltb, lt-ltb, Result, Ok}
use lib.ListN.{length-replicate}
use Rattle.cnf.specs.Clause.{Clause}
use Rattle.proof_reader.specs.Command.{command_at}
use Rattle.proof_reader.specs.Inner.Runs.{RunsFor}
use Rattle.proof_reader.specs.declared.Command.{Command}
use Rattle.proof_reader.proofs.Reading.{Reads, reads}
use Rattle.proof_reader.proofs.Running.{ones_run}
use Rattle.proof_propagation.specs.Marks.{true_mark}
use Rattle.proof_propagation.specs.Hint.{hint_of}
use Rattle.proof_propagation.specs.Inner.Standing.{stored_at, stored_of}
use Rattle.proof_propagation.specs.Inner.Clear.{clear}
use Rattle.proof_propagation.specs.declared.Hint.{Hint}
use Rattle.proof_propagation.proofs.Cases.{both}
use Rattle.proof_propagation.proofs.Standing.{first-length, first_at, unit_in}
use Rattle.proof_propagation.proofs.Clearing.{clear-marked}
use Rattle.proof_check.specs.Phase.{going, in_literals, conflicted}
use Rattle.proof_check.specs.Inner.Undo.{touches, Clean}
use Rattle.slices.specs.Guard.{unless}
use Rattle.proof_check.specs.State.{State, Limits, more, down}
use Rattle.proof_check.specs.Check.{after_hint, on_hint}
use Rattle.proof_check.specs.Lent.{limits_of}
use Rattle.proof_check.specs.Inner.Held.{state_of, Ready, Trailed, Did, with_hint}
use Rattle.proof_check.specs.Inner.Rows.{said_by}
use Rattle.proof_check.specs.declared.Phase.{Phase}
use Rattle.proof_check.specs.declared.Progress.{Progress}
use Rattle.proof_check.specs.declared.Refusal.{Refusal}
use Rattle.proof_check.specs.declared.Turn.{Turn}
use Rattle.proof_check.proofs.Cleaning.{clean-more, clean_zeros}
use Rattle.proof_check.proofs.Trailing.{trailed_zeros, trailed_unit}
use Rattle.proof_check.proofs.Stopping.{went, onward-same}

takes_hint : (L : Limits) (s : State) (h : ℕ) → going s.phase ≡ true → h < length s.clauses → conflicted s.phase ≡ false → on_hint L s h ≡ after_hint L s (hint_of s.marks (get_or s.clauses h []))
unfolding on_hint unless
takes_hint L s h a b c = rw (a, lt-ltb h (length s.clauses) b, c) refl

-- ---- what a command says to an open step

module _ (s : State) (h : ℕ) where
  pub said_over : going s.phase ≡ false → Hint.Neither ≡ said_by s (Command.Hint h)
  unfolding said_by
  said_over e = rw e refl

  pub said_late : going s.phase ≡ true → conflicted s.phase ≡ true → Hint.Neither ≡ said_by s (Command.Hint h)
  unfolding said_by
  said_late e f = rw (e, f) refl

  pub said_far : going s.phase ≡ true → conflicted s.phase ≡ false → length s.clauses ≤ h → Hint.Neither ≡ said_by s (Command.Hint h)
  unfolding said_by
  said_far e f k = rw (e, f, le-ltb h (length s.clauses) k) refl

  pub said_there : going s.phase ≡ true → conflicted s.phase ≡ false → h < length s.clauses → hint_of s.marks (get_or s.clauses h []) ≡ said_by s (Command.Hint h)
  unfolding said_by
  said_there e f k = rw (e, f, lt-ltb h (length s.clauses) k) refl

-- a command that says something is a hint which the step takes
pub record Takes (s : State) (c : Command) (x : Hint) : Type 0 where
  pub number : ℕ
  pub hint : c ≡ Command.Hint number
  pub goes : going s.phase ≡ true
  pub fresh : conflicted s.phase ≡ false
  pub there : number < length s.clauses
  pub says : hint_of s.marks (get_or s.clauses number []) ≡ x

module _ (s : State) (x : Hint) (n : Hint.Neither ≡ x → ⊥) where
  takes_by : (h : ℕ) (g f l : Bool) → going s.phase ≡ g → conflicted s.phase ≡ f → ltb h (length s.clauses) ≡ l
      → cond (g && (not f && l)) (hint_of s.marks (get_or s.clauses h [])) Hint.Neither ≡ x → Takes s (Command.Hint h) x
  takes_by h false f l a b c e = absurd (n e)
  takes_by h true true l a b c e = absurd (n e)
  takes_by h true false false a b c e = absurd (n e)
  takes_by h true false true a b c e = record { number = h; hint = refl; goes = a; fresh = b; there = ltb-true h (length s.clauses) c; says = e }

  pub taken_hint : (c : Command) → said_by s c ≡ x → Takes s c x
  unfolding said_by
  taken_hint (Command.Literal l) e = absurd (n e)
  taken_hint (Command.Hint h) e = takes_by h (going s.phase) (conflicted s.phase) (ltb h (length s.clauses)) refl refl refl e
  taken_hint Command.Close e = absurd (n e)
  taken_hint Command.End e = absurd (n e)
  taken_hint Command.Unreadable e = absurd (n e)

-- ---- a hint that is turned down

module _ (b : ℕ) (w s m r : List ℕ) (p : Progress) (i : ℕ) where
  abbrev L : Limits
  L = limits_of b w s m

  abbrev S : State
  S = state_of w s m r p

  pub refuse_over : going p.phase ≡ false → down (Refusal.OutOfPlace (b + p.at)) ≡ on_hint L S i
  unfolding on_hint unless
  refuse_over e = rw e refl

  pub refuse_far : going p.phase ≡ true → p.count ≤ i → down (Refusal.NoClause (b + p.at)) ≡ on_hint L S i
  unfolding on_hint unless
  refuse_far e k = rw (e, first-length (stored_at w s r p.given) p.count, le-ltb i p.count k) refl

  pub refuse_late : going p.phase ≡ true → i < p.count → conflicted p.phase ≡ true → down (Refusal.AfterConflict (b + p.at)) ≡ on_hint L S i
  unfolding on_hint unless
  refuse_late e k f = rw (e, first-length (stored_at w s r p.given) p.count, lt-ltb i p.count k, f) refl

  pub refuse_neither : going p.phase ≡ true → i < p.count → conflicted p.phase ≡ false → said_by S (Command.Hint i) ≡ Hint.Neither
      → down (Refusal.Neither (b + p.at)) ≡ on_hint L S i
  unfolding after_hint
  refuse_neither e k f q =
      let n = first-length (stored_at w s r p.given) p.count in
      let l : i < length S.clauses = rw n k in
      sym (takes_hint L S i e l f ∙ ap (after_hint L S) (said_there S i e f l ∙ q))

-- from the first hint on the step's literals are a run
pub own_run : (w s m t r : List ℕ) (p : Progress) (i : ℕ) → Ready w s m t r p → command_at r p.at ≡ Command.Hint i → going p.phase ≡ true → RunsFor r p.begin p.literals
unfolding Reads
own_run w s m t r p i z e g =
    let read : Reads r p.at (Command.Hint i) = subst (λ (c : Command). Reads r p.at c) e (reads r p.at) in
    elim (both (in_literals p.phase)) [
      | inl f ↦ ones_run r p.begin p.literals p.at (z.among f).0 (z.among f).1 (omega (arith, read.0)) (λ q. omega (arith, read.1))
      | inr f ↦ z.past g f
    ]

module _ (b : ℕ) (w s m t r : List ℕ) (p : Progress) (i : ℕ) (x : Result Turn Refusal) (z : Ready w s m t r p) (e : command_at r p.at ≡ Command.Hint i) (g : going p.phase ≡ true) (k : i < p.count) (c : conflicted p.phase ≡ false) where
  hint_is : on_hint (limits_of b w s m) (state_of w s m r p) i ≡ after_hint (limits_of b w s m) (state_of w s m r p) (hint_of m (stored_at w s r p.given i))
  hint_is =
      takes_hint (limits_of b w s m) (state_of w s m r p) i g (rw first-length k) c
      ∙ ap (λ (d : Clause). after_hint (limits_of b w s m) (state_of w s m r p) (hint_of m d)) (first_at (stored_at w s r p.given) p.count i k)

  ready_hint : (m' t' : List ℕ) (phase : Phase) (d : ℕ) → in_literals phase ≡ false → (conflicted phase ≡ true → m' ≡ replicate (length m') 0) → length m' ≡ length m → d ≤ p.decided + 1
      → Clean r p.begin (stored_of w s r p.given p.count) m' (p.at + 5) → Trailed m' t' r (with_hint p phase d) → Ready w s m' t' r (with_hint p phase d)
  unfolding Reads
  ready_hint m' t' phase d o u n few cl tr =
      let read : Reads r p.at (Command.Hint i) = subst (λ (c : Command). Reads r p.at c) e (reads r p.at) in
      record {
        store = rw n z.store;
        fits = rw n z.fits;
        among = λ q. absurd (true≢false (sym q ∙ o));
        fresh = λ q. absurd (true≢false (sym q ∙ o));
        past = λ _ _. own_run w s m t r p i z e g;
        undone = u;
        clean = cl;
        trailed = tr;
        marked = rw n z.marked;
        short = z.short;
        begun = omega (arith, z.begun);
        few = omega (arith, z.few);
        noted = omega (arith, z.noted);
        numbered = z.numbered;
        stepped = omega (arith, z.stepped);
        hinted = omega (arith, z.hinted);
        within = read.0;
        limit = z.limit;
      }

  pub did_conflict : (m' : List ℕ) → x ≡ Ok (Turn.More (with_hint p Phase.Conflict p.decided)) → hint_of m (stored_at w s r p.given i) ≡ Hint.Conflict → m' ≡ replicate (length m) 0
      → Did w s m t r p s m' t x (on_hint (limits_of b w s m) (state_of w s m r p) i)
  unfolding after_hint
  did_conflict m' q h u =
      let n : length m' ≡ length m = ap length u ∙ length-replicate (length m) 0 in
      let one : length m - 1 + 1 ≡ length m = omega (arith, z.marked) in
      let all : m' ≡ replicate (length m - 1 + 1) 0 = rw one u in
      went w s m t r p _ x s m' t (with_hint p Phase.Conflict p.decided) q
      ((λ j. more (record {
        clauses = stored_of w s r p.given p.count;
        literals = (state_of w s m r p).literals;
        marks = all j;
        phase = Phase.Conflict;
        steps = p.steps;
        hints = p.hints + 1;
        at = p.at + 5;
      }))
      ∙ sym (hint_is ∙ ap (after_hint (limits_of b w s m) (state_of w s m r p)) h))
      (ready_hint m' t Phase.Conflict p.decided refl (λ _. rw n u) n (omega arith)
      (clean_zeros r p.begin (stored_of w s r p.given p.count) m p.at z.clean m' u)
      (trailed_zeros m' t r (length m) (with_hint p Phase.Conflict p.decided) u))
      (omega arith) (onward-same s p (with_hint p Phase.Conflict p.decided) refl refl (omega arith))

  pub did_unit : (l : ℕ) → x ≡ Ok (Turn.More (with_hint p Phase.Hints (p.decided + 1))) → hint_of m (stored_at w s r p.given i) ≡ Hint.Unit l
      → Did w s m t r p s (set m (l / 2) (true_mark l)) (set t p.decided l) x (on_hint (limits_of b w s m) (state_of w s m r p) i)
  unfolding after_hint
  did_unit l q h =
      let m' = set m (l / 2) (true_mark l) in
      let cs = stored_of w s r p.given p.count in
      went w s m t r p _ x s m' (set t p.decided l) (with_hint p Phase.Hints (p.decided + 1)) q
      (sym (hint_is ∙ ap (after_hint (limits_of b w s m) (state_of w s m r p)) h))
      (ready_hint m' (set t p.decided l) Phase.Hints (p.decided + 1) refl (λ y. absurd (true≢false (sym y))) (length-set m (l / 2) (true_mark l)) (omega arith)
      (clean-more r p.begin cs m p.at z.clean m' (length-set m (l / 2) (true_mark l)) (cleared l h))
      (trailed_unit m t r p z.trailed l))
      (omega arith) (onward-same s p (with_hint p Phase.Hints (p.decided + 1)) refl refl (omega arith))
    where
      cleared : (l : ℕ) → hint_of m (stored_at w s r p.given i) ≡ Hint.Unit l
          → clear (set m (l / 2) (true_mark l)) (touches (stored_of w s r p.given p.count) (command_at r p.at)) ≡ clear m (touches (stored_of w s r p.given p.count) (command_at r p.at))
      cleared l h = unfold touches in rw (e, first_at (stored_at w s r p.given) p.count i k) (clear-marked m l (true_mark l) (stored_at w s r p.given i) (unit_in m l (stored_at w s r p.given i) h))
