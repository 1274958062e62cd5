-- A close: each way out. The step's literals become the next clause. Assumes nothing.
use Rattle.std.proofs.Common.{◌≡◌, ℕ, ◌+◌, ◌-◌, ◌/◌, ◌<◌, ◌≤◌, true, false, ltb, leb, List, [], ◌∷◌, ◌++◌, length, set, replicate, sym, refl, ap, ◌∙◌, subst, inl, inr, true≢false, add-one, arith, length-append, length-set, get_or-set_other, get_or-set_same, le-ltb, lt-ltb, eq-eqb, le-leb, Result, Ok, Err}
use borrow.Author.Tests.{lt-leb}
use Rattle.cnf.specs.Clause.{Clause, flatten}
use Rattle.cnf.proofs.Appending.{flatten_append}
use Rattle.slices.proofs.Zeroing.{get_d_zeros}
use Rattle.proof_reader.specs.Command.{command_at}
use Rattle.proof_reader.specs.Inner.Literals.{literals_at, run_at}
use Rattle.proof_reader.specs.Inner.Runs.{Ones, RunsFor}
use Rattle.proof_reader.specs.declared.Command.{Command}
use Rattle.proof_reader.proofs.Reading.{Reads, reads}
use Rattle.proof_reader.proofs.Running.{run_is, run_length}
use Rattle.proof_propagation.specs.Marks.{undecided}
use Rattle.proof_propagation.specs.Stored.{start_of, first_of}
use Rattle.proof_propagation.specs.Inner.Standing.{stored_at, stored_of, HasMarks, Stands}
use Rattle.proof_propagation.proofs.Cases.{below_or}
use Rattle.proof_propagation.proofs.Standing.{first-length, first-same, stored_step, stored_same}
use Rattle.proof_check.specs.Phase.{going, in_literals, conflicted, phase_after}
use Rattle.slices.specs.Guard.{unless}
use Rattle.proof_check.specs.State.{State, Limits, more, size, after_close}
use Rattle.proof_check.specs.Check.{fresh, on_close}
use Rattle.proof_check.specs.Lent.{limits_of}
use Rattle.proof_check.specs.Inner.Held.{Store, literals_of, state_of, Ready, Onward, Did, with_close}
use Rattle.proof_check.specs.declared.Phase.{Phase}
use Rattle.proof_check.specs.declared.Progress.{Progress}
use Rattle.proof_check.specs.declared.Refusal.{Refusal}
use Rattle.proof_check.specs.declared.Turn.{Turn}
use Rattle.proof_check.proofs.Cleaning.{clean_start}
use Rattle.proof_check.proofs.Trailing.{trailed_zeros}
use Rattle.proof_check.proofs.Stopping.{stopped, went, taken, conflict_goes, conflict_past, phase_open, phase-goes-on}

flatten_snoc : (cs : List Clause) (c : Clause) → length (flatten (cs ++ (c ∷ []))) ≡ length (flatten cs) + 1 + length c
flatten_snoc cs c = ap length (flatten_append cs (c ∷ [])) ∙ length-append (flatten cs) (flatten (c ∷ [])) ∙ omega (arith, length-append c [])

takes_close : (L : Limits) (s : State) → conflicted s.phase ≡ true → leb (size s + 1 + length s.literals) L.words ≡ true → ltb (length s.clauses) L.starts ≡ true → on_close L s ≡ more (after_close L s)
unfolding on_close unless
takes_close L s a b c = rw (conflict_goes s.phase a, a, b, c) refl

-- where no literal was given and no variable is decided
pub zeros_undecided : (m : List ℕ) (n l : ℕ) → m ≡ replicate n 0 → undecided m l ≡ fresh [] l
unfolding fresh
zeros_undecided m n l e = rw e (eq-eqb _ 0 (get_d_zeros n (l / 2)))

-- what a close is turned down for
module _ (b : ℕ) (w s m t r : List ℕ) (p : Progress) where
  abbrev Out : Refusal → Type 0
  Out a = Did w s m t r p s m t (Err a) (on_close (limits_of b w s m) (state_of w s m r p))

  pub close_over : going p.phase ≡ false → Out (Refusal.OutOfPlace (b + p.at))
  unfolding on_close unless
  close_over e = stopped w s m t r p _ _ (rw e refl)

  pub close_early : going p.phase ≡ true → conflicted p.phase ≡ false → Out (Refusal.NoConflict (b + p.at))
  unfolding on_close unless
  close_early e f = stopped w s m t r p _ _ (rw (e, f) refl)

  module _ (z : Ready w s m t r p) (f : conflicted p.phase ≡ true) where
    pub full_words : length w < p.used + 1 + p.literals → Out (Refusal.Full (b + p.at))
    unfolding on_close unless
    full_words k = stopped w s m t r p _ _ (rw (conflict_goes p.phase f, f, taken w s m t r p z, lt-leb (p.used + 1 + p.literals) (length w) k) refl)

    pub full_starts : p.used + 1 + p.literals ≤ length w → length s ≤ p.count → Out (Refusal.Full (b + p.at))
    unfolding on_close unless
    full_starts k l =
        stopped w s m t r p _ _
        (rw (conflict_goes p.phase f, f, taken w s m t r p z, le-leb (p.used + 1 + p.literals) (length w) k, first-length (stored_at w s r p.given) p.count, le-ltb p.count (length s) l) refl)

module _ (w s m t r : List ℕ) (p : Progress) (z : Ready w s m t r p) (f : conflicted p.phase ≡ true) (room : p.used + 1 + p.literals ≤ length w) (free : p.count < length s) where
  abbrev s' : List ℕ
  s' = set s p.count p.begin

  run : RunsFor r p.begin p.literals
  run = z.past (conflict_goes p.phase f) (conflict_past p.phase f)

  start_kept : (i : ℕ) → i < p.count → start_of s' i ≡ start_of s i
  start_kept i k = get_or-set_other s p.count i p.begin 0 (omega arith)

  start_new : start_of s' p.count ≡ p.begin
  start_new = get_or-set_same s p.count p.begin 0 free

  old_clause : (i : ℕ) → i < p.count → stored_at w s' r p.given i ≡ stored_at w s r p.given i
  old_clause i k = stored_same w s s' r p.given i (start_kept i k)

  new_clause : stored_at w s' r p.given p.count ≡ literals_of r p
  new_clause = stored_step w s' r p.given p.count z.store.over ∙ ap (run_at r) start_new ∙ run_is r p.begin p.literals run

  new_clauses : stored_of w s' r p.given (p.count + 1) ≡ stored_of w s r p.given p.count ++ (literals_of r p ∷ [])
  unfolding first_of
  new_clauses = rw (add-one, first-same (stored_at w s' r p.given) (stored_at w s r p.given) p.count old_clause, new_clause) refl

  old_stands : (i : ℕ) → i < p.count → Stands w s' r p.given (length m) i
  old_stands i k =
      let a = z.store.each i k in
      record {
        listed = rw length-set a.listed;
        inside = rw (start_kept i k) a.inside;
        runs = rw (start_kept i k) a.runs;
        fits = rw (old_clause i k) a.fits;
      }

  new_stands : Stands w s' r p.given (length m) p.count
  new_stands =
      record {
        listed = rw length-set free;
        inside = λ h. absurd (omega (arith, z.store.over));
        runs = λ _. rw start_new (p.literals, run);
        fits = rw new_clause z.fits;
      }

  new_store : Store w s' r p.given (length m) (p.count + 1) (p.used + 1 + p.literals)
  new_store =
      record {
        entries = rw length-set (omega arith);
        over = omega (arith, z.store.over);
        room = room;
        each = λ i k. elim (below_or i p.count (omega arith)) [
          | inl y ↦ old_stands i y
          | inr q ↦ rw q new_stands
        ];
        sized = rw (new_clauses, flatten_snoc (stored_of w s r p.given p.count) (literals_of r p)) (omega (arith, run_length r p.begin p.literals, z.store.sized));
      }

  ready_close : (phase : Phase) → conflicted phase ≡ false → going phase ≡ in_literals phase → command_at r p.at ≡ Command.Close → Ready w s' m t r (with_close p phase)
  unfolding Reads literals_at Ones HasMarks
  ready_close phase o g e =
      let read : Reads r p.at Command.Close = subst (λ (c : Command). Reads r p.at c) e (reads r p.at) in
      record {
        store = new_store;
        fits = tt;
        among = λ _. (omega arith, tt);
        fresh = λ _ l. zeros_undecided m (length m) l (z.undone f);
        past = λ a b. absurd (true≢false (sym a ∙ g ∙ b));
        undone = λ q. absurd (true≢false (sym q ∙ o));
        clean = clean_start r (p.at + 1) (stored_of w s' r p.given (p.count + 1)) m (p.at + 1) refl (z.undone f);
        trailed = trailed_zeros m t r (length m) (with_close p phase) (z.undone f);
        marked = z.marked;
        short = z.short;
        begun = omega arith;
        few = omega arith;
        noted = omega arith;
        numbered = omega (arith, z.numbered);
        stepped = omega (arith, z.stepped);
        hinted = omega (arith, z.hinted);
        within = read.0;
        limit = z.limit;
      }

  onward_close : (phase : Phase) → Onward s s' p (with_close p phase)
  onward_close phase =
      record {
        given = refl;
        more = omega arith;
        begun = omega (arith, z.begun);
        before = start_kept;
        between = λ i h k. let e : i ≡ p.count = omega arith in rw e (omega (arith, start_new));
        after = λ i h. get_or-set_other s p.count i p.begin 0 (omega arith);
      }

  pub did_close : (b : ℕ) (phase : Phase) (x : Result Turn Refusal) → x ≡ Ok (Turn.More (with_close p phase)) → phase ≡ phase_after p.literals → command_at r p.at ≡ Command.Close
      → Did w s m t r p s' m t x (on_close (limits_of b w s m) (state_of w s m r p))
  unfolding literals_at
  did_close b phase x q h e =
      let one : length m - 1 + 1 ≡ length m = omega (arith, z.marked) in
      let all : m ≡ replicate (length m - 1 + 1) 0 = rw one (z.undone f) in
      let h-is : phase ≡ phase_after (length (literals_of r p)) = rw (run_length r p.begin p.literals) h in
      went w s m t r p _ x s' m t (with_close p phase) q
      ((λ i. more (record {
        clauses = new_clauses i;
        literals = [];
        marks = all i;
        phase = h-is i;
        steps = p.steps + 1;
        hints = p.hints;
        at = p.at + 1;
      }))
      ∙ sym (takes_close (limits_of b w s m) (state_of w s m r p) f
      (rw (taken w s m t r p z) (le-leb (p.used + 1 + p.literals) (length w) room))
      (rw first-length (lt-ltb p.count (length s) free))))
      (ready_close phase (rw h (phase_open p.literals)) (rw h (phase-goes-on p.literals)) e)
      (omega arith) (onward_close phase)
