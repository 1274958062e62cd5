-- A literal: each way out. Assumes nothing.
use Rattle.std.proofs.Common.{◌≡◌, ℕ, ◌+◌, ◌-◌, ◌/◌, ◌<◌, ◌≤◌, Bool, true, false, not, ◌&&◌, eqb, leb, List, [], ◌∷◌, ◌++◌, length, get_or, set, sym, refl, ap, ◌∙◌, subst, inl, inr, true≢false, arith, length-set, get_or-set_other, get_or-set_same, eq-eqb, ne_eqb, eqb-true, le-leb, Result, Ok, Err}
use mathlib.Core.Bool.{and-true, and-false, and_assoc}
use borrow.Author.Tests.{eqb-false, lt-leb}
use Rattle.cnf.specs.Clause.{Clause}
use Rattle.proof_reader.specs.Command.{command_at}
use Rattle.proof_reader.specs.Inner.Literals.{literals_at}
use Rattle.proof_reader.specs.declared.Command.{Command}
use Rattle.proof_reader.proofs.Reading.{Reads, reads}
use Rattle.proof_reader.proofs.Running.{literals_snoc, ones_snoc}
use Rattle.proof_propagation.specs.Marks.{false_mark, undecided}
use Rattle.proof_propagation.specs.Inner.Clear.{clear}
use Rattle.proof_propagation.proofs.Cases.{both}
use Rattle.proof_propagation.proofs.Standing.{In, fits_snoc}
use Rattle.proof_propagation.proofs.Clearing.{clear-marked}
use Rattle.proof_propagation.specs.Inner.Standing.{stored_of}
use Rattle.proof_check.specs.Phase.{going, in_literals}
use Rattle.proof_check.specs.Inner.Undo.{touches}
use Rattle.slices.specs.Guard.{unless}
use Rattle.proof_check.specs.State.{State, Limits, more, size, after_literal}
use Rattle.proof_check.specs.Check.{of_variable, fresh, on_literal}
use Rattle.proof_check.specs.Lent.{limits_of}
use Rattle.proof_check.specs.Inner.Held.{literals_of, state_of, Ready, Did, with_literal}
use Rattle.proof_check.specs.declared.Phase.{Phase}
use Rattle.proof_check.specs.declared.Progress.{Progress}
use Rattle.proof_check.specs.declared.Refusal.{Refusal}
use Rattle.proof_check.specs.declared.Turn.{Turn}
use Rattle.proof_check.proofs.Cleaning.{clean-more}
use Rattle.proof_check.proofs.Trailing.{trailed_literal}
use Rattle.proof_check.proofs.Stopping.{stopped, went, onward-same, taken, literals_go}

fresh_snoc : (c : Clause) (l k : ℕ) → fresh (c ++ (l ∷ [])) k ≡ (fresh c k && not (eqb (l / 2) (k / 2)))
unfolding fresh
fresh_snoc [] l k = and-true (not (eqb (l / 2) (k / 2)))
fresh_snoc (x ∷ c) l k = ap (λ (b : Bool). not (eqb (x / 2) (k / 2)) && b) (fresh_snoc c l k) ∙ sym (and_assoc (not (eqb (x / 2) (k / 2))) (fresh c k) (not (eqb (l / 2) (k / 2))))

-- what is decided before any hint is what was given
fresh-more : (m : List ℕ) (c : Clause) (l : ℕ) → l / 2 < length m → ((k : ℕ) → undecided m k ≡ fresh c k) → (k : ℕ) → undecided (set m (l / 2) (false_mark l)) k ≡ fresh (c ++ (l ∷ [])) k
fresh-more m c l v h k =
    elim (both (eqb (l / 2) (k / 2))) [
      | inl e ↦ rw (fresh_snoc c l k, e, and-false, ← eqb-true (l / 2) (k / 2) e, get_or-set_same m (l / 2) (false_mark l) 0 v) (ne_eqb (false_mark l) 0 (λ q. omega arith))
      | inr e ↦ rw (fresh_snoc c l k, e, and-true, get_or-set_other m (l / 2) (k / 2) (false_mark l) 0 (λ q. eqb-false (l / 2) (k / 2) e (sym q))) (h k)
    ]

takes_literal : (L : Limits) (s : State) (l : ℕ) → in_literals s.phase ≡ true → of_variable L.variables l ≡ true → fresh s.literals l ≡ true
    → leb (size s + 1 + length s.literals + 1) L.words ≡ true → on_literal L s l ≡ more (after_literal s l)
unfolding on_literal unless
takes_literal L s l a b c d = rw (literals_go s.phase a, a, b, c, d) refl

module _ (b : ℕ) (w s m t r : List ℕ) (p : Progress) (l : ℕ) (z : Ready w s m t r p) where
  abbrev Out : Refusal → Type 0
  Out a = Did w s m t r p s m t (Err a) (on_literal (limits_of b w s m) (state_of w s m r p) l)

  pub literal_over : going p.phase ≡ false → Out (Refusal.OutOfPlace (b + p.at))
  unfolding on_literal unless
  literal_over e = stopped w s m t r p _ _ (rw e refl)

  pub literal_late : going p.phase ≡ true → in_literals p.phase ≡ false → Out (Refusal.Literal (b + p.at))
  unfolding on_literal unless
  literal_late e f = stopped w s m t r p _ _ (rw (e, f) refl)

  pub literal_none : in_literals p.phase ≡ true → l < 2 → Out (Refusal.Literal (b + p.at))
  unfolding on_literal unless
  literal_none f k = stopped w s m t r p _ _ (rw (literals_go p.phase f, f, lt-leb 2 l k) refl)

  pub literal_high : in_literals p.phase ≡ true → 2 ≤ l → length m ≤ l / 2 → Out (Refusal.Literal (b + p.at))
  unfolding on_literal unless
  literal_high f k o = stopped w s m t r p _ _ (rw (literals_go p.phase f, f, le-leb 2 l k, lt-leb (l / 2) (length m - 1) (omega (arith, z.marked))) refl)

  pub literal_again : in_literals p.phase ≡ true → 2 ≤ l → l / 2 < length m → (get_or m (l / 2) 0 ≡ 0 → ⊥) → Out (Refusal.Literal (b + p.at))
  unfolding on_literal unless
  literal_again f k o n =
      let a : fresh (literals_of r p) l ≡ false = sym (z.fresh f l) ∙ ne_eqb (get_or m (l / 2) 0) 0 n in
      stopped w s m t r p _ _ (rw (literals_go p.phase f, f, le-leb 2 l k, le-leb (l / 2) (length m - 1) (omega arith), a) refl)

  module _ (f : in_literals p.phase ≡ true) (two : 2 ≤ l) (v : l / 2 < length m) (none : get_or m (l / 2) 0 ≡ 0) where
    free : fresh (literals_of r p) l ≡ true
    free = sym (z.fresh f l) ∙ eq-eqb (get_or m (l / 2) 0) 0 none

    pub literal_full : length w ≤ p.used + 1 + p.literals → Out (Refusal.Full (b + p.at))
    unfolding on_literal unless
    literal_full full =
        stopped w s m t r p _ _
        (rw (literals_go p.phase f, f, le-leb 2 l two, le-leb (l / 2) (length m - 1) (omega arith), free, taken w s m t r p z, lt-leb (p.used + 1 + p.literals + 1) (length w) (omega arith)) refl)

    module _ (e : command_at r p.at ≡ Command.Literal l) where
      read : Reads r p.at (Command.Literal l)
      read = subst (λ (c : Command). Reads r p.at c) e (reads r p.at)

      abbrev m' : List ℕ
      m' = set m (l / 2) (false_mark l)

      literals_are : literals_at r p.begin (p.literals + 1) ≡ literals_of r p ++ (l ∷ [])
      unfolding Reads
      literals_are = literals_snoc r p.begin p.literals p.at (z.among f).0 ∙ ap (λ (k : ℕ). literals_of r p ++ (k ∷ [])) read.2

      touched-same : (cs : List Clause) → clear m' (touches cs (command_at r p.at)) ≡ clear m (touches cs (command_at r p.at))
      unfolding touches In
      touched-same cs = rw e (clear-marked m l (false_mark l) (l ∷ []) (inl refl))

      ready_literal : Ready w s m' t r (with_literal p)
      unfolding Reads
      ready_literal =
          record {
            store = rw length-set z.store;
            fits = rw (length-set, literals_are) (fits_snoc (length m) (literals_of r p) l z.fits two v);
            among = λ _. (omega (arith, (z.among f).0), ones_snoc r p.begin p.literals p.at (z.among f).0 (z.among f).1 read.1);
            fresh = λ _ k. rw literals_are (fresh-more m (literals_of r p) l v (z.fresh f) k);
            past = λ _ q. absurd (true≢false q);
            undone = λ q. absurd (true≢false (sym q));
            clean = clean-more r p.begin (stored_of w s r p.given p.count) m p.at z.clean m' (length-set m (l / 2) (false_mark l)) (touched-same (stored_of w s r p.given p.count));
            trailed = trailed_literal m t r p z.trailed l literals_are;
            marked = rw length-set z.marked;
            short = z.short;
            begun = omega (arith, z.begun);
            few = omega (arith, z.few);
            noted = omega (arith, z.noted);
            numbered = z.numbered;
            stepped = omega (arith, z.stepped);
            hinted = omega (arith, z.hinted);
            within = read.0;
            limit = z.limit;
          }

      pub did_literal : (x : Result Turn Refusal) → x ≡ Ok (Turn.More (with_literal p)) → p.used + 1 + p.literals < length w → Did w s m t r p s m' t x (on_literal (limits_of b w s m) (state_of w s m r p) l)
      did_literal x q room =
          went w s m t r p _ x s m' t (with_literal p) q
          ((λ i. more (record {
            clauses = stored_of w s r p.given p.count;
            literals = literals_are i;
            marks = m';
            phase = Phase.Literals;
            steps = p.steps;
            hints = p.hints;
            at = p.at + 5;
          }))
          ∙ sym (takes_literal (limits_of b w s m) (state_of w s m r p) l f
          (rw (le-leb 2 l two, le-leb (l / 2) (length m - 1) (omega arith)) refl) free
          (rw (taken w s m t r p z) (le-leb (p.used + 1 + p.literals + 1) (length w) (omega arith)))))
          ready_literal (omega arith) (onward-same s p (with_literal p) refl refl (omega arith))
