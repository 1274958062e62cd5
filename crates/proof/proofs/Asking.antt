-- A check that anyone may ask for: each way out. Assumes nothing.
use Prim.Native.Nat.{ℕ, ◌+◌, ◌<◌, ◌≤◌}
use mathlib.Core.Path.{◌≡◌, refl, sym, ap, subst, ◌∙◌}
use mathlib.Core.List.{List, ◌++◌}
use mathlib.Core.Bool.{false, cond}
use lib.ListN.{length, take, drop, replicate, take-append-drop}
use borrow.Author.Tests.{le-leb, lt-leb}
use Rattle.slices.specs.Lent.{usable, zeroed}
use Rattle.slices.proofs.Used.{used-length, used-zeroed}
use Rattle.cnf.specs.Clause.{Clause}
use Rattle.proof_propagation.specs.Stored.{clauses_of}
use Rattle.proof_check.specs.State.{Limits}
use Rattle.proof_check.specs.Check.{check_proof}
use Rattle.proof_check.specs.declared.Tally.{Tally}
use Rattle.std.proofs.Common.{Option, Some, None, Result, Err}
use Rattle.std.specs.Option.{is_some}
use Rattle.proof.specs.Fit.{standing}
use Rattle.proof.specs.Checking.{part, checked_by, Checking, fits, verdict_on, checking, Checks, Unsatisfied}
use Rattle.proof.specs.Inner.Parts.{in_parts, InParts}
use Rattle.proof.specs.declared.Refusal.{Refusal}

pub unsatisfied_unfit : (cs : List Clause) → Unsatisfied cs (Err Refusal.Unfit)
unsatisfied_unfit cs = record { none = λ tally e σ. cc }

-- ---- over the whole buffers

module _ (words starts marks r : List ℕ) (from clauses variables : ℕ) where
  module _ (f : fits marks r from variables ≡ false) where
    pub check_unfit : Checks words starts marks r from clauses variables starts marks (Err Refusal.Unfit)
    unfolding checking
    check_unfit = record { equal = rw f refl }

  pub too_long : 16777216 < length r → fits marks r from variables ≡ false
  too_long h = rw (lt-leb (length r) 16777216 h) refl

  pub too_far : length r ≤ 16777216 → length r < from → fits marks r from variables ≡ false
  too_far k h = rw (le-leb (length r) 16777216 k, lt-leb from (length r) h) refl

  pub too_few : length r ≤ 16777216 → from ≤ length r → usable marks < variables + 1 → fits marks r from variables ≡ false
  too_few k l h = rw (le-leb (length r) 16777216 k, le-leb from (length r) l, lt-leb (variables + 1) (usable marks) h) refl

  module _ (k : length r ≤ 16777216) (l : from ≤ length r) (h : variables + 1 ≤ usable marks) where
    abbrev w : List ℕ
    w = part words

    abbrev s : List ℕ
    s = part starts

    abbrev m : List ℕ
    m = part marks

    -- what is left in a part, with what lies beyond it
    beyond : Checking → Checking
    beyond c = record { checked = c.checked; starts = c.starts ++ drop (usable starts) starts; marks = c.marks ++ drop (usable marks) marks }

    abbrev done : Checking
    done = record { checked = checked_by (verdict_on words starts r from clauses variables); starts = zeroed starts; marks = zeroed marks }

    whole : (x : Option ℕ) → beyond (in_parts w s m r from clauses variables x) ≡ cond (is_some x) done (record { checked = (Err Refusal.Unfit); starts = starts; marks = marks })
    unfolding beyond
    whole (Some used) =
        let room : Limits = record { variables = variables; words = length w; starts = length s; base = 0 } in
        let lw : length w ≡ usable words = sym (used-length words (usable words) refl) in
        let ls : length s ≡ usable starts = sym (used-length starts (usable starts) refl) in
        λ i. record {
          checked = checked_by (check_proof (clauses_of w s clauses) (record { variables = variables; words = lw i; starts = ls i; base = 0 }) r from).verdict;
          starts = used-zeroed starts (usable starts) refl (replicate (length s) 0) refl i;
          marks = used-zeroed marks (usable marks) refl (replicate (length m) 0) refl i;
        }
    whole None =
        λ i. record {
          checked = (Err Refusal.Unfit);
          starts = take-append-drop (usable starts) starts i;
          marks = take-append-drop (usable marks) marks i;
        }

    pub check_whole : (s' m' : List ℕ) (c : Result Tally Refusal) → InParts w s m r from clauses variables s' m' c
        → Checks words starts marks r from clauses variables (s' ++ drop (usable starts) starts) (m' ++ drop (usable marks) marks) c
    unfolding checking beyond
    check_whole s' m' c p = record {
      equal = rw (le-leb (length r) 16777216 k, le-leb from (length r) l, le-leb (variables + 1) (usable marks) h)
          (ap beyond p.equal ∙ whole (standing w s variables clauses 0 0));
    }

    -- the same where the numbers of entries used are given
    pub check_over : (kw ks km : ℕ) → kw ≡ usable words → ks ≡ usable starts → km ≡ usable marks → (s' m' : List ℕ) (c : Result Tally Refusal)
        → InParts (take kw words) (take ks starts) (take km marks) r from clauses variables s' m' c
        → Checks words starts marks r from clauses variables (s' ++ drop ks starts) (m' ++ drop km marks) c
    check_over kw ks km ew es em s' m' c p =
        rw (es, em) (check_whole s' m' c (rw (← ew, ← es, ← em) p))

pub unsatisfied_over : (words starts : List ℕ) (clauses kw ks : ℕ) → kw ≡ usable words → ks ≡ usable starts → (c : Result Tally Refusal) → Unsatisfied (clauses_of (take kw words) (take ks starts) clauses) c
    → Unsatisfied (clauses_of (part words) (part starts) clauses) c
unsatisfied_over words starts clauses kw ks ew es c p =
    subst (λ (k : ℕ). Unsatisfied (clauses_of (take k words) (part starts) clauses) c) ew (subst (λ (k : ℕ). Unsatisfied (clauses_of (take kw words) (take k starts) clauses) c) es p)
