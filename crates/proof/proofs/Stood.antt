-- Clauses that stand one after another are what `check_proof` asks for. Assumes nothing.
use Prim.Native.Nat.{ℕ, zero, suc, ◌+◌, ◌≤◌, ◌<◌}
use mathlib.Core.Path.{◌≡◌, refl, sym, ap, subst, ◌∙◌}
use mathlib.Core.List.{List, [], ◌∷◌, ◌++◌}
use mathlib.Core.Logic.{inl, inr}
use native.Mathlib.Omega.{arith}
use native.Mathlib.Numerals.{add-one}
use native.Mathlib.Nat.{add-zero, zero-add}
use lib.ListN.{length, length-append}
use lib.Seq.{slice, length-slice}
use Rattle.slices.specs.Bytes.{entry}
use Rattle.cnf.specs.Clause.{Clause, flatten}
use Rattle.proof_propagation.specs.Stored.{start_of, end_of, clause_at, first_of, clauses_of}
use Rattle.proof_propagation.specs.Inner.Standing.{HasMarks}
use Rattle.proof_propagation.proofs.Standing.{stored_given, stored_all_given}
use Rattle.proof_propagation.proofs.Cases.{both, from_or}
use Rattle.proof_check.specs.Inner.Begins.{Begins}
use Rattle.proof.specs.Fit.{end_at, clause_fits, standing}
use Rattle.std.proofs.Common.{Option, Some, None}
use Rattle.proof.proofs.Fitting.{FitsAt, clause_fits_lem, fit_fits}

-- the clauses from number i on, the first first
unfoldable clauses_from : (w s : List ℕ) → (n i : ℕ) → List Clause
clauses_from w s zero i = []
clauses_from w s (suc n) i = clause_at w s i ∷ clauses_from w s n (suc i)

from_snoc : (w s : List ℕ) (n i : ℕ) → clauses_from w s (suc n) i ≡ clauses_from w s n i ++ (clause_at w s (i + n) ∷ [])
unfolding clauses_from
from_snoc w s zero i = rw add-zero refl
from_snoc w s (suc n) i =
    ap (λ (x : List Clause). clause_at w s i ∷ x) (from_snoc w s n (suc i))
    ∙ ap (λ (k : ℕ). clause_at w s i ∷ (clauses_from w s n (suc i) ++ (clause_at w s k ∷ []))) (omega arith)

from_start : (w s : List ℕ) (n : ℕ) → clauses_from w s n 0 ≡ clauses_of w s n
unfolding first_of
from_start w s zero = unfold clauses_from in refl
from_start w s (suc n) =
    from_snoc w s n 0 ∙ ap (λ (k : ℕ). clauses_from w s n 0 ++ (clause_at w s k ∷ [])) (zero-add n)
    ∙ ap (λ (x : List Clause). x ++ (clause_at w s n ∷ [])) (from_start w s n)

-- what is known of n clauses that stand from number i and an offset on
record Laid (w s : List ℕ) (marks n i at used : ℕ) : Type 0 where
  size : used ≡ at + length (flatten (clauses_from w s n i))
  room : used ≤ length w
  entries : i + n ≤ length s
  inside : (j : ℕ) → i ≤ j → j < i + n → end_of w s j ≤ length w
  fits : (j : ℕ) → i ≤ j → j < i + n → HasMarks marks (clause_at w s j)

module _ (w s : List ℕ) (v : ℕ) where
  -- one clause more, before the others
  laid_more : (n i at used : ℕ) → FitsAt w s v i at → Laid w s (v + 1) n (suc i) (end_at w at) used → Laid w s (v + 1) (suc n) i at used
  unfolding clauses_from clause_at
  laid_more n i at used f t =
      let c = slice (start_of s i + 1) (end_of w s i) w in
      let rest = clauses_from w s n (suc i) in
      let is : c ≡ slice (at + 1) (end_at w at) w = rw f.starts refl in
      let long : length c ≡ entry w at = ap length is ∙ length-slice (at + 1) (end_at w at) w f.inside ∙ omega arith in
      record {
        size = omega (arith, t.size, long, length-append c (flatten rest));
        room = t.room;
        entries = omega (arith, t.entries);
        inside = λ j a b. elim (from_or i j a) [
          | inl q ↦ rw (q, f.starts) f.inside
          | inr k ↦ t.inside j k (omega arith)
        ];
        fits = λ j a b. elim (from_or i j a) [
          | inl q ↦ rw (q, f.starts) (fit_fits v (slice (at + 1) (end_at w at) w) f.literals)
          | inr k ↦ t.fits j k (omega arith)
        ];
      }

  laid_none : (i at : ℕ) → at ≤ length w → i ≤ length s → Laid w s (v + 1) zero i at at
  unfolding clauses_from
  laid_none i at h k =
      record { size = sym (add-zero at); room = h; entries = omega arith; inside = λ j a b. absurd (omega arith); fits = λ j a b. absurd (omega arith) }

  laid_by : (n i at used : ℕ) → at ≤ length w → i ≤ length s → standing w s v n i at ≡ Some used → Laid w s (v + 1) n i at used
  unfolding standing
  laid_by zero i at used h k e = let q : at ≡ used = cc in subst (Laid w s (v + 1) zero i at) q (laid_none i at h k)
  laid_by (suc n) i at used h k e =
      elim (both (clause_fits w s v i at)) [
        | inl x ↦ let f = clause_fits_lem w s v i at x in
            let g : standing w s v n (i + 1) (end_at w at) ≡ Some used = sym (rw x refl) ∙ e in
            laid_more n i at used f (laid_by n (suc i) (end_at w at) used f.inside f.listed (subst (λ (j : ℕ). standing w s v n j (end_at w at) ≡ Some used) (add-one i) g))
        | inr x ↦ let g : ◌≡◌ {A = Option ℕ} None (Some used) = sym (rw x refl) ∙ e in cc
      ]

-- what `check_proof` asks for
pub begins-stood : (w s m r : List ℕ) (from count used variables : ℕ) → length w ≤ 16777216 → length m ≡ variables + 1 → from ≤ length r → length r ≤ 16777216
    → standing w s variables count 0 0 ≡ Some used → Begins r from 0 count used w s m
begins-stood w s m r from count used variables short one within limit e =
    let t = laid_by w s variables count 0 0 used (omega arith) (omega arith) e in
    record {
      store = record {
        entries = omega (arith, t.entries);
        over = omega arith;
        room = t.room;
        each = λ i h. record {
          listed = omega (arith, t.entries);
          inside = λ _. t.inside i (omega arith) (omega arith);
          runs = λ k. absurd (omega arith);
          fits = rw (one, stored_given w s r count i h) (t.fits i (omega arith) (omega arith));
        };
        sized = t.size ∙ zero-add (length (flatten (clauses_from w s count 0))) ∙ ap (λ (x : List Clause). length (flatten x)) (from_start w s count ∙ sym (stored_all_given w s r count));
      };
      marked = omega arith;
      short = short;
      within = within;
      limit = limit;
      based = omega arith;
    }
