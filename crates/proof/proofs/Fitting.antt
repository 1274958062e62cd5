-- Looking whether clauses stand: each way out, and what is known where they do. Assumes nothing.
use Prim.Native.Nat.{ℕ, suc, ◌+◌, ◌-◌, ◌/◌, ◌<◌, ◌≤◌}
use mathlib.Core.Path.{◌≡◌, refl}
use mathlib.Core.List.{List, [], ◌∷◌}
use mathlib.Core.Bool.{Bool, true, false, ◌&&◌}
use native.Mathlib.Omega.{arith}
use lib.ListN.{length}
use lib.Seq.{slice}
use lib.Dec.{ltb, leb, eqb}
use borrow.Author.Tests.{leb-true, ltb-true, eqb-true, lt-ltb, le-ltb, le-leb, lt-leb, eq-eqb, ne_eqb}
use Rattle.slices.specs.Bytes.{entry}
use Rattle.proof_propagation.specs.Inner.Standing.{HasMarks}
use Rattle.proof_propagation.proofs.Cases.{and_true_l, and_true_r}
use Rattle.proof_check.specs.Check.{of_variable}
use Rattle.proof.specs.Fit.{literals_fit, end_at, clause_fits, standing}
use Rattle.std.proofs.Common.{Some, None}

-- ---- the literals of a clause

-- literals that fit are of variables that have a mark
pub fit_fits : (n : ℕ) (c : List ℕ) → literals_fit n c ≡ true → HasMarks (n + 1) c
unfolding HasMarks
fit_fits n [] e = tt
fit_fits n (l ∷ c) e =
    let v = and_true_l (of_variable n l) (literals_fit n c) e in
    let a = leb-true 2 l (and_true_l (leb 2 l) (leb (l / 2) n) v) in
    let b = leb-true (l / 2) n (and_true_r (leb 2 l) (leb (l / 2) n) v) in
    ((a, omega arith), fit_fits n c (and_true_r (of_variable n l) (literals_fit n c) e))

-- ---- a clause

module _ (w s : List ℕ) (n i at : ℕ) where
  pub clause_unlisted : length s ≤ i → false ≡ clause_fits w s n i at
  unfolding clause_fits
  clause_unlisted h = rw (le-ltb i (length s) h) refl

  module _ (h : i < length s) where
    pub clause_elsewhere : (entry s i ≡ at → ⊥) → false ≡ clause_fits w s n i at
    unfolding clause_fits
    clause_elsewhere k = rw (lt-ltb i (length s) h, ne_eqb (entry s i) at k) refl

    module _ (k : entry s i ≡ at) where
      pub clause_outside : length w < end_at w at → false ≡ clause_fits w s n i at
      unfolding clause_fits
      clause_outside l = rw (lt-ltb i (length s) h, eq-eqb (entry s i) at k, lt-leb (end_at w at) (length w) l) refl

      pub clause_by : end_at w at ≤ length w → (b : Bool) → b ≡ literals_fit n (slice (at + 1) (end_at w at) w) → b ≡ clause_fits w s n i at
      unfolding clause_fits
      clause_by l b e = rw (lt-ltb i (length s) h, eq-eqb (entry s i) at k, le-leb (end_at w at) (length w) l) e

  -- what is known of one that fits
  pub record FitsAt : Type 0 where
    pub listed : i < length s
    pub starts : entry s i ≡ at
    pub inside : end_at w at ≤ length w
    pub literals : literals_fit n (slice (at + 1) (end_at w at) w) ≡ true

  pub clause_fits_lem : clause_fits w s n i at ≡ true → FitsAt
  unfolding clause_fits
  clause_fits_lem e =
      let a = ltb i (length s) in
      let b = eqb (entry s i) at in
      let c = leb (end_at w at) (length w) in
      let d = literals_fit n (slice (at + 1) (end_at w at) w) in
      let abc = and_true_l (a && b && c) d e in
      let ab = and_true_l (a && b) c abc in
      record {
        listed = ltb-true i (length s) (and_true_l a b ab);
        starts = eqb-true (entry s i) at (and_true_r a b ab);
        inside = leb-true (end_at w at) (length w) (and_true_r (a && b) c abc);
        literals = and_true_r (a && b && c) d e;
      }

-- ---- the clauses

module _ (w s : List ℕ) (n : ℕ) where
  pub stand_next : (count i at to : ℕ) → i < count → clause_fits w s n i at ≡ true → to ≡ end_at w at → standing w s n (count - (i + 1)) (i + 1) to ≡ standing w s n (count - i) i at
  unfolding standing
  stand_next count i at to h e q =
      let k : count - i ≡ suc (count - (i + 1)) = omega arith in
      rw (k, e, q) refl

  pub stand_not : (count i at : ℕ) → i < count → clause_fits w s n i at ≡ false → standing w s n (count - i) i at ≡ None
  unfolding standing
  stand_not count i at h e =
      let k : count - i ≡ suc (count - (i + 1)) = omega arith in
      rw (k, e) refl

  pub stand_end : (count i at : ℕ) → i ≤ count → count ≤ i → standing w s n (count - i) i at ≡ Some at
  unfolding standing
  stand_end count i at h k = let e : count - i ≡ 0 = omega arith in rw e refl
