-- Literals one after the other in a proof. Assumes nothing.
use Prim.Native.Nat.{ℕ, zero, suc, ◌+◌, ◌*◌, ◌<◌, ◌≤◌}
use mathlib.Core.Path.{◌≡◌, refl, sym, ap, ◌∙◌}
use mathlib.Core.List.{List, [], ◌∷◌, ◌++◌}
use native.Mathlib.Omega.{arith}
use native.Mathlib.Numerals.{add-one}
use lib.ListN.{length, length-append, get_or-append, get_or-eq_default}
use borrow.Author.Tests.{ne_eqb}
use Rattle.slices.specs.Bytes.{entry, word}
use Rattle.proof_reader.specs.Inner.Literals.{literals_at, run_up_to, run_at}
use Rattle.proof_reader.specs.Inner.Runs.{Ones, RunsFor, Runs}

-- a byte that is 1 is there
one_there : (r : List ℕ) (at n : ℕ) → length r ≤ at + n → entry r at ≡ 1 → 0 < n
one_there r at zero h e = let z : entry r at ≡ 0 = get_or-eq_default r 0 {n = at} (omega arith) in absurd (omega arith)
one_there r at (suc n) h e = omega arith

up_more : (r : List ℕ) (at n : ℕ) → entry r at ≡ 1 → run_up_to r at (suc n) ≡ word r (at + 1) ∷ run_up_to r (at + 5) n
unfolding run_up_to
up_more r at n e = rw e refl

up_none : (r : List ℕ) (at n : ℕ) → (entry r at ≡ 1 → ⊥) → run_up_to r at n ≡ []
unfolding run_up_to
up_none r at zero h = refl
up_none r at (suc n) h = rw (ne_eqb (entry r at) 1 h) refl

-- enough is enough
up_steady : (r : List ℕ) (at n k : ℕ) → length r ≤ at + n → length r ≤ at + k → run_up_to r at n ≡ run_up_to r at k
unfolding run_up_to
up_steady r at zero k a b = sym (up_none r at k (λ e. let z = one_there r at 0 a e in omega arith))
up_steady r at (suc n) zero a b = up_none r at (suc n) (λ e. let z = one_there r at 0 b e in omega arith)
up_steady r at (suc n) (suc k) a b = rw (up_steady r (at + 5) n k (omega arith) (omega arith)) refl

module _ (r : List ℕ) (at : ℕ) where
  -- a literal more, and none
  pub run_more : entry r at ≡ 1 → run_at r at ≡ word r (at + 1) ∷ run_at r (at + 5)
  unfolding run_at
  run_more e =
      up_steady r at (length r) (suc (length r)) (omega arith) (omega arith)
      ∙ up_more r at (length r) e

  pub run_none : (entry r at ≡ 1 → ⊥) → run_at r at ≡ []
  unfolding run_at
  run_none h = up_none r at (length r) h

pub run-read : (r : List ℕ) (at l : ℕ) → entry r at ≡ 1 → l ≡ word r (at + 1) → run_at r at ≡ l ∷ run_at r (at + 5)
run-read r at l e q = rw q (run_more r at e)

-- a run has so many literals
pub run_is : (r : List ℕ) (at n : ℕ) → RunsFor r at n → run_at r at ≡ literals_at r at n
unfolding RunsFor literals_at
run_is r at zero h = run_none r at h.1
run_is r at (suc n) h = run_more r at h.0 ∙ ap (λ (c : List ℕ). word r (at + 1) ∷ c) (run_is r (at + 5) n h.1)

-- it lies in the proof, with the byte that follows it
pub runs-within : (r : List ℕ) (at n : ℕ) → RunsFor r at n → at + n * 5 < length r
unfolding RunsFor
runs-within r at zero h = let x = h.0 in omega arith
runs-within r at (suc n) h = let x = runs-within r (at + 5) n h.1 in omega arith

pub runs_here : (r : List ℕ) (at : ℕ) → Runs r at → at < length r
runs_here r at h = let x = runs-within r at h.0 h.1 in omega arith

pub runs-next : (r : List ℕ) (at : ℕ) → Runs r at → entry r at ≡ 1 → Runs r (at + 5)
unfolding RunsFor
runs-next r at (zero, h) e = absurd (h.1 e)
runs-next r at (suc n, h) e = (n, h.1)

pub run_length : (r : List ℕ) (at n : ℕ) → length (literals_at r at n) ≡ n
unfolding literals_at
run_length r at zero = refl
run_length r at (suc n) = ap suc (run_length r (at + 5) n)

-- ---- one literal more at the end

snoc_suc : (r : List ℕ) (at n to : ℕ) → to ≡ at + n * 5 → literals_at r at (suc n) ≡ literals_at r at n ++ (word r (to + 1) ∷ [])
unfolding literals_at
snoc_suc r at zero to e = let q : to ≡ at = omega arith in rw q refl
snoc_suc r at (suc n) to e = ap (λ (c : List ℕ). word r (at + 1) ∷ c) (snoc_suc r (at + 5) n to (omega arith))

pub literals_snoc : (r : List ℕ) (at n to : ℕ) → to ≡ at + n * 5 → literals_at r at (n + 1) ≡ literals_at r at n ++ (word r (to + 1) ∷ [])
literals_snoc r at n to e = rw add-one (snoc_suc r at n to e)

ones_suc : (r : List ℕ) (at n to : ℕ) → to ≡ at + n * 5 → Ones r at n → entry r to ≡ 1 → Ones r at (suc n)
unfolding Ones
ones_suc r at zero to e h q = let k : at ≡ to = omega arith in (rw k q, tt)
ones_suc r at (suc n) to e h q = (h.0, ones_suc r (at + 5) n to (omega arith) h.1 q)

pub ones_snoc : (r : List ℕ) (at n to : ℕ) → to ≡ at + n * 5 → Ones r at n → entry r to ≡ 1 → Ones r at (n + 1)
ones_snoc r at n to e h q = rw add-one (ones_suc r at n to e h q)

pub ones_run : (r : List ℕ) (at n to : ℕ) → to ≡ at + n * 5 → Ones r at n → to < length r → (entry r to ≡ 1 → ⊥) → RunsFor r at n
unfolding Ones RunsFor
ones_run r at zero to e h k q = let z : at ≡ to = omega arith in (rw z k, rw z q)
ones_run r at (suc n) to e h k q = (h.0, ones_run r (at + 5) n to (omega arith) h.1 k q)

-- ---- bytes that come after change nothing

module _ (r x : List ℕ) where
  pub entry_append : (at : ℕ) → at < length r → entry (r ++ x) at ≡ entry r at
  entry_append at h = get_or-append r x 0 at h

  pub word_append : (at : ℕ) → at + 4 ≤ length r → word (r ++ x) at ≡ word r at
  unfolding word
  word_append at h = rw (entry_append at (omega arith), entry_append (at + 1) (omega arith), entry_append (at + 2) (omega arith), entry_append (at + 3) (omega arith)) refl

  literals_append : (at n : ℕ) → at + n * 5 ≤ length r → literals_at (r ++ x) at n ≡ literals_at r at n
  unfolding literals_at
  literals_append at zero h = refl
  literals_append at (suc n) h = rw (word_append (at + 1) (omega arith), literals_append (at + 5) n (omega arith)) refl

  runs_append : (at n : ℕ) → RunsFor r at n → RunsFor (r ++ x) at n
  unfolding RunsFor
  runs_append at zero h = (rw length-append (let k = h.0 in omega arith), rw (entry_append at h.0) h.1)
  runs_append at (suc n) h =
      let k = runs-within r (at + 5) n h.1 in
      (rw (entry_append at (omega arith)) h.0, runs_append (at + 5) n h.1)

  pub run_append : (at : ℕ) → Runs r at → (Runs (r ++ x) at) × (run_at (r ++ x) at ≡ run_at r at)
  run_append at h =
      let k = runs-within r at h.0 h.1 in
      let a = runs_append at h.0 h.1 in
      ((h.0, a), run_is (r ++ x) at h.0 a ∙ literals_append at h.0 (omega arith) ∙ sym (run_is r at h.0 h.1))
