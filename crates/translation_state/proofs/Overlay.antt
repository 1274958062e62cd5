-- A list laid over another, from place i on: what stands before, after and under it, and one element more. Assumes nothing.
use mathlib.Core.Path.{◌≡◌, refl, sym, ap, ◌∙◌}
use mathlib.Core.List.{List, [], ◌∷◌}
use Prim.Native.Nat.{ℕ, zero, suc, ◌+◌, ◌<◌, ◌≤◌}
use native.Mathlib.Nat.{add-zero, add-suc, suc-add}
use native.Mathlib.Numerals.{add-one}
use native.Mathlib.Omega.{arith}
use lib.ListN.{length, get_or, set, length-set}
use lib.Seq.{sets, get_or-set_same, get_or-set_other}
use Rattle.cnf.proofs.Appending.{sets_append}
use Rattle.arithmetic.specs.Bits.{Bits, tabulate}
use Rattle.arithmetic.proofs.Values.{length-tabulate}

pub sets_before : (vs l : List ℕ) (i j : ℕ) → j < i → get_or (sets l i vs) j 0 ≡ get_or l j 0
sets_before [] l i j h = refl
sets_before (v ∷ vs) l i j h = sets_before vs (set l i v) (suc i) j (omega arith) ∙ get_or-set_other l i j v 0 (λ e. omega arith)

pub sets_after : (vs l : List ℕ) (i j : ℕ) → i + length vs ≤ j → get_or (sets l i vs) j 0 ≡ get_or l j 0
sets_after [] l i j h = refl
sets_after (v ∷ vs) l i j h = sets_after vs (set l i v) (suc i) j (omega arith) ∙ get_or-set_other l i j v 0 (λ e. omega arith)

pub sets_inside : (vs l : List ℕ) (i j : ℕ) → j < length vs → i + j < length l → get_or (sets l i vs) (i + j) 0 ≡ get_or vs j 0
sets_inside [] l i j h k = absurd (omega arith)
sets_inside (v ∷ vs) l i zero h k =
    ap (λ (n : ℕ). get_or (sets (set l i v) (suc i) vs) n 0) (add-zero i)
    ∙ sets_before vs (set l i v) (suc i) i (omega arith) ∙ get_or-set_same l i v 0 (omega arith)
sets_inside (v ∷ vs) l i (suc j) h k =
    ap (λ (n : ℕ). get_or (sets (set l i v) (suc i) vs) n 0) (add-suc i j ∙ sym (suc-add i j))
    ∙ sets_inside vs (set l i v) (suc i) j (omega arith) (omega (arith, length-set l i v))

-- what stands in a place, put there again
pub set_own : (l : List ℕ) (i : ℕ) → set l i (get_or l i 0) ≡ l
set_own [] i = refl
set_own (x ∷ l) zero = refl
set_own (x ∷ l) (suc i) = ap (λ (z : List ℕ). x ∷ z) (set_own l i)

-- one bit more of a table
pub table_more : {l : List ℕ} (l₀ : List ℕ) (f : Bits) (i j v : ℕ) → l ≡ sets l₀ i (tabulate f j) → v ≡ f j → set l (i + j) v ≡ sets l₀ i (tabulate f (j + 1))
unfolding tabulate
table_more l₀ f i j v e q =
    rw (add-one j)
    ((λ k. set (e k) (i + sym (length-tabulate f j) k) (q k)) ∙ sets_append l₀ i (tabulate f j) (f j ∷ []))
