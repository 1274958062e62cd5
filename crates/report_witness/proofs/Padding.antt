-- Bytes and words of a report, read one after another into an array. Assumes nothing.
use mathlib.Core.Path.{◌≡◌, refl, sym, ap, ◌∙◌}
use mathlib.Core.List.{List, [], ◌∷◌, ◌++◌, append_assoc}
use Prim.Native.Nat.{ℕ, zero, suc, ◌+◌, ◌-◌, ◌*◌, ◌<◌, ◌≤◌}
use native.Mathlib.Nat.{add-zero}
use native.Mathlib.Numerals.{add-one}
use native.Mathlib.Omega.{arith}
use lib.ListN.{length, set, take, drop, replicate, length-append, length-drop}
use Rattle.std.proofs.lemmas.List.{drop-replicate}
use lib.Seq.{set_at, length-take-le}
use Rattle.slices.specs.Bytes.{word}
use Rattle.report_witness.specs.Lead.{words_from, padded}

-- one entry more
more : (n : ℕ) (xs : List ℕ) (i : ℕ) → length xs ≡ i → i < n → (v : ℕ) → set (padded n xs) i v ≡ padded n (xs ++ v ∷ [])
more n xs i is l v =
    let m : ℕ = n - suc i in
    let some : n - length xs ≡ suc m = omega (arith, is) in
    let fewer : m ≡ n - length (xs ++ v ∷ []) = omega (arith, is, length-append xs (v ∷ [])) in
    ap (λ (j : ℕ). set (xs ++ replicate j 0) i v) some
    ∙ set_at xs 0 (replicate m 0) v i is
    ∙ sym (append_assoc xs (v ∷ []) (replicate m 0))
    ∙ ap (λ (j : ℕ). (xs ++ v ∷ []) ++ replicate j 0) fewer

-- ---- bytes

-- bytes that were copied over the first zeros
pub bytes_copied : (r : List ℕ) (from n : ℕ) → n ≤ 32 → from + n ≤ length r → (xs : List ℕ) → xs ≡ take (from + n - from) (drop from r)
    → xs ++ drop n (replicate 32 0) ≡ padded 32 (take n (drop from r))
bytes_copied r from n few room xs is =
    let long : n ≤ length (drop from r) = omega (arith, length-drop from r) in
    let q : from + n - from ≡ n = omega arith in
    let e : xs ≡ take n (drop from r) = is ∙ ap (λ (j : ℕ). take j (drop from r)) q in
    rw e
    (ap (λ (ys : List ℕ). take n (drop from r) ++ ys)
    (drop-replicate n 32 0 ∙ ap (λ (j : ℕ). replicate (32 - j) 0) (sym (length-take-le n (drop from r) long))))

-- ---- words

pub words-length : (r : List ℕ) (at n : ℕ) → length (words_from r at n) ≡ n
unfolding words_from
words-length r at zero = refl
words-length r at (suc n) = ap suc (words-length r (at + 4) n)

-- one word more, at the end
words_suc : (r : List ℕ) (at n : ℕ) → words_from r at (suc n) ≡ words_from r at n ++ word r (at + 4 * n) ∷ []
unfolding words_from
words_suc r at zero = ap (λ (x : ℕ). word r x ∷ []) (sym (add-zero at))
words_suc r at (suc n) =
    let next : at + 4 + 4 * n ≡ at + 4 * suc n = omega arith in
    ap (λ (x : List ℕ). word r at ∷ x) (words_suc r (at + 4) n)
    ∙ ap (λ (x : ℕ). word r at ∷ words_from r (at + 4) n ++ word r x ∷ []) next

pub words-next : (r : List ℕ) (from i : ℕ) → i < 96 → (v : ℕ) → v ≡ word r (from + 4 * i) → set (padded 96 (words_from r from i)) i v ≡ padded 96 (words_from r from (i + 1))
words-next r from i l v e =
    more 96 (words_from r from i) i (words-length r from i) l v
    ∙ ap (λ (x : ℕ). padded 96 (words_from r from i ++ x ∷ [])) e
    ∙ ap (padded 96) (sym (words_suc r from i))
    ∙ ap (λ (j : ℕ). padded 96 (words_from r from j)) (sym (add-one i))
