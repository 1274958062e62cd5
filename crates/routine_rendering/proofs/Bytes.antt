-- Bytes from an offset on. Assumes nothing.
use mathlib.Core.Path.{◌≡◌, sym}
use mathlib.Core.List.{List, ◌∷◌}
use Prim.Native.Nat.{ℕ, suc, ◌+◌, ◌-◌, ◌<◌}
use native.Mathlib.Omega.{arith}
use lib.ListN.{length, drop, length-drop}
use lib.Seq.{drop-cons, drop-drop, get_or-drop}
use Rattle.slices.specs.Bytes.{entry, word}

-- the byte n places after `at`, and what follows it
pub next : (bs : List ℕ) (at n : ℕ) → at + n < length bs → drop (at + n) bs ≡ entry bs (at + n) ∷ drop (at + suc n) bs
next bs at n l = let e : at + suc n ≡ suc (at + n) = omega arith in rw e (drop-cons bs (at + n) 0 l)

-- the byte at `at`, and what follows it
pub here : (bs : List ℕ) (at : ℕ) → at < length bs → drop at bs ≡ entry bs at ∷ drop (at + 1) bs
here bs at l = let e : at + 1 ≡ suc at = omega arith in rw e (drop-cons bs at 0 l)

module _ (bs : List ℕ) (at : ℕ) (ys : List ℕ) (is : drop at bs ≡ ys) where
  -- what stands at an offset after `at`
  pub entry_at : (i : ℕ) → entry bs (at + i) ≡ entry ys i
  entry_at i = rw (← is) (sym (get_or-drop at bs i 0))

  -- what stands at `at`
  pub entry_here : entry bs at ≡ entry ys 0
  entry_here = let e : at + 0 ≡ at = omega arith in rw e at (entry_at 0)

  -- the bytes left
  pub bytes_left : length bs - at ≡ length ys
  bytes_left = rw (← is) (sym (length-drop at bs))

  -- what follows after n bytes
  pub further : (n : ℕ) → drop (at + n) bs ≡ drop n ys
  further n = rw (← is) (sym (drop-drop n at bs))

  -- the four bytes at an offset after `at`
  pub word_at : word bs (at + 2) ≡ word ys 2
  unfolding word
  word_at =
      let e₁ : at + 2 + 1 ≡ at + 3 = omega arith in
      let e₂ : at + 2 + 2 ≡ at + 4 = omega arith in
      let e₃ : at + 2 + 3 ≡ at + 5 = omega arith in
      rw (e₁, e₂, e₃, entry_at 2, entry_at 3, entry_at 4, entry_at 5)
