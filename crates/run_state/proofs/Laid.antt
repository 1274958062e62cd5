-- Laying the first entries of one list over another, entry by entry. Assumes nothing.
use mathlib.Core.Path.{◌≡◌, refl, sym, ap, subst, ◌∙◌}
use mathlib.Core.List.{List, [], ◌∷◌, ◌++◌}
use mathlib.Core.Logic.{◌⊎◌, inl, inr}
use Prim.Native.Nat.{ℕ, zero, suc, ◌+◌, ◌<◌, ◌≤◌}
use native.Mathlib.Nat.{eq-or-lt_of_le}
use native.Mathlib.Omega.{arith}
use native.Mathlib.Numerals.{add-one}
use lib.ListN.{length, set, length-set, take, drop}
use lib.Seq.{get_or-set_same, get_or-set_other}
use Rattle.slices.specs.Bytes.{entry}
use Rattle.run_state.specs.State.{over}

module _ (xs ys : List ℕ) where
  pub laid_none : ys ≡ over 0 xs ys
  unfolding over
  laid_none = refl

  pub laid_next : (i : ℕ) (zs : List ℕ) → zs ≡ over i xs ys → set zs i (entry xs i) ≡ over (i + 1) xs ys
  unfolding over
  laid_next i zs e = rw (e, add-one)

  over-length : (i : ℕ) → length (over i xs ys) ≡ length ys
  unfolding over
  over-length zero = refl
  over-length (suc i) = length-set (over i xs ys) i (entry xs i) ∙ over-length i

  pub laid-length : (i : ℕ) (zs : List ℕ) → zs ≡ over i xs ys → length zs ≡ length ys
  laid-length i zs e = ap length e ∙ over-length i

  -- what was laid over is there
  pub laid-entry : (n v : ℕ) → v < n → n ≤ length ys → entry (over n xs ys) v ≡ entry xs v
  unfolding over
  laid-entry zero v l m = absurd (omega arith)
  laid-entry (suc n) v l m = pick (laid-entry n v) (eq-or-lt_of_le {n = v} {m = n} (omega arith))
    where
      pick : (v < n → n ≤ length ys → entry (over n xs ys) v ≡ entry xs v) → (v ≡ n) ⊎ (v < n) → entry (set (over n xs ys) n (entry xs n)) v ≡ entry xs v
      pick f (inl e) =
          subst (λ (u : ℕ). entry (set (over n xs ys) n (entry xs n)) u ≡ entry xs u) (sym e)
          (get_or-set_same (over n xs ys) n (entry xs n) 0 (omega (arith, over-length n)))
      pick f (inr k) = get_or-set_other (over n xs ys) n v (entry xs n) 0 (λ e. absurd (omega arith)) ∙ f k (omega arith)

  pub laid_all : (i n : ℕ) (zs : List ℕ) → zs ≡ over i xs ys → i ≡ n → zs ≡ over n xs ys
  laid_all i n zs e q = e ∙ ap (λ (m : ℕ). over m xs ys) q

-- laying over a list with a first entry lays its first entry first
over_first : (n x y : ℕ) (xs ys : List ℕ) → over (suc n) (x ∷ xs) (y ∷ ys) ≡ x ∷ over n xs ys
unfolding over
over_first zero x y xs ys = refl
over_first (suc n) x y xs ys = ap (λ (l : List ℕ). set l (suc n) (entry xs n)) (over_first n x y xs ys)

-- what is laid over another list takes the place of as many entries
pub laid_is : (n : ℕ) (xs ys : List ℕ) → n ≤ length xs → n ≤ length ys → take n xs ++ drop n ys ≡ over n xs ys
unfolding over
laid_is zero xs ys l m = refl
laid_is (suc n) [] ys l m = absurd (omega arith)
laid_is (suc n) (x ∷ xs) [] l m = absurd (omega arith)
laid_is (suc n) (x ∷ xs) (y ∷ ys) l m = ap (λ (l : List ℕ). x ∷ l) (laid_is n xs ys (omega arith) (omega arith)) ∙ sym (over_first n x y xs ys)
