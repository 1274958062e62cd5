-- The undoing of marks. Assumes nothing.
use Prim.Native.Nat.{ℕ, zero, suc, ◌/◌}
use mathlib.Core.Path.{◌≡◌, refl, ap, ◌∙◌}
use mathlib.Core.List.{List, [], ◌∷◌, ◌++◌}
use mathlib.Core.Logic.{inl, inr, ⊎_elim}
use lib.ListN.{set, replicate}
use lib.Seq.{set-set, set_comm}
use lib.Dec.{eqb}
use borrow.Author.Tests.{eqb-true, eqb-false}
use Rattle.proof_propagation.specs.Inner.Clear.{clear}
use Rattle.proof_propagation.proofs.Cases.{both}
use Rattle.proof_propagation.proofs.Standing.{In}

-- a literal more, and the end
pub clear-turn : (m m' : List ℕ) (c : List ℕ) (l : ℕ) (d : List ℕ) → c ≡ l ∷ d → m' ≡ set m (l / 2) 0 → clear m' d ≡ clear m c
unfolding clear
clear-turn m m' c l d q e = rw (e, q) refl

pub clear-end : (m c : List ℕ) → c ≡ [] → clear m c ≡ m
unfolding clear
clear-end m c e = rw e refl

pub clear_append : (m a b : List ℕ) → clear m (a ++ b) ≡ clear (clear m a) b
unfolding clear
clear_append m [] b = refl
clear_append m (l ∷ a) b = clear_append (set m (l / 2) 0) a b

-- what is cleared after, and before, is one
set_zero_comm : (m : List ℕ) (v x : ℕ) → set (set m v 0) x 0 ≡ set (set m x 0) v 0
set_zero_comm m v x =
    elim (both (eqb v x)) [
      | inl e ↦ rw (eqb-true v x e) refl
      | inr e ↦ set_comm m v x 0 0 (eqb-false v x e)
    ]

clear-set : (m : List ℕ) (v : ℕ) (c : List ℕ) → clear (set m v 0) c ≡ set (clear m c) v 0
unfolding clear
clear-set m v [] = refl
clear-set m v (l ∷ c) = ap (λ (x : List ℕ). clear x c) (set_zero_comm m v (l / 2)) ∙ clear-set (set m (l / 2) 0) v c

pub clear_swap : (m a b : List ℕ) → clear (clear m a) b ≡ clear (clear m b) a
unfolding clear
clear_swap m [] b = refl
clear_swap m (l ∷ a) b = clear_swap (set m (l / 2) 0) a b ∙ ap (λ (x : List ℕ). clear x a) (clear-set m (l / 2) b)

-- a mark of a variable that is cleared later does not matter
pub clear-marked : (m : List ℕ) (l x : ℕ) (c : List ℕ) → In l c → clear (set m (l / 2) x) c ≡ clear m c
unfolding clear In
clear-marked m l x [] h = absurd h
clear-marked m l x (k ∷ c) h =
    elim (both (eqb (l / 2) (k / 2))) [
      | inl e ↦ rw (eqb-true (l / 2) (k / 2) e, set-set m (k / 2) x 0) refl
      | inr e ↦ ⊎_elim
          (λ q. absurd (eqb-false (l / 2) (k / 2) e (ap (λ (y : ℕ). y / 2) q)))
          (λ y. ap (λ (z : List ℕ). clear z c) (set_comm m (l / 2) (k / 2) x 0 (eqb-false (l / 2) (k / 2) e)) ∙ clear-marked (set m (k / 2) 0) l x c y)
          h
    ]

set_zeros : (n v : ℕ) → set {A = ℕ} (replicate n 0) v 0 ≡ replicate n 0
set_zeros zero v = refl
set_zeros (suc n) zero = refl
set_zeros (suc n) (suc v) = ap (λ (x : List ℕ). 0 ∷ x) (set_zeros n v)

pub clear_zeros : (n : ℕ) (c : List ℕ) → clear (replicate n 0) c ≡ replicate n 0
unfolding clear
clear_zeros n [] = refl
clear_zeros n (l ∷ c) = ap (λ (x : List ℕ). clear x c) (set_zeros n (l / 2)) ∙ clear_zeros n c

-- ---- one mark more: it is undone where its literal is cleared with the others, in the first part or in the second

module _ (m : List ℕ) (l x : ℕ) (a b : List ℕ) (n : ℕ) (e : clear (clear m a) b ≡ replicate n 0) where
  mark_undone : clear (clear (clear (set m (l / 2) x) a) (l ∷ [])) b ≡ replicate n 0
  unfolding In
  mark_undone =
      ap (λ (z : List ℕ). clear z b) (clear_swap (set m (l / 2) x) a (l ∷ []) ∙ ap (λ (z : List ℕ). clear z a) (clear-marked m l x (l ∷ []) (inl refl)) ∙ clear_swap m (l ∷ []) a)
      ∙ clear_swap (clear m a) (l ∷ []) b
      ∙ ap (λ (z : List ℕ). clear z (l ∷ [])) e
      ∙ clear_zeros n (l ∷ [])

  pub mark_undone_first : clear (clear (set m (l / 2) x) (a ++ (l ∷ []))) b ≡ replicate n 0
  mark_undone_first = ap (λ (z : List ℕ). clear z b) (clear_append (set m (l / 2) x) a (l ∷ [])) ∙ mark_undone

  pub mark_undone_second : clear (clear (set m (l / 2) x) a) (b ++ (l ∷ [])) ≡ replicate n 0
  mark_undone_second = clear_append (clear (set m (l / 2) x) a) b (l ∷ []) ∙ clear_swap (clear (set m (l / 2) x) a) b (l ∷ []) ∙ mark_undone
