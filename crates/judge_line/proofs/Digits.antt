-- The decimal digits of a number: those of its tenth, then its last. Assumes nothing.
use Prim.Native.Nat.{ℕ, zero, suc, ◌+◌, ◌/◌, ◌%◌, ◌^◌, ◌≤◌, ◌<◌}
use native.Mathlib.Nat.{pow-suc, eq-zero-or-pos}
use mathlib.Core.Path.{◌≡◌, refl, ap, ◌∙◌}
use mathlib.Core.Logic.{◌⊎◌, inl, inr}
use mathlib.Core.List.{List, [], ◌∷◌, ◌++◌}
use lib.ListN.{length, length-append}
use native.Mathlib.Omega.{arith}
use Rattle.judge_line.specs.Text.{front, decimal_by, decimal}

-- where something stands in front, it is the digits of the rest
front_of : (f : ℕ → List ℕ) (q : ℕ) → 0 < q → front f q ≡ f q
front_of f zero l = absurd (omega arith)
front_of f (suc q) l = refl

-- the front depends on the digits of the rest alone
front_same : (f g : ℕ → List ℕ) (q : ℕ) → (0 < q → f q ≡ g q) → front f q ≡ front g q
front_same f g zero e = refl
front_same f g (suc q) e = e (omega arith)

-- any count of digits above the number will do
enough : (j k n : ℕ) → n < j → n < k → decimal_by j n ≡ decimal_by k n
unfolding decimal_by
enough zero k n l h = absurd (omega arith)
enough (suc j) zero n l h = absurd (omega arith)
enough (suc j) (suc k) n l h =
    ap (λ (s : List ℕ). s ++ ((48 + n % 10) ∷ [])) (front_same (decimal_by j) (decimal_by k) (n / 10) (λ q. enough j k (n / 10) (omega arith) (omega arith)))

-- a digit
pub single : (n : ℕ) → n < 10 → decimal n ≡ (48 + n) ∷ []
unfolding decimal_by decimal
single n l =
    let q : n / 10 ≡ 0 = omega arith in
    let r : n % 10 ≡ n = omega arith in
    rw (q, r) refl

-- the digits of the tenth, and the last
pub several : (n : ℕ) → 10 ≤ n → decimal n ≡ decimal (n / 10) ++ ((48 + n % 10) ∷ [])
unfolding decimal_by decimal
several n l =
    ap (λ (s : List ℕ). s ++ ((48 + n % 10) ∷ [])) (front_of (decimal_by n) (n / 10) (omega arith) ∙ enough n (suc (n / 10)) (n / 10) (omega arith) (omega arith))

-- of one byte
pub single_length : (n : ℕ) → n < 10 → length (decimal n) ≡ 1
single_length n l = ap length (single n l)

-- a digit more
pub longer : (n : ℕ) → 10 ≤ n → length (decimal n) ≡ length (decimal (n / 10)) + 1
longer n l = ap length (several n l) ∙ length-append (decimal (n / 10)) ((48 + n % 10) ∷ [])

-- a power of ten more, a digit more
more_by : (k n : ℕ) → length (decimal (n / 10)) ≤ suc k → (n / 10 ≡ 0) ⊎ (0 < n / 10) → length (decimal n) ≤ suc (suc k)
more_by k n f (inl q) = rw (single n (omega arith)) (omega arith)
more_by k n f (inr q) = omega (arith, longer n (omega arith))

few : (k n : ℕ) → n < 10 ^ suc k → length (decimal n) ≤ suc k
few zero n l = rw (single n (omega arith)) (omega arith)
few (suc k) n l = more_by k n (few k (n / 10) (omega (arith, pow-suc 10 (suc k)))) (eq-zero-or-pos (n / 10))

-- 20 digits hold 64 bits
pub twenty : (n : ℕ) → n < 2 ^ 64 → length (decimal n) ≤ 20
twenty n l = few 19 n (omega arith)
