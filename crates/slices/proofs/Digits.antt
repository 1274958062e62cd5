-- The digits of a number as bytes. Assumes nothing.
use mathlib.Core.Path.{◌≡◌, sym, ap, ◌∙◌}
use mathlib.Core.List.{[], ◌∷◌}
use Prim.Native.Nat.{ℕ, ◌+◌, ◌*◌, ◌/◌, ◌%◌, ◌<◌}
use native.Mathlib.Omega.{arith}
use native.Mathlib.Nat.{zero-add, mod-eq_of_lt, div-eq_of_lt, add-mul-div_left, add-mul-mod_self_left, div-div-eq-div-mul}
use lib.Dec.{lit<}
use Rattle.slices.specs.Bytes.{half_bytes, word_bytes}

-- the lowest digit, and the others
lowest : (a n : ℕ) → a < 256 → (a + 256 * n) % 256 ≡ a
lowest a n l = add-mul-mod_self_left a 256 n ∙ mod-eq_of_lt l

others : (a n : ℕ) → a < 256 → (a + 256 * n) / 256 ≡ n
others a n l = add-mul-div_left a n (lit< tt) ∙ rw (div-eq_of_lt l) (zero-add n)

-- the digits of a number of two bytes
pub half_digits : (a b : ℕ) → a < 256 → b < 256 → half_bytes (a + 256 * b) ≡ a ∷ b ∷ []
unfolding half_bytes
half_digits a b l m = rw (lowest a b l, others a b l, mod-eq_of_lt m)

-- the digits of a number of four bytes
pub word_digits : (a b c d : ℕ) → a < 256 → b < 256 → c < 256 → d < 256 → word_bytes (a + 256 * b + 65536 * c + 16777216 * d) ≡ a ∷ b ∷ c ∷ d ∷ []
unfolding word_bytes
word_digits a b c d i j k l =
    let n = b + 256 * (c + 256 * d) in
    let e : a + 256 * b + 65536 * c + 16777216 * d ≡ a + 256 * (b + 256 * (c + 256 * d)) = omega arith in
    let e₂ : (a + 256 * n) / 65536 ≡ c + 256 * d = sym (div-div-eq-div-mul (a + 256 * n) 256 256) ∙ rw (others a n i) (others b (c + 256 * d) j) in
    let e₃ : (a + 256 * n) / 16777216 ≡ d = sym (div-div-eq-div-mul (a + 256 * n) 65536 256) ∙ rw e₂ (others c d k) in
    rw (e, lowest a n i, others a n i, e₂, e₃, lowest b (c + 256 * d) j, lowest c d k, mod-eq_of_lt l)

-- a number of two bytes from its digits
pub half-value : (n : ℕ) → n < 65536 → n % 256 + 256 * (n / 256 % 256) ≡ n
half-value n l = omega arith

-- a number from its lowest digit and the others
split : (n : ℕ) → n % 256 + 256 * (n / 256) ≡ n
split n = omega arith

joined : (n a q b r c s : ℕ) → a + 256 * q ≡ n → b + 256 * r ≡ q → c + 256 * s ≡ r → a + 256 * b + 65536 * c + 16777216 * s ≡ n
joined n a q b r c s e f g = omega arith

-- a number of four bytes from its digits
pub word_value : (n : ℕ) → n < 4294967296 → n % 256 + 256 * (n / 256 % 256) + 65536 * (n / 65536 % 256) + 16777216 * (n / 16777216 % 256) ≡ n
word_value n l =
    let q = n / 256 in
    let r = q / 256 in
    let e₂ : n / 65536 ≡ r = sym (div-div-eq-div-mul n 256 256) in
    let e₃ : n / 16777216 ≡ r / 256 = sym (ap (λ (x : ℕ). x / 256) (div-div-eq-div-mul n 256 256) ∙ div-div-eq-div-mul n 65536 256) in
    let j = joined n (n % 256) q (q % 256) r (r % 256) (r / 256) (split n) (split q) (split r) in
    let m : r / 256 < 256 = top n (n % 256) (q % 256) (r % 256) (r / 256) j l in
    rw (e₂, e₃, mod-eq_of_lt m) j
  where
    top : (n a b c s : ℕ) → a + 256 * b + 65536 * c + 16777216 * s ≡ n → n < 4294967296 → s < 256
    top n a b c s e l = omega arith
