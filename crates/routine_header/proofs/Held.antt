-- A header that was read as whole: each test held. Assumes nothing.
use mathlib.Core.Path.{◌≡◌, refl}
use mathlib.Core.List.{List}
use mathlib.Core.Bool.{Bool, true, false}
use Prim.Native.Nat.{ℕ, ◌+◌, ◌*◌}
use native.Mathlib.Omega.{arith}
use borrow.Author.Tests.{eqb-true}
use lib.Dec.{eqb}
use Rattle.std.specs.Prelude.{Result, Ok, Err}
use Rattle.slices.specs.Bytes.{entry}
use Rattle.slices.specs.Guard.{unless}
use Rattle.routine_header.specs.Header.{within, width_ok, size_ok, first_bad, header_of}
use Rattle.routine_header.specs.declared.Header.{Header}

-- what the bytes say of a header
abbrev pub header_in : List ℕ → Header
header_in bs = record { variables = entry bs 1; parameters = entry bs (entry bs 1 + 2); arrays = entry bs (entry bs 1 + 3) }

pub record Held (bs : List ℕ) (h : Header) : Type 0 where
  pub first : within bs 0 1 1 ≡ true
  pub variables : within bs 1 1 32 ≡ true
  pub widths : first_bad (width_ok bs) 1 (header_in bs).variables 2 ≡ (header_in bs).variables + 2
  pub parameters : within bs ((header_in bs).variables + 2) 0 (header_in bs).variables ≡ true
  pub arrays : within bs ((header_in bs).variables + 3) 0 16 ≡ true
  pub sizes : first_bad (size_ok bs) 2 (header_in bs).arrays ((header_in bs).variables + 4) ≡ (header_in bs).variables + 4 + 2 * (header_in bs).arrays
  pub is : header_in bs ≡ h

-- no wrong place: the test held
needed : (b : Bool) (place : ℕ) (go : Result Header ℕ) (h : Header) → unless b (Err place) go ≡ Ok h → (b ≡ true) × (go ≡ Ok h)
unfolding unless
needed true place go h e = (refl, e)
needed false place go h e = let z : ◌≡◌ {A = ℕ} 0 1 = cc in absurd (omega arith)

valid_injective : {h h₁ : Header} → ◌≡◌ {A = Result Header ℕ} (Ok h) (Ok h₁) → h ≡ h₁
valid_injective e = cc

pub held : (bs : List ℕ) (h : Header) → header_of bs ≡ Ok h → Held bs h
unfolding header_of
held bs h e =
    let v = entry bs 1 in
    let n = entry bs (v + 3) in
    let w = first_bad (width_ok bs) 1 v 2 in
    let z = first_bad (size_ok bs) 2 n (v + 4) in
    let t₀ = needed (within bs 0 1 1) 0 _ h e in
    let t₁ = needed (within bs 1 1 32) 1 _ h t₀.1 in
    let t₂ = needed (eqb w (v + 2)) w _ h t₁.1 in
    let t₃ = needed (within bs (v + 2) 0 v) (v + 2) _ h t₂.1 in
    let t₄ = needed (within bs (v + 3) 0 16) (v + 3) _ h t₃.1 in
    let t₅ = needed (eqb z (v + 4 + 2 * n)) z _ h t₄.1 in
    record {
      first = t₀.0;
      variables = t₁.0;
      widths = eqb-true _ _ t₂.0;
      parameters = t₃.0;
      arrays = t₄.0;
      sizes = eqb-true _ _ t₅.0;
      is = valid_injective t₅.1;
    }
