-- A header and its bytes. Assumes nothing.
use mathlib.Core.Path.{◌≡◌, refl, sym, ap, subst, ◌∙◌}
use mathlib.Core.List.{List, [], ◌∷◌, ◌++◌}
use mathlib.Core.Bool.{true}
use Prim.Native.Nat.{ℕ, zero, suc, ◌+◌, ◌*◌, ◌≤◌, ◌<◌}
use native.Mathlib.Omega.{arith}
use lib.ListN.{length, get_or, take, drop, length-drop, take-append-drop, get_or-append}
use lib.Seq.{drop_at, drop-drop, take_at, get_or-take, get_or-drop, length-take-le}
use lib.Dec.{eqb, lit≤}
use borrow.Author.Tests.{lt-ltb, le-leb, eq-eqb}
use Rattle.slices.specs.Bytes.{entry, half, half_bytes}
use Rattle.routine_header.specs.Header.{between, within, width_ok, size_ok, first_bad, header_of, first_command}
use Rattle.routine_faults.specs.Inner.Sound.{Fine}
use Rattle.routine_rendering.specs.Syntax.{Text, Syntax}
use Rattle.routine_rendering.specs.Render.{size_bytes}
use Rattle.routine_rendering.specs.WellFormed.{Between}
use Rattle.routine_rendering.specs.Exactly.{AreBytes, head_of}
use Rattle.routine_header.specs.declared.Header.{Header}
use Rattle.std.specs.Prelude.{Ok}
use Rattle.routine_faults.proofs.Fine.{in_bounds}
use Rattle.routine_header.proofs.Held.{held}
use Rattle.slices.proofs.Digits.{half_digits, half-value}
use Rattle.routine_rendering.proofs.Bytes.{here, next, entry_at, entry_here, bytes_left, further}
use Rattle.routine_rendering.proofs.Operands.{Same}

-- ---- from the bytes to the syntax

-- where the bytes have what a header tells
record Told (bs : List ℕ) (h : Header) : Type 0 where
  pub first : entry bs 0 ≡ 1
  pub variables : entry bs 1 ≡ h.variables
  pub parameters : entry bs (h.variables + 2) ≡ h.parameters
  pub arrays : entry bs (h.variables + 3) ≡ h.arrays

told : (bs : List ℕ) (h : Header) → header_of bs ≡ Ok h → Told bs h
told bs h e =
    let t = held bs h e in
    subst (Told bs) t.is (record { first = omega (arith, (in_bounds bs 0 1 1 t.first).1, (in_bounds bs 0 1 1 t.first).2); variables = refl; parameters = refl; arrays = refl })

-- n sizes, from `at` on
unfoldable pub sizes_from : List ℕ → ℕ → ℕ → List ℕ
sizes_from bs at zero = []
sizes_from bs at (suc n) = half bs at ∷ sizes_from bs (at + 2) n

pub length-sizes : (bs : List ℕ) (at n : ℕ) → length (sizes_from bs at n) ≡ n
unfolding sizes_from
length-sizes bs at zero = refl
length-sizes bs at (suc n) = ap suc (length-sizes bs (at + 2) n)

pub size_from : (bs : List ℕ) (n at i : ℕ) → i < n → get_or (sizes_from bs at n) i 0 ≡ half bs (at + 2 * i)
unfolding sizes_from
size_from bs zero at i l = absurd (omega arith)
size_from bs (suc n) at zero l = let e : at + 2 * 0 ≡ at = omega arith in rw e
size_from bs (suc n) at (suc i) l = let e : at + 2 + 2 * i ≡ at + 2 * suc i = omega arith in rw (← e) (size_from bs n (at + 2) i (omega arith))

size-there : (bs : List ℕ) → AreBytes bs → (at : ℕ) → at + 2 ≤ length bs → drop at bs ≡ half_bytes (half bs at) ++ drop (at + 2) bs
unfolding half
size-there bs f at l =
    rw (half_digits (entry bs at) (entry bs (at + 1)) (f at (omega arith)) (f (at + 1) (omega arith)))
    (rw (here bs at (omega arith), next bs at 1 (omega arith)))

sizes-there : (bs : List ℕ) → AreBytes bs → (n at : ℕ) → at + 2 * n ≤ length bs → drop at bs ≡ size_bytes (sizes_from bs at n) ++ drop (at + 2 * n) bs
unfolding sizes_from size_bytes half_bytes
sizes-there bs f zero at l = let e : at + 2 * 0 ≡ at = omega arith in rw e
sizes-there bs f (suc n) at l =
    let e : at + 2 + 2 * n ≡ at + 2 * suc n = omega arith in
    size-there bs f at (omega arith) ∙ ap (λ (ys : List ℕ). half_bytes (half bs at) ++ ys) (rw (← e) (sizes-there bs f n (at + 2) (omega arith)))

-- the syntax that a header and the bytes tell, with its commands
abbrev pub syntax_of : List ℕ → Header → Text → Syntax
syntax_of bs h t = record {
  widths = take h.variables (drop 2 bs);
  parameters = h.parameters;
  sizes = sizes_from bs (h.variables + 4) h.arrays;
  commands = t;
}

module _ (bs : List ℕ) (h : Header) (fine : Fine bs h) where
  pub many_widths : length (take h.variables (drop 2 bs)) ≡ h.variables
  many_widths =
      let w = fine.whole in
      length-take-le h.variables (drop 2 bs) (omega (arith, length-drop 2 bs))

  pub same-told : (t : Text) → Same bs h (syntax_of bs h t)
  same-told t = record {
    variables = sym many_widths;
    arrays = sym (length-sizes bs (h.variables + 4) h.arrays);
    widths = λ v l.
        let m : v < h.variables = rw many_widths at l in
        let e : 2 + v ≡ v + 2 = omega arith in
        sym (get_or-take h.variables (drop 2 bs) v 0 m ∙ get_or-drop 2 bs v 0 ∙ rw e);
  }

  -- the bytes of the header
  pub header-bytes : AreBytes bs → header_of bs ≡ Ok h → (t : Text)
      → let p = syntax_of bs h t in
      bs ≡ 1 ∷ length p.widths ∷ p.widths ++ (p.parameters ∷ length p.sizes ∷ size_bytes p.sizes ++ drop (first_command h) bs)
  header-bytes f q t =
      let v = h.variables in
      let n = h.arrays in
      let w = fine.whole in
      let d = told bs h q in
      let e₂ : 2 + v ≡ v + 2 = omega arith in
      let b₀ : bs ≡ entry bs 0 ∷ drop 1 bs = here bs 0 (omega arith) in
      let b₁ : drop 1 bs ≡ entry bs 1 ∷ drop 2 bs = next bs 0 1 (omega arith) in
      let b₂ : drop 2 bs ≡ take v (drop 2 bs) ++ drop (v + 2) bs =
      sym (take-append-drop v (drop 2 bs)) ∙ ap (λ (ys : List ℕ). take v (drop 2 bs) ++ ys) (drop-drop v 2 bs ∙ ap (λ (i : ℕ). drop i bs) e₂) in
      let b₃ : drop (v + 2) bs ≡ h.parameters ∷ drop (v + 3) bs = rw (← d.parameters) (next bs v 2 (omega arith)) in
      let b₄ : drop (v + 3) bs ≡ entry bs (v + 3) ∷ drop (v + 4) bs = next bs v 3 (omega arith) in
      let b₅ = sizes-there bs f n (v + 4) w in
      let l₁ = many_widths in
      let l₂ = length-sizes bs (v + 4) n in
      cc

-- ---- from the syntax to the bytes

to_between : (lo hi n : ℕ) → Between lo hi n → between lo hi n ≡ true
to_between lo hi n l = simp (le-leb lo n l.low, le-leb n hi l.high)

to_within : (bs : List ℕ) (i lo hi : ℕ) → i < length bs → Between lo hi (entry bs i) → within bs i lo hi ≡ true
unfolding within
to_within bs i lo hi l m = simp (lt-ltb i (length bs) l, to_between lo hi (entry bs i) m)

-- every entry is from lo to hi
abbrev pub Each : (lo hi : ℕ) → List ℕ → Type 0
Each lo hi xs = (i : ℕ) → i < length xs → Between lo hi (get_or xs i 0)

-- widths that stand from `at` on are all right
widths_right : (bs ws : List ℕ) (at : ℕ) (tail : List ℕ) → drop at bs ≡ ws ++ tail → Each 1 32 ws → first_bad (width_ok bs) 1 (length ws) at ≡ at + length ws
unfolding first_bad
widths_right bs [] at tail e f = omega arith
widths_right bs (w ∷ ws) at tail e f =
    let l : at < length bs = omega (arith, bytes_left bs at (w ∷ ws ++ tail) e) in
    let t : width_ok bs at ≡ true = to_within bs at 1 32 l (rw (entry_here bs at (w ∷ ws ++ tail) e) (f 0 (omega arith))) in
    let q : at + 1 + length ws ≡ at + suc (length ws) = omega arith in
    rw (t, ← q) (widths_right bs ws (at + 1) tail (further bs at (w ∷ ws ++ tail) e 1) (λ i m. f (suc i) (omega arith)))

-- a size is read back
size_back : (bs : List ℕ) (at n : ℕ) (tail : List ℕ) → drop at bs ≡ half_bytes n ++ tail → n ≤ 4096 → half bs at ≡ n
unfolding half_bytes half
size_back bs at n tail e l = rw (entry_here bs at _ e, entry_at bs at _ e 1) (half-value n (omega arith))

-- sizes that stand from `at` on are all right
sizes_right : (bs ns : List ℕ) (at : ℕ) (tail : List ℕ) → drop at bs ≡ size_bytes ns ++ tail → Each 1 4096 ns → first_bad (size_ok bs) 2 (length ns) at ≡ at + 2 * length ns
unfolding first_bad size_bytes half_bytes size_ok
sizes_right bs [] at tail e f = omega arith
sizes_right bs (n ∷ ns) at tail e f =
    let b = f 0 (omega arith) in
    let l : at + 1 < length bs = omega (arith, bytes_left bs at _ e) in
    let t : size_ok bs at ≡ true = simp (lt-ltb (at + 1) (length bs) l, size_back bs at n (size_bytes ns ++ tail) e b.high, to_between 1 4096 n b) in
    let q : at + 2 + 2 * length ns ≡ at + 2 * suc (length ns) = omega arith in
    rw (t, ← q) (sizes_right bs ns (at + 2) tail (further bs at _ e 2) (λ i m. f (suc i) (omega arith)))

pub length-size-bytes : (ns : List ℕ) → length (size_bytes ns) ≡ 2 * length ns
unfolding size_bytes half_bytes
length-size-bytes [] = refl
length-size-bytes (n ∷ ns) = omega (arith, length-size-bytes ns)

-- sizes are read back
sizes_back : (bs ns : List ℕ) (at : ℕ) (tail : List ℕ) → drop at bs ≡ size_bytes ns ++ tail → Each 1 4096 ns → sizes_from bs at (length ns) ≡ ns
unfolding sizes_from size_bytes half_bytes
sizes_back bs [] at tail e f = refl
sizes_back bs (n ∷ ns) at tail e f =
    let r = sizes_back bs ns (at + 2) tail (further bs at _ e 2) (λ i m. f (suc i) (omega arith)) in
    rw (size_back bs at n (size_bytes ns ++ tail) e (f 0 (omega arith)).high) (ap (λ (xs : List ℕ). n ∷ xs) r)

module _ (bs : List ℕ) (p : Syntax) (tail : List ℕ)
    (is : bs ≡ 1 ∷ length p.widths ∷ p.widths ++ (p.parameters ∷ length p.sizes ∷ size_bytes p.sizes ++ tail)) where
  abbrev variables : ℕ
  variables = length p.widths

  abbrev arrays : ℕ
  arrays = length p.sizes

  from_widths : drop 2 bs ≡ p.widths ++ (p.parameters ∷ arrays ∷ size_bytes p.sizes ++ tail)
  from_widths = further bs 0 _ is 2

  from_parameters : drop (variables + 2) bs ≡ p.parameters ∷ arrays ∷ size_bytes p.sizes ++ tail
  from_parameters = let e : 2 + variables ≡ variables + 2 = omega arith in rw (← e) (further bs 2 _ from_widths variables ∙ drop_at p.widths _ variables refl)

  from_sizes : drop (variables + 4) bs ≡ size_bytes p.sizes ++ tail
  from_sizes = let e : variables + 2 + 2 ≡ variables + 4 = omega arith in rw (← e) (further bs (variables + 2) _ from_parameters 2)

  pub from_commands : drop (variables + 4 + 2 * arrays) bs ≡ tail
  from_commands = further bs (variables + 4) _ from_sizes (2 * arrays) ∙ drop_at (size_bytes p.sizes) tail (2 * arrays) (length-size-bytes p.sizes)

  -- the header that is read
  pub header_read : Between 1 32 variables → Each 1 32 p.widths → p.parameters ≤ variables → arrays ≤ 16 → Each 1 4096 p.sizes → header_of bs ≡ Ok (head_of p)
  unfolding header_of
  header_read v w l n z =
      let e₁ : entry bs 1 ≡ variables = entry_at bs 0 _ is 1 in
      let e₂ : entry bs (variables + 2) ≡ p.parameters = entry_here bs (variables + 2) _ from_parameters in
      let q : variables + 2 + 1 ≡ variables + 3 = omega arith in
      let e₃ : entry bs (variables + 3) ≡ arrays = rw q at (entry_at bs (variables + 2) _ from_parameters 1) in
      let r : variables + 3 < length bs = omega (arith, bytes_left bs (variables + 2) _ from_parameters) in
      let t₀ = to_within bs 0 1 1 (omega arith) (rw (entry_here bs 0 _ is) (record { low = lit≤ tt; high = lit≤ tt })) in
      let t₁ = to_within bs 1 1 32 (omega arith) (rw e₁ v) in
      let t₂ : eqb (first_bad (width_ok bs) 1 variables 2) (variables + 2) ≡ true = eq-eqb _ _ (widths_right bs p.widths 2 _ from_widths w ∙ omega arith) in
      let t₃ = to_within bs (variables + 2) 0 variables (omega arith) (rw e₂ (record { low = omega arith; high = l })) in
      let t₄ = to_within bs (variables + 3) 0 16 r (rw e₃ (record { low = omega arith; high = n })) in
      let t₅ : eqb (first_bad (size_ok bs) 2 arrays (variables + 4)) (variables + 4 + 2 * arrays) ≡ true = eq-eqb _ _ (sizes_right bs p.sizes (variables + 4) tail from_sizes z) in
      simp (e₁, e₂, e₃, t₀, t₁, t₂, t₃, t₄, t₅)

  pub same_read : Same bs (head_of p) p
  same_read = record {
    variables = refl;
    arrays = refl;
    widths = λ v l.
        let e : 2 + v ≡ v + 2 = omega arith in
        rw (← e) (entry_at bs 2 _ from_widths v ∙ get_or-append p.widths _ 0 v l);
  }

  -- the syntax is read back
  pub read_back : Each 1 4096 p.sizes → syntax_of bs (head_of p) p.commands ≡ p
  read_back z =
      let w : take variables (drop 2 bs) ≡ p.widths = rw from_widths (take_at p.widths _ variables refl) in
      let s = sizes_back bs p.sizes (variables + 4) tail from_sizes z in
      λ i. record { widths = w i; parameters = p.parameters; sizes = s i; commands = p.commands }
