-- Scanning a clause: each literal, and the end. Assumes nothing.
use Prim.Native.Nat.{ℕ, zero, suc, ◌+◌, ◌/◌, ◌<◌, ◌≤◌}
use mathlib.Core.Path.{◌≡◌, refl, sym, ap, ◌∙◌}
use mathlib.Core.List.{List, [], ◌∷◌}
use mathlib.Core.Bool.{true, false}
use native.Mathlib.Omega.{arith}
use lib.ListN.{length}
use borrow.Author.Tests.{eq-eqb, ne_eqb}
use Rattle.cnf.specs.Clause.{Clause}
use Rattle.proof_propagation.specs.Marks.{is_false, undecided}
use Rattle.proof_propagation.specs.Hint.{not_false, all_same, of_left, hint_of}
use Rattle.proof_propagation.specs.Inner.Scan.{scan_of, FoundFits}
use Rattle.proof_propagation.specs.Inner.Standing.{HasMarks}
use Rattle.proof_propagation.specs.declared.Hint.{Hint}

pub scan_start : (m : List ℕ) (c : Clause) → scan_of m 0 c ≡ hint_of m c
unfolding scan_of hint_of
scan_start m c = refl

-- what a rest c of a clause says with a literal found, where its first literal is l and d comes after
module _ (m : List ℕ) (c : Clause) (l : ℕ) (d : Clause) (e : c ≡ l ∷ d) (two : 2 ≤ l) where
  -- a false literal is passed over
  pub scan_false : (f g : ℕ) → is_false m l ≡ true → g ≡ f → scan_of m g d ≡ scan_of m f c
  unfolding scan_of not_false
  scan_false f g b q = rw (e, q, b) refl

  -- the first that is not false is found
  pub scan_first : (f g : ℕ) → is_false m l ≡ false → f ≡ 0 → g ≡ l → scan_of m g d ≡ scan_of m f c
  unfolding scan_of not_false
  scan_first f g b z q = rw (e, q, z, b, ne_eqb l 0 (λ y. omega arith)) refl

  -- the same again changes nothing
  pub scan_again : (f g : ℕ) → is_false m l ≡ false → f ≡ l → g ≡ f → scan_of m g d ≡ scan_of m f c
  unfolding scan_of not_false of_left all_same
  scan_again f g b z q = rw (e, q, z, b, ne_eqb l 0 (λ y. omega arith), eq-eqb l l refl) refl

  -- another ends it
  pub scan_other : (f : ℕ) → is_false m l ≡ false → (f ≡ 0 → ⊥) → (f ≡ l → ⊥) → scan_of m f c ≡ Hint.Neither
  unfolding scan_of not_false of_left all_same
  scan_other f b h n = rw (e, b, ne_eqb f 0 h, ne_eqb l f (λ q. n (sym q))) refl

-- the end
pub scan_none : (m : List ℕ) → scan_of m 0 [] ≡ Hint.Conflict
unfolding scan_of not_false of_left
scan_none m = refl

pub scan_one : (m : List ℕ) (f : ℕ) → (f ≡ 0 → ⊥) → undecided m f ≡ true → scan_of m f [] ≡ Hint.Unit f
unfolding scan_of not_false of_left all_same
scan_one m f h e = rw (ne_eqb f 0 h, e) refl

pub scan_set : (m : List ℕ) (f : ℕ) → (f ≡ 0 → ⊥) → undecided m f ≡ false → scan_of m f [] ≡ Hint.Neither
unfolding scan_of not_false of_left all_same
scan_set m f h e = rw (ne_eqb f 0 h, e) refl

-- the first literal of a clause, and the others, are of variables that have a mark
pub fits_parts : (n : ℕ) (c : Clause) (l : ℕ) (d : Clause) → HasMarks n c → c ≡ l ∷ d → ((2 ≤ l) × (l / 2 < n)) × HasMarks n d
unfolding HasMarks
fits_parts n c l d f e = rw e at f

-- ---- a scan on its way: a literal found, or none, and a rest of the whole clause

pub record Scanned (m : List ℕ) (whole : Clause) (f : ℕ) (c : Clause) : Type 0 where
  pub found : FoundFits m f
  pub fits : HasMarks (length m) c
  pub says : scan_of m f c ≡ hint_of m whole

pub scanned_start : (m : List ℕ) (whole : Clause) → HasMarks (length m) whole → Scanned m whole 0 whole
scanned_start m whole f = record { found = λ n. absurd (n refl); fits = f; says = scan_start m whole }

pub scanned_end : (m : List ℕ) (whole : Clause) (f : ℕ) (c : Clause) → Scanned m whole f c → c ≡ [] → scan_of m f [] ≡ hint_of m whole
scanned_end m whole f c z e = rw e at z.says

-- by the first literal of the rest
module _ (m : List ℕ) (whole : Clause) (f : ℕ) (c : Clause) (l : ℕ) (d : Clause) (z : Scanned m whole f c) (e : c ≡ l ∷ d) where
  two : 2 ≤ l
  two = (fits_parts (length m) c l d z.fits e).0.0

  rest : HasMarks (length m) d
  rest = (fits_parts (length m) c l d z.fits e).1

  pub scanned_false : (g : ℕ) → is_false m l ≡ true → g ≡ f → Scanned m whole g d
  scanned_false g b q = record { found = rw q z.found; fits = rest; says = scan_false m c l d e two f g b q ∙ z.says }

  pub scanned_first : (g : ℕ) → is_false m l ≡ false → f ≡ 0 → g ≡ l → Scanned m whole g d
  scanned_first g b n q = record { found = λ _. rw q (fits_parts (length m) c l d z.fits e).0.1; fits = rest; says = scan_first m c l d e two f g b n q ∙ z.says }

  pub scanned_again : (g : ℕ) → is_false m l ≡ false → f ≡ l → g ≡ f → Scanned m whole g d
  scanned_again g b n q = record { found = rw q z.found; fits = rest; says = scan_again m c l d e two f g b n q ∙ z.says }

  pub scanned_other : is_false m l ≡ false → (f ≡ 0 → ⊥) → (f ≡ l → ⊥) → Hint.Neither ≡ hint_of m whole
  scanned_other b n k = sym (scan_other m c l d e two f b n k) ∙ z.says

-- ---- a count on its way: how many literals passed were not false, and the last of these

pub record Counted (m : List ℕ) (whole : Clause) (left f : ℕ) (c : Clause) : Type 0 where
  pub fits : HasMarks (length m) c
  pub found : FoundFits m f
  pub none : left ≡ 0 → (f ≡ 0) × (not_false m whole ≡ not_false m c)
  pub one : left ≡ 1 → (f ≡ 0 → ⊥) × (not_false m whole ≡ f ∷ not_false m c)

pub counted_start : (m : List ℕ) (whole : Clause) → HasMarks (length m) whole → Counted m whole 0 0 whole
counted_start m whole f = record { fits = f; found = λ n. absurd (n refl); none = λ _. (refl, refl); one = λ e. absurd (omega arith) }

-- where no more than one was, it tells what the clause says
pub counted_end : (m : List ℕ) (whole : Clause) (left f : ℕ) (c : Clause) → Counted m whole left f c → c ≡ [] → left < 2 → scan_of m f [] ≡ hint_of m whole
unfolding hint_of scan_of not_false
counted_end m whole zero f c z e h = let x = z.none refl in rw (x.0, x.1, e) refl
counted_end m whole (suc zero) f c z e h = let x = z.one refl in rw (x.1, e, ne_eqb f 0 x.0) refl
counted_end m whole (suc (suc n)) f c z e h = absurd (omega arith)

-- by the first literal of the rest
module _ (m : List ℕ) (whole : Clause) (left f : ℕ) (c : Clause) (l : ℕ) (d : Clause) (z : Counted m whole left f c) (e : c ≡ l ∷ d) (left' f' : ℕ) where
  first : (2 ≤ l) × (l / 2 < length m)
  first = (fits_parts (length m) c l d z.fits e).0

  others : HasMarks (length m) d
  others = (fits_parts (length m) c l d z.fits e).1

  pub counted_false : is_false m l ≡ true → left' ≡ left → f' ≡ f → Counted m whole left' f' d
  unfolding not_false
  counted_false b p q =
      let same : not_false m c ≡ not_false m d = rw (e, b) refl in
      rw (p, q) (record { fits = others; found = z.found; none = λ n. ((z.none n).0, (z.none n).1 ∙ same); one = λ n. ((z.one n).0, (z.one n).1 ∙ ap (λ (x : List ℕ). f ∷ x) same) })

  pub counted_more : is_false m l ≡ false → left' ≡ left + 1 → f' ≡ l → Counted m whole left' f' d
  unfolding not_false
  counted_more b p q =
      let same : not_false m c ≡ l ∷ not_false m d = rw (e, b) refl in
      rw (p, q) (record { fits = others; found = λ _. first.1; none = λ n. absurd (omega arith); one = λ n. (λ y. omega (arith, first.0), (z.none (omega arith)).1 ∙ same) })
