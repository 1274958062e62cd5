-- What is handed back, from what was compared. Assumes nothing.
use Rattle.std.specs.Prelude.{Result, Ok, Err}
use Prim.Native.Nat.{ℕ, ◌<◌, ◌≤◌}
use mathlib.Core.Path.{◌≡◌, refl, ap, subst, ◌∙◌}
use mathlib.Core.List.{List}
use mathlib.Core.Bool.{Bool, true, false, cond}
use native.Mathlib.Omega.{arith}
use lib.ListN.{length}
use lib.Dec.{ltb}
use borrow.Author.Tests.{lt-ltb, le-ltb}
use denote.Ref.{Bor}
use Rattle.report_witness.specs.declared.Refusal.{Refusal}
use Rattle.report_shorter.specs.Shorter.{is_second, NoBytes, HandsBack}

module _ (first second : Bor (List ℕ)) (x : Result Bool Refusal) where
  pub keeps-second : x ≡ Ok true → length second.now < length first.now → HandsBack x first second second
  keeps-second e l = rw (e, lt-ltb (length second.now) (length first.now) l) refl

  pub keeps-first : x ≡ Ok true → length first.now ≤ length second.now → HandsBack x first second first
  keeps-first e l = rw (e, le-ltb (length second.now) (length first.now) l) refl

  module _ (r : Bor (List ℕ)) (none : NoBytes first r) where
    pub not_alike : x ≡ Ok false → HandsBack x first second r
    not_alike e = rw e none

    pub refused : (refusal : Refusal) → x ≡ Err refusal → HandsBack x first second r
    refused refusal e = rw e none

-- ---- what was handed back of two that are alike, by its length

module _ (first second r : Bor (List ℕ)) where
  by_length : (b : Bool) → is_second first.now second.now ≡ b → r ≡ cond b second first
      → (length r.now ≡ length (cond b second.now first.now)) × (ltb (length r.now) (length first.now) ≡ b)
  by_length true e is = (ap (λ (x : Bor (List ℕ)). length x.now) is, ap (λ (x : Bor (List ℕ)). ltb (length x.now) (length first.now)) is ∙ e)
  by_length false e is =
      let n : ℕ = length first.now in
      (ap (λ (x : Bor (List ℕ)). length x.now) is, ap (λ (x : Bor (List ℕ)). ltb (length x.now) n) is ∙ le-ltb n n (omega arith))

  module _ (x : Result Bool Refusal) (alike : x ≡ Ok true) (back : HandsBack x first second r) where
    kept : r ≡ cond (is_second first.now second.now) second first
    kept = subst (λ (y : Result Bool Refusal). HandsBack y first second r) alike back

    -- it is as long as the shorter one
    pub kept_long : length r.now ≡ length (cond (is_second first.now second.now) second.now first.now)
    kept_long = (by_length _ refl kept).0

    -- it is the second exactly where it is shorter than the first
    pub kept_second : ltb (length r.now) (length first.now) ≡ is_second first.now second.now
    kept_second = (by_length _ refl kept).1
