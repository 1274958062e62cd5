-- What a `map_err`, and the `?` after it, say of the result that they are called on. Assumes nothing.
use mathlib.Core.Path.{◌≡◌, refl, sym, ap}
use native.Mathlib.Omega.{arith}
use Prim.Native.Nat.{ℕ}
use Rattle.std.proofs.Common.{Result, Ok, Err, MatchResult}
use Rattle.std.specs.Result.{IsErrAnd}

module _ {T D E : Type 0} (f : E → D) where
  -- what `map_err` gives, where what it makes of an error is f of it
  abbrev pub Mapped : Result T E → Result T D → Type 0
  Mapped w r = MatchResult w (λ x. r ≡ Ok x) (λ e. IsErrAnd r (λ d. d ≡ f e))

  -- an error that `?` hands on is f of the one that there was
  pub mapped_err : (w : Result T E) (d : D) → Mapped w (Err d) → (e : E) × (w ≡ Err e) × (d ≡ f e)
  mapped_err (Ok x) d m = let z : ◌≡◌ {A = ℕ} 0 1 = cc in absurd (omega arith)
  mapped_err (Err e) d m = (e, refl, m)

  -- a value that `?` lets through is the one that there was
  pub mapped_ok : (w : Result T E) (x : T) → Mapped w (Ok x) → w ≡ Ok x
  mapped_ok (Ok y) x m = let q : x ≡ y = cc in ap Ok (sym q)
  mapped_ok (Err e) x m = absurd m
