-- Note 5's call: of two reports that are alike the shorter one, itself. A reference is a place and the value there, so that two are equal only where both
-- are the same.
use Rattle.std.specs.Prelude.{ℕ, ◌≡◌, List, Bool, true, false, cond, length, take, ltb, Result, Ok, Err}
use Rattle.std.specs.Borrow.{Bor}
use Rattle.report_witness.specs.declared.Refusal.{Refusal}

-- the second is the shorter one; of two that are equal in length it is not
abbrev pub is_second : (first second : List ℕ) → Bool
is_second first second = ltb (length second) (length first)

-- no bytes, at the place of the first: its first 0 bytes
pub record NoBytes (first r : Bor (List ℕ)) : Type 0 where
  pub place : r.ref_ptr ≡ first.ref_ptr
  pub bytes : r.now ≡ take 0 first.now

-- what is handed back: of two that are alike the very one that is shorter, and else the first 0 bytes of the first
abbrev pub HandsBack : Result Bool Refusal → (first second r : Bor (List ℕ)) → Type 0
HandsBack (Ok true) first second r = r ≡ cond (is_second first.now second.now) second first
HandsBack (Ok false) first second r = NoBytes first r
HandsBack (Err refusal) first second r = NoBytes first r
