-- The access of a number is there where there are that many, and the ifs before it in the text are those with the lower numbers. Assumes nothing.
use mathlib.Core.Path.{◌≡◌, refl, ◌∙◌}
use mathlib.Core.List.{List}
use mathlib.Core.Logic.{◌⊎◌, inl, inr, ◌↔◌}
use mathlib.Core.Bool.{Bool, true, false, cond}
use Prim.Native.Nat.{ℕ, ◌+◌, ◌≤◌, ◌<◌}
use native.Mathlib.Omega.{arith}
use lib.Dec.{ltb, eqb}
use borrow.Author.Tests.{ltb-true, ltb-false, eqb-true, eqb-false}
use Rattle.routine_command.specs.Command.{touches}
use Rattle.routine_faults.specs.Step.{no_counts, accesses, counts_after, counts_after_by, counts_after_if}
use Rattle.routine.specs.Routine.{Arm, done, plain, if_else}
use Rattle.routine.specs.Decode.{routine, decode}
use Rattle.routine.specs.Access.{access_by, access_here, or_else, access_at, ifs_before}
use Rattle.routine.specs.Inner.Stands.{Stands}
use Rattle.routine_header.specs.declared.Header.{Header}
use Rattle.routine_command.specs.declared.Condition.{Condition}
use Rattle.routine_command.specs.declared.Conversion.{Conversion}
use Rattle.routine_command.specs.declared.Operation.{Operation}
use Rattle.routine_command.specs.declared.Simple.{Simple}
use Rattle.routine_command.specs.declared.Touch.{Touch}
use Rattle.routine_faults.specs.declared.Counts.{Counts}
use Rattle.std.specs.Prelude.{Option, Some, None}
use Rattle.routine.specs.declared.Access.{Access}
use Rattle.routine.proofs.Views.{induction}
use Rattle.routine.proofs.Decoded.{decoded}
use Rattle.routine.proofs.Counting.{same-ifs}
use Rattle.routine_command.specs.declared.Mark.{Mark}

-- ---- the ifs of an arm

-- what holds of the counts before each if
abbrev pub EachIf : (Counts → Type 0) → Arm → Type 0
EachIf P done = Unit {0}
EachIf P (plain at c k rest) = EachIf P rest
EachIf P (if_else at c k first second rest) = P k × EachIf P first × EachIf P second × EachIf P rest

each_map : {P Q : Counts → Type 0} → ((k : Counts) → P k → Q k) → (a : Arm) → EachIf P a → EachIf Q a
each_map f done e = tt
each_map f (plain at c k rest) e = each_map f rest e
each_map f (if_else at c k first second rest) e = (f k e.0, each_map f first e.1, each_map f second e.2, each_map f rest e.3)

-- j is met at or after k, and before k₁
record Between (k k₁ j : Counts) : Type 0 where
  pub from : k.ifs ≤ j.ifs
  pub up_to : j.ifs < k₁.ifs
  pub more : accesses k ≤ accesses j
  pub fewer : accesses j ≤ accesses k₁

-- ---- what is found between two counts

-- the counts before the access of number n are between k and k₁
record Inside (n : ℕ) (k k₁ j : Counts) : Type 0 where
  pub number : accesses j ≡ n
  pub from : k.ifs ≤ j.ifs
  pub up_to : j.ifs ≤ k₁.ifs
  pub low : accesses k ≤ n
  pub high : n < accesses k₁

module _ (n : ℕ) where
  -- where nothing is found, the number is not between them
  abbrev Within : Counts → Counts → Option Access → Type 0
  Within k k₁ None = (n < accesses k) ⊎ (accesses k₁ ≤ n)
  Within k k₁ (Some a) = Inside n k k₁ a.counts

  order : (m : ℕ) → (n < m) ⊎ (m ≤ n)
  order m = go (ltb n m) refl
    where
      go : (b : Bool) → ltb n m ≡ b → (n < m) ⊎ (m ≤ n)
      go true e = inl (ltb-true _ _ e)
      go false e = inr (ltb-false _ _ e)

  module _ (k m k₁ : Counts) (i : k.ifs ≤ m.ifs) (a : accesses k ≤ accesses m) (i₁ : m.ifs ≤ k₁.ifs) (a₁ : accesses m ≤ accesses k₁) where
    -- one part after the other
    within_then : (x y : Option Access) → Within k m x → Within m k₁ y → Within k k₁ (or_else x y)
    within_then (Some a₂) y w u = record { number = w.number; from = w.from; up_to = omega (arith, w.up_to); low = w.low; high = omega (arith, w.high) }
    within_then None None (inl l) u = inl l
    within_then None None (inr l) (inl u) = absurd (omega arith)
    within_then None None (inr l) (inr u) = inr u
    within_then None (Some a₂) w u = record { number = u.number; from = omega (arith, u.from); up_to = u.up_to; low = omega (arith, u.low); high = u.high }

module _ (k : Counts) where
  -- a command adds at most one access
  one_more : (t : Touch) → (accesses k ≤ accesses (counts_after_by t k)) × (accesses (counts_after_by t k) ≤ accesses k + 1)
  one_more Touch.Nothing = (omega arith, omega arith)
  one_more (Touch.Reads d array i) = (omega arith, omega arith)
  one_more (Touch.Writes array i) = (omega arith, omega arith)

  -- it is the access of that number, or is none
  by_touch : (n : ℕ) (t : Touch) (b : Bool) → eqb (accesses k) n ≡ b → Within n k (counts_after_by t k) (cond b (access_by t k) None)
  by_touch n Touch.Nothing true e = inr (let z = eqb-true (accesses k) n e in omega arith)
  by_touch n (Touch.Reads d array i) true e =
      let z = eqb-true (accesses k) n e in
      record { number = z; from = omega arith; up_to = omega arith; low = omega arith; high = omega arith }
  by_touch n (Touch.Writes array i) true e =
      let z = eqb-true (accesses k) n e in
      record { number = z; from = omega arith; up_to = omega arith; low = omega arith; high = omega arith }
  by_touch n t false e = go (order n (accesses k))
    where
      go : (n < accesses k) ⊎ (accesses k ≤ n) → (n < accesses k) ⊎ (accesses (counts_after_by t k) ≤ n)
      go (inl l) = inl l
      go (inr l) = inr (let z = eqb-false (accesses k) n e in omega (arith, one_more t))

  here_within : (n : ℕ) (c : Simple Conversion Operation) → Within n k (counts_after c k) (access_here c k n)
  unfolding access_here
  here_within n c = by_touch n (touches c) (eqb (accesses k) n) refl

-- ---- an arm that stands between two counts

record Spans (n : ℕ) (k : Counts) (a : Arm) (k₁ : Counts) : Type 0 where
  pub ifs : k.ifs ≤ k₁.ifs
  pub accessed : accesses k ≤ accesses k₁
  pub each : EachIf (Between k k₁) a
  pub within : Within n k k₁ (access_at a n)

wider : (k k₁ m m₁ : Counts) → m.ifs ≤ k.ifs → accesses m ≤ accesses k → k₁.ifs ≤ m₁.ifs → accesses k₁ ≤ accesses m₁ → (a : Arm)
    → EachIf (Between k k₁) a → EachIf (Between m m₁) a
wider k k₁ m m₁ i a i₁ a₁ =
    each_map (λ j b. record { from = omega (arith, b.from); up_to = omega (arith, b.up_to); more = omega (arith, b.more); fewer = omega (arith, b.fewer) })

module _ (n : ℕ) where
  spans_done : (k : Counts) → Spans n k done k
  unfolding access_at
  spans_done k = record { ifs = omega arith; accessed = omega arith; each = tt; within = order n (accesses k) }

  spans_plain : (at : ℕ) (c : Simple Conversion Operation) (k : Counts) (rest : Arm) (k₁ : Counts) → Spans n (counts_after c k) rest k₁ → Spans n k (plain at c k rest) k₁
  unfolding access_at
  spans_plain at c k rest k₁ s =
      let e = same-ifs c k in
      let m = one_more k (touches c) in
      let i = s.ifs in
      let a = s.accessed in
      record {
        ifs = omega arith;
        accessed = omega arith;
        each = wider (counts_after c k) k₁ k k₁ (omega arith) (omega arith) (omega arith) (omega arith) rest s.each;
        within = within_then n k (counts_after c k) k₁ (omega arith) m.0 i a (access_here c k n) (access_at rest n) (here_within k n c) s.within;
      }

  spans_fork : (at : ℕ) (c : Condition) (k : Counts) (first second rest : Arm) (k₂ k₃ k₁ : Counts) → Spans n (counts_after_if k) first k₂ → Spans n k₂ second k₃
      → Spans n k₃ rest k₁ → Spans n k (if_else at c k first second rest) k₁
  unfolding access_at
  spans_fork at c k first second rest k₂ k₃ k₁ x y z =
      let i = x.ifs in
      let a = x.accessed in
      let i₂ = y.ifs in
      let a₂ = y.accessed in
      let i₃ = z.ifs in
      let a₃ = z.accessed in
      let u = access_at first n in
      let v = access_at second n in
      let w = access_at rest n in
      record {
        ifs = omega arith;
        accessed = omega arith;
        each = (
          record { from = omega arith; up_to = omega arith; more = omega arith; fewer = omega arith },
          wider (counts_after_if k) k₂ k k₁ (omega arith) (omega arith) (omega arith) (omega arith) first x.each,
          wider k₂ k₃ k k₁ (omega arith) (omega arith) (omega arith) (omega arith) second y.each,
          wider k₃ k₁ k k₁ (omega arith) (omega arith) (omega arith) (omega arith) rest z.each,
        );
        within =
            within_then n k (counts_after_if k) k₁ (omega arith) (omega arith) (omega arith) (omega arith) None (or_else u (or_else v w)) (order n (accesses k))
            (within_then n (counts_after_if k) k₂ k₁ i a (omega arith) (omega arith) u (or_else v w) x.within
            (within_then n k₂ k₃ k₁ i₂ a₂ i₃ a₃ v w y.within z.within));
      }

spans : (bs : List ℕ) (h : Header) (n : ℕ) (a : Arm) (depth : ℕ) (close : Mark) (at : ℕ) (k : Counts) (end : ℕ) (k₁ : Counts) → Stands bs h depth close at k a end k₁
    → Spans n k a k₁
spans bs h n =
    induction bs h (λ depth close at k a end k₁. Spans n k a k₁)
    (λ depth close at k mark e l. spans_done n k)
    (λ depth close at k c rest end k₁ v go. spans_plain n at c k rest k₁ go)
    (λ depth close at k c first second rest end k₁ v go₁ go₂ go₃. spans_fork n at c k first second rest v.k₂ v.k₃ k₁ go₁ go₂ go₃)

-- ---- the access of a number that there is

pub record Found (a : Arm) (n : ℕ) : Type 0 where
  pub counts : Counts
  pub array : ℕ
  pub i : ℕ
  pub here : access_at a n ≡ Some (record { counts = counts; array = array; i = i })
  pub number : accesses counts ≡ n

pub access-found : (bs : List ℕ) (h : Header) (a : Arm) (k : Counts) → decode bs ≡ routine h a k → (n : ℕ) → n < accesses k → Found a n
access-found bs h a k e n l = go (access_at a n) refl (spans bs h n a 0 Mark.End _ _ _ k (decoded bs h a k e).stands).within
  where
    go : (x : Option Access) → access_at a n ≡ x → Within n no_counts k x → Found a n
    go None q (inl m) = absurd (omega arith)
    go None q (inr m) = absurd (omega arith)
    go (Some x) q w = record { counts = x.counts; array = x.array; i = x.i; here = q; number = w.number }

-- ---- the ifs before it

-- an if with the counts k stands before the access of number n, before which `before` ifs stand, exactly when no more accesses stand before the if
abbrev pub Before : (before n : ℕ) → Counts → Type 0
Before before n k = (k.ifs < before) ↔ (accesses k ≤ n)

module _ (j : Counts) (n : ℕ) where
  ends-before : (k k₁ : Counts) → k₁.ifs ≤ j.ifs → accesses k₁ ≤ n → (a : Arm) → EachIf (Between k k₁) a → EachIf (Before j.ifs n) a
  ends-before k k₁ i l = each_map (λ m b. (λ _. omega (arith, b.fewer), λ _. omega (arith, b.up_to)))

  begins-after : (k k₁ : Counts) → j.ifs ≤ k.ifs → n < accesses k → (a : Arm) → EachIf (Between k k₁) a → EachIf (Before j.ifs n) a
  begins-after k k₁ i l = each_map (λ m b. (λ u. absurd (omega (arith, b.from)), λ u. absurd (omega (arith, b.more))))

  module _ (array i : ℕ) where
    -- the access is in the arm
    abbrev Here : Arm → Type 0
    Here a = access_at a n ≡ Some (record { counts = j; array = array; i = i })

    before-plain : (c : Simple Conversion Operation) (k : Counts) (rest : Arm) (k₁ : Counts) → Spans n (counts_after c k) rest k₁ → (Here rest → EachIf (Before j.ifs n) rest)
        → (x : Option Access) → Within n k (counts_after c k) x → or_else x (access_at rest n) ≡ Some (record { counts = j; array = array; i = i }) → EachIf (Before j.ifs n) rest
    before-plain c k rest k₁ s go None w e = go e
    before-plain c k rest k₁ s go (Some a₁) w e =
        let z : a₁.counts ≡ j = cc in
        let w₁ = rw z at w in
        begins-after (counts_after c k) k₁ w₁.up_to w₁.high rest s.each

    module _ (k : Counts) (first second rest : Arm) (k₂ k₃ k₁ : Counts) (x : Spans n (counts_after_if k) first k₂) (y : Spans n k₂ second k₃) (z : Spans n k₃ rest k₁)
        (go₁ : Here first → EachIf (Before j.ifs n) first) (go₂ : Here second → EachIf (Before j.ifs n) second)
        (go₃ : Here rest → EachIf (Before j.ifs n) rest) where
      abbrev All : Type 0
      All = Before j.ifs n k × EachIf (Before j.ifs n) first × EachIf (Before j.ifs n) second × EachIf (Before j.ifs n) rest

      in_first_lem : Here first → Inside n (counts_after_if k) k₂ j → All
      in_first_lem e w =
          let f = w.from in
          let u = w.up_to in
          let l = w.low in
          let m = w.high in
          let i₂ = y.ifs in
          let a₂ = y.accessed in
          ((λ _. omega arith, λ _. omega arith), go₁ e, begins-after k₂ k₃ u m second y.each, begins-after k₃ k₁ (omega arith) (omega arith) rest z.each)

      in_second : Here second → Inside n k₂ k₃ j → All
      in_second e w =
          let f = w.from in
          let l = w.low in
          let i₁ = x.ifs in
          let a₁ = x.accessed in
          ((λ _. omega arith, λ _. omega arith), ends-before (counts_after_if k) k₂ f l first x.each, go₂ e, begins-after k₃ k₁ w.up_to w.high rest z.each)

      in_rest : Here rest → Inside n k₃ k₁ j → All
      in_rest e w =
          let f = w.from in
          let l = w.low in
          let i₁ = x.ifs in
          let a₁ = x.accessed in
          let i₂ = y.ifs in
          let a₂ = y.accessed in
          ((λ _. omega arith, λ _. omega arith), ends-before (counts_after_if k) k₂ (omega arith) (omega arith) first x.each, ends-before k₂ k₃ f l second y.each, go₃ e)

      before_fork : (u v w : Option Access) → access_at first n ≡ u → access_at second n ≡ v → access_at rest n ≡ w → Within n (counts_after_if k) k₂ u → Within n k₂ k₃ v
          → Within n k₃ k₁ w → or_else u (or_else v w) ≡ Some (record { counts = j; array = array; i = i }) → All
      before_fork (Some a₁) v w p q r s t o e = let z₁ : a₁.counts ≡ j = cc in in_first_lem (p ∙ e) (rw z₁ at s)
      before_fork None (Some a₁) w p q r s t o e = let z₁ : a₁.counts ≡ j = cc in in_second (q ∙ e) (rw z₁ at t)
      before_fork None None (Some a₁) p q r s t o e = let z₁ : a₁.counts ≡ j = cc in in_rest (r ∙ e) (rw z₁ at o)
      before_fork None None None p q r s t o e = let z₁ : ◌≡◌ {A = ℕ} 0 1 = cc in absurd (omega arith)

    before : (bs : List ℕ) (h : Header) (a : Arm) (depth : ℕ) (close : Mark) (at : ℕ) (k : Counts) (end : ℕ) (k₁ : Counts) → Stands bs h depth close at k a end k₁
        → Here a → EachIf (Before j.ifs n) a
    unfolding access_at
    before bs h =
        induction bs h (λ depth close at k a end k₁. Here a → EachIf (Before j.ifs n) a)
        (λ depth close at k mark e l f. tt)
        (λ depth close at k c rest end k₁ v go f.
        before-plain c k rest k₁ (spans bs h n rest _ _ _ _ _ k₁ v.stands) go (access_here c k n) (here_within k n c) f)
        (λ depth close at k c first second rest end k₁ v go₁ go₂ go₃ f.
        let x = spans bs h n first _ _ _ _ _ v.k₂ v.stands-first in
        let y = spans bs h n second _ _ _ _ _ v.k₃ v.stands-second in
        let z = spans bs h n rest _ _ _ _ _ k₁ v.stands in
        before_fork k first second rest v.k₂ v.k₃ k₁ x y z go₁ go₂ go₃ (access_at first n) (access_at second n) (access_at rest n) refl refl refl
        x.within y.within z.within f)

pub ifs-before : (bs : List ℕ) (h : Header) (a : Arm) (k : Counts) → decode bs ≡ routine h a k → (n : ℕ) → n < accesses k → EachIf (Before (ifs_before a n) n) a
unfolding ifs_before
ifs-before bs h a k e n l =
    let f = access-found bs h a k e n l in
    rw f.here (before f.counts n f.array f.i bs h a 0 Mark.End _ _ _ k (decoded bs h a k e).stands f.here)
