-- A course that arrived, and a run that goes the way and comes to the access, are the same. Assumes nothing.
use mathlib.Core.Path.{◌≡◌, refl, sym, ap, subst, ◌∙◌}
use mathlib.Core.Logic.{◌↔◌}
use mathlib.Core.List.{List, [], ◌∷◌, ◌++◌}
use mathlib.Core.Bool.{Bool, true, false, cond, ◌&&◌}
use Prim.Native.Nat.{ℕ, ◌+◌, ◌<◌, ◌≤◌}
use native.Mathlib.Omega.{arith}
use lib.Dec.{eqb}
use borrow.Author.Tests.{eq-eqb, ne_eqb, eqb-true, le-ltb}
use Rattle.bitvec.specs.declared.Whole.{Whole}
use Rattle.routine_header.specs.declared.Header.{Header}
use Rattle.routine_faults.specs.Step.{accesses}
use Rattle.routine_faults.specs.declared.Counts.{Counts}
use Rattle.routine.specs.Routine.{Arm}
use Rattle.routine.specs.Decode.{routine, decode}
use Rattle.routine.specs.Access.{ifs_before}
use Rattle.run_state.specs.Run.{Event, took, came, run_of}
use Rattle.run_state.proofs.Ordered.{Ordered, ordered}
use Rattle.run_state.specs.Course.{keeps, landing, course_to, course}
use Rattle.run_state.specs.Goes.{goes_way, Comes}
use Rattle.run_state.specs.declared.Course.{Course}
use Rattle.run_state.specs.declared.Landing.{Landing}

module _ (ds : List ℕ) (access before : ℕ) where
  -- an if that the course went on from
  kept : (b : Bool) (number array : ℕ) (index : Whole) (x : Course) → cond b x (Course.Astray number) ≡ Course.Arrived (landing array index)
      → (b ≡ true) × (x ≡ Course.Arrived (landing array index))
  kept true number array index x e = (refl, e)
  kept false number array index x e = let z : ◌≡◌ {A = ℕ} 0 1 = cc in absurd (omega arith)

  -- a course that arrived came to the access
  comes : (es : List Event) (array : ℕ) (index : Whole) → course ds access before es ≡ Course.Arrived (landing array index) → Comes access array index es
  unfolding course_to
  comes [] array index e = let z : ◌≡◌ {A = ℕ} 0 1 = cc in absurd (omega arith)
  comes (took number arm ∷ es) array index e =
      let x = comes es array index (kept (keeps ds before number arm) number array index (course ds access before es) e).1 in
      record { before = took number arm ∷ x.before; after = x.after; there = ap (λ l. took number arm ∷ l) x.there }
  comes (came number array₁ index₁ ∷ es) array index e = pick (comes es array index) (eqb number access) refl e
    where
      pick : (course ds access before es ≡ Course.Arrived (landing array index) → Comes access array index es) → (b : Bool) → eqb number access ≡ b
          → cond b (Course.Arrived (landing array₁ index₁)) (course ds access before es) ≡ Course.Arrived (landing array index) → Comes access array index (came number array₁ index₁ ∷ es)
      pick go true n q =
          let z : landing array₁ index₁ ≡ landing array index = cc in
          rw (eqb-true number access n, ap (λ (l : Landing). l.array) z, ap (λ (l : Landing). l.index) z) (record { before = []; after = es; there = refl })
      pick go false n q =
          let x = go q in
          record { before = came number array₁ index₁ ∷ x.before; after = x.after; there = ap (λ l. came number array₁ index₁ ∷ l) x.there }

  -- no if that stands after the access matters
  later : (n m : ℕ) (es : List Event) → access < n → Ordered access before n m es → goes_way ds before es ≡ true
  unfolding goes_way
  later n m [] l o = refl
  later n m (took number arm ∷ es) l o = rw (le-ltb number before (o.0 l)) (later n m es l o.1)
  later n m (came number array index ∷ es) l o = later (number + 1) m es (omega (arith, o.0)) o.1

  -- a course that arrived went the way
  goes : (n m : ℕ) (es : List Event) (array : ℕ) (index : Whole) → Ordered access before n m es → course ds access before es ≡ Course.Arrived (landing array index)
      → goes_way ds before es ≡ true
  unfolding course_to goes_way
  goes n m [] array index o e = refl
  goes n m (took number arm ∷ es) array index o e =
      let q = kept (keeps ds before number arm) number array index (course ds access before es) e in
      rw q.0 (goes n m es array index o.1 q.1)
  goes n m (came number array₁ index₁ ∷ es) array index o e =
      pick (λ q. goes (number + 1) m es array index o.1 q) (λ l. later (number + 1) m es l o.1) (eqb number access) refl e
    where
      pick : (course ds access before es ≡ Course.Arrived (landing array index) → goes_way ds before es ≡ true) → (access < number + 1 → goes_way ds before es ≡ true) → (b : Bool)
          → eqb number access ≡ b → cond b (Course.Arrived (landing array₁ index₁)) (course ds access before es) ≡ Course.Arrived (landing array index) → goes_way ds before es ≡ true
      pick go past true n q = let z = eqb-true number access n in past (omega arith)
      pick go past false n q = go q

  -- the access comes no earlier than what is come to before it
  no_earlier : (n m : ℕ) (es : List Event) (array : ℕ) (index : Whole) (fs : List Event) → Ordered access before n m (es ++ came access array index ∷ fs) → n ≤ access
  no_earlier n m [] array index fs o = o.0
  no_earlier n m (took number arm ∷ es) array index fs o = no_earlier n m es array index fs o.1
  no_earlier n m (came number array₁ index₁ ∷ es) array index fs o =
      let l = no_earlier (number + 1) m es array index fs o.1 in
      omega (arith, o.0)

  -- a run that goes the way and comes to the access has a course that arrived there
  arrives : (n m : ℕ) (es : List Event) (array : ℕ) (index : Whole) (fs : List Event) → Ordered access before n m (es ++ came access array index ∷ fs)
      → goes_way ds before (es ++ came access array index ∷ fs) ≡ true → course ds access before (es ++ came access array index ∷ fs) ≡ Course.Arrived (landing array index)
  unfolding course_to goes_way
  arrives n m [] array index fs o e = rw (eq-eqb access access refl) refl
  arrives n m (took number arm ∷ es) array index fs o e = pick (arrives n m es array index fs o.1) (keeps ds before number arm) e
    where
      pick : (goes_way ds before (es ++ came access array index ∷ fs) ≡ true → course ds access before (es ++ came access array index ∷ fs) ≡ Course.Arrived (landing array index))
          → (b : Bool) → b && goes_way ds before (es ++ came access array index ∷ fs) ≡ true
          → cond b (course ds access before (es ++ came access array index ∷ fs)) (Course.Astray number) ≡ Course.Arrived (landing array index)
      pick go true q = go q
      pick go false q = let y : ◌≡◌ {A = ℕ} 0 1 = cc in absurd (omega arith)
  arrives n m (came number array₁ index₁ ∷ es) array index fs o e =
      let l = no_earlier (number + 1) m es array index fs o.1 in
      rw (ne_eqb number access (λ z. omega arith)) (arrives (number + 1) m es array index fs o.1 e)

-- of the run of a routine that has the access, whatever the index
module _ (bs ins ds : List ℕ) (h : Header) (a : Arm) (k : Counts) (d : decode bs ≡ routine h a k) (access : ℕ) (l : access < accesses k) where
  abbrev before : ℕ
  before = ifs_before a access

  abbrev es : List Event
  es = (run_of bs ins h a).events

  in_order : Ordered access before 0 (accesses k) es
  in_order = ordered bs ins h a k d access l

  pub arrival : (array : ℕ) (index : Whole)
      → (course ds access before es ≡ Course.Arrived (landing array index)) ↔ ((goes_way ds before es ≡ true) × Comes access array index es)
  arrival array index = (
    (λ e. (goes ds access before 0 (accesses k) es array index in_order e, comes ds access before es array index e)),
    (λ p.
        let c = p.1 in
        ap (course ds access before) c.there
        ∙ arrives ds access before 0 (accesses k) c.before array index c.after (subst (Ordered access before 0 (accesses k)) c.there in_order)
        (sym (ap (goes_way ds before) c.there) ∙ p.0)),
  )
