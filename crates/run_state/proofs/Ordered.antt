-- What a run comes to stands in the order of the text: the accesses come with growing numbers, and an if that it comes to after an access does not stand
-- before this one. Assumes nothing.
use Rattle.routine_command.specs.declared.Mark.{Mark}
use mathlib.Core.Path.{◌≡◌, refl}
use mathlib.Core.List.{List, [], ◌∷◌, ◌++◌}
use mathlib.Core.Bool.{Bool, true, false, cond}
use Prim.Native.Nat.{ℕ, ◌+◌, ◌<◌, ◌≤◌}
use native.Mathlib.Omega.{arith}
use lib.ListN.{length}
use lib.Dec.{ltb}
use borrow.Author.Tests.{ltb-true, ltb-false}
use Rattle.std.proofs.Common.{Option, None, Some}
use Rattle.run_state.specs.declared.Stop.{Stop}
use Rattle.routine_header.specs.Header.{first_command}
use Rattle.routine_header.specs.declared.Header.{Header}
use Rattle.routine_command.specs.Command.{touches}
use Rattle.routine_faults.specs.Step.{accesses, counts_after, counts_after_by, counts_after_if}
use Rattle.routine_faults.specs.Inputs.{given}
use Rattle.routine_faults.specs.declared.Counts.{Counts}
use Rattle.routine_command.specs.declared.Conversion.{Conversion}
use Rattle.routine_command.specs.declared.Operation.{Operation}
use Rattle.routine_command.specs.declared.Simple.{Simple}
use Rattle.routine_command.specs.declared.Touch.{Touch}
use Rattle.routine.specs.Routine.{Arm}
use Rattle.routine.specs.Decode.{routine, decode, no_counts}
use Rattle.routine.specs.Access.{ifs_before}
use Rattle.routine.specs.Inner.Stands.{Stands}
use Rattle.routine.proofs.Decoded.{decoded}
use Rattle.routine.proofs.Numbering.{EachIf, Before, ifs-before}
use Rattle.routine.proofs.Views.{induction}
use Rattle.run_state.specs.State.{initial, with_arm, holds, executed}
use Rattle.run_state.specs.declared.State.{State}
use Rattle.run_state.specs.Run.{Event, took, came, Execution, unless_stopped, run_on, events_by, events_at, run_arm, run_of, events_then}

-- a run stopped, or it goes on
pub run_then_by : (Q : Execution → Type 0) (x : Execution) (go : State → Execution) → (x.state.stop ≡ None → Q (events_then x.events (go x.state)))
    → ((access : Stop) → x.state.stop ≡ Some access → Q x) → Q (run_on x go)
run_then_by Q x go p q = pick x.state.stop refl
  where
    pick : (u : Option Stop) → x.state.stop ≡ u → Q (unless_stopped u x.events x.state go)
    pick None e = p e
    pick (Some access) e = q access e

-- ---- the numbers of the accesses: an arm has those from the counts before it up to the counts after it

pub after_grows : (c : Simple Conversion Operation) (k : Counts) → accesses k ≤ accesses (counts_after c k)
after_grows (Simple.Set d x) k = omega arith
after_grows (Simple.Convert op d s) k = omega arith
after_grows (Simple.Compute op d s t) k = omega arith
after_grows (Simple.Read d a i) k = omega arith
after_grows (Simple.Write a i s) k = omega arith

pub accesses_grow : (bs : List ℕ) (h : Header) (a : Arm) (depth : ℕ) (close : Mark) (at : ℕ) (k : Counts) (end : ℕ) (k₁ : Counts) → Stands bs h depth close at k a end k₁
    → accesses k ≤ accesses k₁
accesses_grow bs h =
    induction bs h (λ depth close at k a end k₁. accesses k ≤ accesses k₁)
    (λ depth close at k mark e l. omega arith)
    (λ depth close at k c rest end k₁ v go. omega (arith, after_grows c k))
    (λ depth close at k c first second rest end k₁ v go₁ go₂ go₃. omega arith)

-- ---- the events in order

module _ (access before : ℕ) where
  -- from the access n up to the access m: each access comes once, and an if that comes after the named access is none of the `before` ifs before that one
  abbrev pub Ordered : (n m : ℕ) → List Event → Type 0
  Ordered n m [] = n ≤ m
  Ordered n m (took number arm ∷ es) = (access < n → before ≤ number) × Ordered n m es
  Ordered n m (came number array index ∷ es) = (n ≤ number) × Ordered (number + 1) m es

  -- from an earlier access on
  earlier : (n₁ n m : ℕ) (es : List Event) → n₁ ≤ n → Ordered n m es → Ordered n₁ m es
  earlier n₁ n m [] l o = omega arith
  earlier n₁ n m (took number arm ∷ es) l o = ((λ p. o.0 (omega arith)), earlier n₁ n m es l o.1)
  earlier n₁ n m (came number array index ∷ es) l o = (omega (arith, o.0), o.1)

  -- up to a later one
  longer : (n m m₁ : ℕ) (es : List Event) → m ≤ m₁ → Ordered n m es → Ordered n m₁ es
  longer n m m₁ [] l o = omega arith
  longer n m m₁ (took number arm ∷ es) l o = (o.0, longer n m m₁ es l o.1)
  longer n m m₁ (came number array index ∷ es) l o = (o.0, longer (number + 1) m m₁ es l o.1)

  ordered_append : (n m l : ℕ) (es fs : List Event) → Ordered n m es → Ordered m l fs → Ordered n l (es ++ fs)
  ordered_append n m l [] fs o p = earlier n m l fs o p
  ordered_append n m l (took number arm ∷ es) fs o p = (o.0, ordered_append n m l es fs o.1 p)
  ordered_append n m l (came number array index ∷ es) fs o p = (o.0, ordered_append (number + 1) m l es fs o.1 p)

  ordered_then : (n m l : ℕ) (x : Execution) (go : State → Execution) → m ≤ l → Ordered n m x.events → ((s : State) → Ordered m l (go s).events)
      → Ordered n l (run_on x go).events
  ordered_then n m l x go f o p =
      run_then_by (λ (z : Execution). Ordered n l z.events) x go
      (λ e. ordered_append n m l x.events (go x.state).events o (p x.state))
      (λ a e. longer n m l x.events f o)

  ordered_simple : (bs : List ℕ) (t : Touch) (k : Counts) (s : State) → Ordered (accesses k) (accesses (counts_after_by t k)) (events_by bs t k s)
  ordered_simple bs Touch.Nothing k s = omega arith
  ordered_simple bs (Touch.Reads d array i) k s = (omega arith, omega arith)
  ordered_simple bs (Touch.Writes array i) k s = (omega arith, omega arith)

  ordered_cond : (n m : ℕ) (b : Bool) (x y : Execution) → Ordered n m x.events → Ordered n m y.events → Ordered n m (cond b x y).events
  ordered_cond n m true x y o p = o
  ordered_cond n m false x y o p = p

  -- an if that stands after the access is none of those before it
  late : (k : Counts) → Before before access k → access < accesses k → before ≤ k.ifs
  late k p l = pick (ltb k.ifs before) refl
    where
      pick : (b : Bool) → ltb k.ifs before ≡ b → before ≤ k.ifs
      pick true e = let m = p.0 (ltb-true k.ifs before e) in absurd (omega arith)
      pick false e = ltb-false k.ifs before e

  module _ (bs ins : List ℕ) (h : Header) where
    ordered_arm : (a : Arm) (depth : ℕ) (close : Mark) (at : ℕ) (k : Counts) (end : ℕ) (k₁ : Counts) → Stands bs h depth close at k a end k₁
        → EachIf (Before before access) a → (s : State) → Ordered (accesses k) (accesses k₁) (run_arm bs ins h a s).events
    unfolding run_arm
    ordered_arm =
        induction bs h
        (λ depth close at k a end k₁. EachIf (Before before access) a → (s : State) → Ordered (accesses k) (accesses k₁) (run_arm bs ins h a s).events)
        (λ depth close at k mark e l f s. omega arith)
        (λ depth close at k c rest end k₁ v go f s.
        ordered_then (accesses k) (accesses (counts_after c k)) (accesses k₁) (record { events = events_at bs c k s; state = executed bs ins h c k s }) (run_arm bs ins h rest)
        (accesses_grow bs h rest depth close _ (counts_after c k) end k₁ v.stands) (ordered_simple bs (touches c) k s) (go f))
        (λ depth close at k c first second rest end k₁ v go₁ go₂ go₃ f s.
        let g₁ = accesses_grow bs h first (depth + 1) Mark.Else (at + 4) (counts_after_if k) v.else v.k₂ v.stands-first in
        let g₂ = accesses_grow bs h second (depth + 1) Mark.EndIf v.else v.k₂ v.next v.k₃ v.stands-second in
        let x = run_arm bs ins h first (with_arm s k.ifs 0) in
        let y = run_arm bs ins h second (with_arm s k.ifs 1) in
        ordered_then (accesses k) (accesses v.k₃) (accesses k₁)
        (cond (holds bs c s) (events_then (took k.ifs 0 ∷ []) x) (events_then (took k.ifs 1 ∷ []) y)) (run_arm bs ins h rest)
        (accesses_grow bs h rest depth close v.next v.k₃ end k₁ v.stands)
        (ordered_cond (accesses k) (accesses v.k₃) (holds bs c s) (events_then (took k.ifs 0 ∷ []) x) (events_then (took k.ifs 1 ∷ []) y)
        (late k f.0, longer (accesses k) (accesses v.k₂) (accesses v.k₃) x.events g₂ (go₁ f.1 (with_arm s k.ifs 0)))
        (late k f.0, earlier (accesses k) (accesses v.k₂) (accesses v.k₃) y.events g₁ (go₂ f.2 (with_arm s k.ifs 1))))
        (go₃ f.3))

-- the run of a routine, with the ifs before the access
pub ordered : (bs ins : List ℕ) (h : Header) (a : Arm) (k : Counts) → decode bs ≡ routine h a k → (access : ℕ) → access < accesses k
    → Ordered access (ifs_before a access) 0 (accesses k) (run_of bs ins h a).events
unfolding run_of
ordered bs ins h a k e access l =
    ordered_arm access (ifs_before a access) bs ins h a 0 Mark.End (first_command h) no_counts (length bs) k (decoded bs h a k e).stands (ifs-before bs h a k e access l)
    (initial ins (given h))
