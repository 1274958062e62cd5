-- A run over an arm whose accesses all have greater numbers does not come to the named access. Assumes nothing.
use Rattle.routine_command.specs.declared.Mark.{Mark}
use mathlib.Core.Path.{sym, subst}
use mathlib.Core.List.{List, [], ◌∷◌}
use mathlib.Core.Bool.{cond}
use Prim.Native.Nat.{ℕ, ◌+◌, ◌<◌}
use native.Mathlib.Omega.{arith}
use borrow.Author.Tests.{ne_eqb}
use Rattle.bitvec.specs.declared.Whole.{Whole}
use Rattle.routine_command.specs.Command.{touches}
use Rattle.routine_faults.specs.Step.{accesses, counts_after_if}
use Rattle.routine.specs.Routine.{Arm}
use Rattle.routine.specs.Inner.Stands.{Stands}
use Rattle.routine_header.specs.declared.Header.{Header}
use Rattle.routine_faults.specs.declared.Counts.{Counts}
use Rattle.routine_command.specs.declared.Touch.{Touch}
use Rattle.routine.proofs.Views.{induction}
use Rattle.run_state.specs.State.{with_arm, holds, executed}
use Rattle.run_state.specs.Run.{took, came, events_by, events_at, run_arm, Execution, events_then, run_on}
use Rattle.run_state.specs.declared.State.{State}
use Rattle.run_state.specs.Course.{keeps, course_to, course}
use Rattle.run_state.specs.declared.Course.{Course}
use Rattle.run_state.proofs.Laws.{onward, course_append}
use Rattle.run_state.proofs.Ordered.{run_then_by, after_grows, accesses_grow}
use Rattle.translation_meaning.proofs.Stretches.{by_cond}

-- ---- a course that goes on

-- the run has not come to the access
abbrev pub Elsewhere : Course → Type 0
Elsewhere (Course.Astray number) = Unit {0}
Elsewhere Course.Passing = Unit {0}
Elsewhere (Course.Arrived landing) = ⊥

pub elsewhere_then : (x y : Course) → Elsewhere x → Elsewhere y → Elsewhere (onward x y)
elsewhere_then (Course.Astray number) y p q = tt
elsewhere_then Course.Passing y p q = q
elsewhere_then (Course.Arrived landing) y p q = p

-- ---- the numbers

module _ (bs ins : List ℕ) (h : Header) (ds : List ℕ) (access before : ℕ) where
  -- the run over x does not come to the access
  abbrev pub Misses : Execution → Type 0
  Misses x = Elsewhere (course ds access before x.events)

  misses_then : (x : Execution) (go : State → Execution) → Misses x → Misses (go x.state) → Misses (run_on x go)
  misses_then x go p q =
      run_then_by Misses x go
      (λ e. subst Elsewhere (sym (course_append ds access before x.events (go x.state).events))
      (elsewhere_then (course ds access before x.events) (course ds access before (go x.state).events) p q))
      (λ a e. p)

  misses_came : (number array : ℕ) (index : Whole) → access < number → Elsewhere (course ds access before (came number array index ∷ []))
  unfolding course_to
  misses_came number array index l = rw (ne_eqb number access (λ e. omega arith)) tt

  misses_simple : (t : Touch) (k : Counts) (s : State) → access < accesses k → Elsewhere (course ds access before (events_by bs t k s))
  unfolding course_to
  misses_simple Touch.Nothing k s l = tt
  misses_simple (Touch.Reads d array i) k s l = misses_came (accesses k) array _ l
  misses_simple (Touch.Writes array i) k s l = misses_came (accesses k) array _ l

  misses_took : (number arm : ℕ) (x : Execution) → Misses x → Misses (events_then (took number arm ∷ []) x)
  unfolding course_to
  misses_took number arm x p =
      by_cond Elsewhere (keeps ds before number arm) (course ds access before x.events) (Course.Astray number) (λ e. p) (λ e. tt)

  -- an arm whose accesses all have greater numbers
  pub misses : (a : Arm) (depth : ℕ) (close : Mark) (at : ℕ) (k : Counts) (end : ℕ) (k₁ : Counts) → Stands bs h depth close at k a end k₁
      → access < accesses k → (r : State) → Misses (run_arm bs ins h a r)
  unfolding run_arm course_to
  misses =
      induction bs h (λ depth close at k a end k₁. access < accesses k → (r : State) → Misses (run_arm bs ins h a r))
      (λ depth close at k mark e l f r. tt)
      (λ depth close at k c rest end k₁ v go f r.
      misses_then (record { events = events_at bs c k r; state = executed bs ins h c k r }) (run_arm bs ins h rest) (misses_simple (touches c) k r f)
      (go (omega (arith, after_grows c k)) (executed bs ins h c k r)))
      (λ depth close at k c first second rest end k₁ v go₁ go₂ go₃ f r.
      let g₁ = accesses_grow bs h first (depth + 1) Mark.Else (at + 4) (counts_after_if k) v.else v.k₂ v.stands-first in
      let g₂ = accesses_grow bs h second (depth + 1) Mark.EndIf v.else v.k₂ v.next v.k₃ v.stands-second in
      let x : Execution =
      cond (holds bs c r) (events_then (took k.ifs 0 ∷ []) (run_arm bs ins h first (with_arm r k.ifs 0)))
      (events_then (took k.ifs 1 ∷ []) (run_arm bs ins h second (with_arm r k.ifs 1))) in
      misses_then x (run_arm bs ins h rest)
      (by_cond Misses (holds bs c r) (events_then (took k.ifs 0 ∷ []) (run_arm bs ins h first (with_arm r k.ifs 0)))
      (events_then (took k.ifs 1 ∷ []) (run_arm bs ins h second (with_arm r k.ifs 1)))
      (λ e. misses_took k.ifs 0 (run_arm bs ins h first (with_arm r k.ifs 0)) (go₁ (omega arith) (with_arm r k.ifs 0)))
      (λ e. misses_took k.ifs 1 (run_arm bs ins h second (with_arm r k.ifs 1)) (go₂ (omega arith) (with_arm r k.ifs 1))))
      (go₃ (omega arith) x.state))
