-- A run that comes to an access with an index outside stops there: that is the last thing that it comes to. Assumes nothing.
use mathlib.Core.Path.{◌≡◌, refl}
use mathlib.Core.List.{List, [], ◌∷◌, ◌++◌}
use mathlib.Core.Bool.{Bool, true, false, cond}
use Prim.Native.Nat.{ℕ}
use native.Mathlib.Omega.{arith}
use Rattle.std.proofs.Common.{Option, None, Some}
use Rattle.run_state.specs.declared.Stop.{Stop}
use Rattle.bitvec.specs.declared.Whole.{Whole}
use Rattle.routine_header.specs.Header.{array_size}
use Rattle.routine_header.specs.declared.Header.{Header}
use Rattle.routine_faults.specs.Step.{accesses}
use Rattle.routine_faults.specs.Inputs.{given}
use Rattle.routine_faults.specs.declared.Counts.{Counts}
use Rattle.routine_command.specs.declared.Conversion.{Conversion}
use Rattle.routine_command.specs.declared.Operation.{Operation}
use Rattle.routine_command.specs.declared.Simple.{Simple}
use Rattle.routine.specs.Routine.{Arm, done, plain, if_else}
use Rattle.run_state.specs.State.{initial, with_arm, holds, index_of, stop_at, lies, arrive, executed}
use Rattle.run_state.specs.declared.Side.{Side}
use Rattle.run_state.specs.declared.State.{State}
use Rattle.run_state.specs.Run.{Event, took, came, Execution, events_then, unless_stopped, run_on, events_at, run_arm, run_of}

module _ (bs : List ℕ) (h : Header) where
  -- among the events of a run with this outcome, each access with an index outside is the last, and stopped the run
  abbrev pub Ends : List Event → Option Stop → Type 0
  Ends [] o = Unit {0}
  Ends (took number arm ∷ es) o = Ends es o
  Ends (came access array index ∷ es) o =
      ((side : Side) → lies (array_size bs h array) index ≡ Some side → (es ≡ []) × (o ≡ Some (stop_at access index side))) × Ends es o

  -- such an access, wherever it stands
  pub ends_at : (es : List Event) (access array : ℕ) (index : Whole) (fs : List Event) (o : Option Stop) → Ends (es ++ came access array index ∷ fs) o
      → (side : Side) → lies (array_size bs h array) index ≡ Some side → (fs ≡ []) × (o ≡ Some (stop_at access index side))
  ends_at [] access array index fs o e = e.0
  ends_at (took _ _ ∷ es) access array index fs o e = ends_at es access array index fs o e
  ends_at (came _ _ _ ∷ es) access array index fs o e = ends_at es access array index fs o e.1

  -- a run that goes on came to none
  ends_append : (es fs : List Event) (o : Option Stop) → Ends es None → Ends fs o → Ends (es ++ fs) o
  ends_append [] fs o e f = f
  ends_append (took _ _ ∷ es) fs o e f = ends_append es fs o e f
  ends_append (came _ _ _ ∷ es) fs o e f =
      ((λ side l. let z = (e.0 side l).1 in let n : ◌≡◌ {A = ℕ} 0 1 = cc in absurd (omega arith)), ends_append es fs o e.1 f)

  abbrev EndsIn : Execution → Type 0
  EndsIn x = Ends x.events x.state.stop

  ends_then : (x : Execution) (go : State → Execution) → EndsIn x → ((s : State) → EndsIn (go s)) → EndsIn (run_on x go)
  ends_then x go e f = pick x.state.stop e
    where
      pick : (o : Option Stop) → Ends x.events o → EndsIn (unless_stopped o x.events x.state go)
      pick None g = ends_append x.events (go x.state).events (go x.state).state.stop g (f x.state)
      pick (Some access) g = e

  -- one access
  ends-access : (s next : State) (access array : ℕ) (index : Whole) (l : Option Side) → lies (array_size bs h array) index ≡ l
      → Ends (came access array index ∷ []) (arrive s access index l next).stop
  ends-access s next access array index None e = ((λ side q. let n : ◌≡◌ {A = ℕ} 0 1 = cc in absurd (omega arith)), tt)
  ends-access s next access array index (Some side) e = ((λ side₁ q. (refl, cc)), tt)

  module _ (ins : List ℕ) where
    ends-simple : (c : Simple Conversion Operation) (k : Counts) (s : State) → Ends (events_at bs c k s) (executed bs ins h c k s).stop
    unfolding executed
    ends-simple (Simple.Set d c) k s = tt
    ends-simple (Simple.Convert op d a) k s = tt
    ends-simple (Simple.Compute op d a b) k s = tt
    ends-simple (Simple.Read d array i) k s = ends-access s _ (accesses k) array (index_of bs s i) (lies (array_size bs h array) (index_of bs s i)) refl
    ends-simple (Simple.Write array i a) k s = ends-access s _ (accesses k) array (index_of bs s i) (lies (array_size bs h array) (index_of bs s i)) refl

    ends_cond : (b : Bool) (x y : Execution) → EndsIn x → EndsIn y → EndsIn (cond b x y)
    ends_cond true x y e f = e
    ends_cond false x y e f = f

    ends-arm : (a : Arm) (s : State) → EndsIn (run_arm bs ins h a s)
    unfolding run_arm
    ends-arm done s = tt
    ends-arm (plain at c k rest) s =
        ends_then (record { events = events_at bs c k s; state = executed bs ins h c k s }) (run_arm bs ins h rest) (ends-simple c k s) (ends-arm rest)
    ends-arm (if_else at c k first second rest) s =
        ends_then
        (cond (holds bs c s)
        (events_then (took k.ifs 0 ∷ []) (run_arm bs ins h first (with_arm s k.ifs 0)))
        (events_then (took k.ifs 1 ∷ []) (run_arm bs ins h second (with_arm s k.ifs 1))))
        (run_arm bs ins h rest)
        (ends_cond (holds bs c s)
        (events_then (took k.ifs 0 ∷ []) (run_arm bs ins h first (with_arm s k.ifs 0)))
        (events_then (took k.ifs 1 ∷ []) (run_arm bs ins h second (with_arm s k.ifs 1)))
        (ends-arm first (with_arm s k.ifs 0)) (ends-arm second (with_arm s k.ifs 1)))
        (ends-arm rest)

    -- the run of a routine
    pub ends : (a : Arm) → EndsIn (run_of bs ins h a)
    unfolding run_of
    ends a = ends-arm a (initial ins (given h))
