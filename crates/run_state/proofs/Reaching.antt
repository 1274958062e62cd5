-- A command that is no if, while an arm is followed: what it is to the walk is what its events and its state say. Assumes nothing.
use Rattle.routine_command.specs.declared.Mark.{Mark}
use mathlib.Core.Path.{◌≡◌, refl, sym, ap, subst, ◌∙◌}
use mathlib.Core.List.{List, [], ◌∷◌}
use mathlib.Core.Bool.{Bool, true, false, cond, true≢false}
use Prim.Native.Nat.{ℕ, ◌+◌}
use Rattle.std.proofs.Common.{Option, None, Some}
use Rattle.std.specs.Prelude.{is_some}
use Rattle.bitvec.specs.declared.Whole.{Whole}
use Rattle.routine_header.specs.Header.{array_size}
use Rattle.routine_header.specs.declared.Header.{Header}
use Rattle.routine_command.specs.Command.{touches, simple_size, command_at}
use Rattle.routine_command.specs.declared.Conversion.{Conversion}
use Rattle.routine_command.specs.declared.Operation.{Operation}
use Rattle.routine_command.specs.declared.Simple.{Simple}
use Rattle.routine_command.specs.declared.Command.{Command}
use Rattle.routine_faults.specs.Step.{accesses, counts_after}
use Rattle.routine_faults.specs.declared.Counts.{Counts}
use Rattle.run_state.specs.State.{value, assigned, stop, index_of, lies, arrive, moved, executed}
use Rattle.run_state.specs.Inner.Moves.{operands_of, value_after}
use Rattle.run_state.specs.declared.Side.{Side}
use Rattle.run_state.specs.declared.Operands.{Operands}
use Rattle.run_state.specs.declared.State.{State}
use Rattle.run_state.proofs.Moving.{moves}
use Rattle.run_state.specs.Run.{came, events_at}
use Rattle.run_state.specs.Course.{is_goal, landing, course_to}
use Rattle.run_state.specs.Inner.Walker.{is_done, way_at, lying_at, reached_by, step_on, FollowsArm}
use Rattle.run_state.specs.declared.Course.{Course}
use Rattle.run_state.specs.declared.Goal.{Goal}
use Rattle.run_state.specs.declared.Landing.{Landing}
use Rattle.run_state.specs.declared.Reached.{Reached}
use Rattle.run_state.specs.declared.Way.{Way}
use Rattle.run_state.proofs.Following.{Going, step_is, stepped, step-done, either}

-- what is told of the course x and the next state y of a command: `next` is the state where the run goes on, n the number of an access
abbrev Told : (n : ℕ) → (s next : State) → Course → State → Reached → Type 0
Told n s next x y Reached.Goes = (x ≡ Course.Passing) × (y ≡ next)
Told n s next x y (Reached.Stops index side) = (x ≡ Course.Passing) × (y ≡ stop s n index side)
Told n s next x y (Reached.Arrives there) = x ≡ Course.Arrived there

access-tells : (goal : Goal) (n array : ℕ) (index : Whole) (s next : State) (b : Bool) → is_goal goal n ≡ b → (l : Option Side)
    → Told n s next (course_to [] goal (came n array index ∷ [])) (arrive s n index l next) (cond b (Reached.Arrives (landing array index)) (lying_at index l))
unfolding course_to
access-tells goal n array index s next true e l = rw e
access-tells goal n array index s next false e None = (rw e, refl)
access-tells goal n array index s next false e (Some side) = (rw e, refl)

module _ (bs ins : List ℕ) (goal : Goal) (h : Header) (k : Counts) (s : State) where
  tells : (c : Simple Conversion Operation) → Told (accesses k) s (moved bs ins h c k s) (course_to [] goal (events_at bs c k s)) (executed bs ins h c k s)
      (reached_by bs h goal k (value s (operands_of c).i) (touches c))
  unfolding course_to executed index_of
  tells (Simple.Set d x) = (refl, refl)
  tells (Simple.Convert op d a) = (refl, refl)
  tells (Simple.Compute op d a b) = (refl, refl)
  tells (Simple.Read d array i) =
      access-tells goal (accesses k) array (index_of bs s i) s (moved bs ins h (Simple.Read d array i) k s) (is_goal goal (accesses k)) refl (lies (array_size bs h array) (index_of bs s i))
  tells (Simple.Write array i a) =
      access-tells goal (accesses k) array (index_of bs s i) s (moved bs ins h (Simple.Write array i a) k s) (is_goal goal (accesses k)) refl (lies (array_size bs h array) (index_of bs s i))

module _ (bs ins ds : List ℕ) (goal : Goal) (h : Header) (depth : ℕ) (close : Mark) (w₀ : Way) (at : ℕ) (k : Counts) (s : State)
    (g : Going bs ins ds goal h depth close w₀ (way_at at k s Course.Passing)) (r : Command Mark Conversion Operation) (is : r ≡ command_at bs at) (c : Simple Conversion Operation) (q : r ≡ Command.Simple c)
    (o : Operands) (p : o ≡ operands_of c) (t : Reached) (by : t ≡ reached_by bs h goal k (value s o.i) (touches c)) where
  abbrev TellsOf : Reached → Type 0
  TellsOf = Told (accesses k) s (moved bs ins h c k s) (course_to [] goal (events_at bs c k s)) (executed bs ins h c k s)

  told : (u : Reached) → t ≡ u → TellsOf u
  told u e = subst TellsOf (sym (by ∙ ap (λ (x : Operands). reached_by bs h goal k (value s x.i) (touches c)) p) ∙ e) (tells bs ins goal h k s c)

  -- the run goes on, and a variable took a value
  pub goes_on : t ≡ Reached.Goes → is_some s.stop ≡ false → (n : ℕ) (k₁ : Counts) (x : ℕ) → n ≡ simple_size c → k₁ ≡ counts_after c k
      → x ≡ value_after bs ins h c k (value s o.a) (value s o.b) → Going bs ins ds goal h depth close w₀ (way_at (at + n) k₁ (assigned s o.d x) Course.Passing)
  goes_on e f n k₁ x en ek ex =
      let u = told Reached.Goes e in
      let m : assigned s o.d x ≡ moved bs ins h c k s = rw (ex, p) (moves bs ins h c k s) in
      stepped bs ins ds goal h depth close w₀ (way_at at k s Course.Passing) g r is c q (way_at (at + n) k₁ (assigned s o.d x) Course.Passing)
      (step_is bs ins goal h c at k s n k₁ (assigned s o.d x) Course.Passing en ek (m ∙ sym u.1) (sym u.0)) f

  -- a walk that is done tells no offset and no counts
  ended : (v : Way) (y : State) (x : Course) → v ≡ step_on bs ins goal h c (way_at at k s Course.Passing) → is_done v ≡ true → is_done (way_at at k y x) ≡ true
      → v.course ≡ x → (v.state ≡ y) → FollowsArm bs ins ds goal h depth close w₀ (way_at at k y x)
  ended v y x e d f l m =
      let z = step-done bs ins ds goal h depth close w₀ (way_at at k s Course.Passing) g r is c q v e d in
      record {
        tells = λ a end k₁ b.
            let j = z.tells a end k₁ b in
            record { course = sym l ∙ j.course; state = λ i. sym m ∙ j.state (rw l i); next = either (way_at at k y x) f; counts = either (way_at at k y x) f };
      }

  -- an access stopped the run
  pub stops : (index : Whole) (side : Side) → t ≡ Reached.Stops index side → (n : ℕ) → n ≡ accesses k → (y : State) → y ≡ stop s n index side
      → FollowsArm bs ins ds goal h depth close w₀ (way_at at k y Course.Passing)
  stops index side e n en y ey =
      let u = told (Reached.Stops index side) e in
      let m : y ≡ stop s (accesses k) index side = ey ∙ ap (λ (x : ℕ). stop s x index side) en in
      let d : is_some y.stop ≡ true = ap (λ (x : State). is_some x.stop) m in
      ended (way_at (at + simple_size c) (counts_after c k) y Course.Passing) y Course.Passing
      (step_is bs ins goal h c at k s (simple_size c) (counts_after c k) y Course.Passing refl refl (m ∙ sym u.1) (sym u.0)) d d refl refl

  -- an access is the goal
  pub arrives : (there : Landing) → t ≡ Reached.Arrives there
      → FollowsArm bs ins ds goal h depth close w₀ (way_at at k s (Course.Arrived there))
  arrives there e =
      let v : Way = way_at (at + simple_size c) (counts_after c k) (executed bs ins h c k s) (Course.Arrived there) in
      let z = step-done bs ins ds goal h depth close w₀ (way_at at k s Course.Passing) g r is c q v
      (step_is bs ins goal h c at k s (simple_size c) (counts_after c k) (executed bs ins h c k s) (Course.Arrived there) refl refl refl (sym (told (Reached.Arrives there) e))) refl in
      record {
        tells = λ a end k₁ b.
            record { course = (z.tells a end k₁ b).course; state = λ i. absurd (true≢false i); next = λ i. absurd (true≢false i); counts = λ i. absurd (true≢false i) };
      }
