-- What the walkers over the bytes of an accepted routine tell of the course: of whatever tree was decoded, of whatever arm stands there.
use Rattle.routine_command.specs.declared.Mark.{Mark}
use Rattle.std.specs.Prelude.{ℕ, ◌+◌, ◌≡◌, List, [], Bool, true, false, cond, is_some, Option, None, Some}
use Rattle.bitvec.specs.Signed.{signed}
use Rattle.bitvec.specs.declared.Whole.{Whole}
use Rattle.routine_header.specs.Header.{width, array_size}
use Rattle.routine_command.specs.Command.{simple_size}
use Rattle.routine_faults.specs.Step.{counts_after_if, accesses, counts_after}
use Rattle.routine.specs.Routine.{Arm}
use Rattle.routine.specs.Inner.Stands.{Stands}
use Rattle.routine_header.specs.declared.Header.{Header}
use Rattle.routine_command.specs.declared.Condition.{Condition}
use Rattle.routine_faults.specs.declared.Counts.{Counts}
use Rattle.routine_command.specs.declared.Conversion.{Conversion}
use Rattle.routine_command.specs.declared.Operation.{Operation}
use Rattle.routine_command.specs.declared.Simple.{Simple}
use Rattle.routine_command.specs.declared.Touch.{Touch}
use Rattle.run_state.specs.State.{holds, lies, executed}
use Rattle.run_state.specs.declared.Side.{Side}
use Rattle.run_state.specs.declared.State.{State}
use Rattle.run_state.specs.Run.{Execution, events_at, run_arm, run_if}
use Rattle.run_state.specs.Course.{is_goal, landing, course_to}
use Rattle.run_state.specs.declared.Course.{Course}
use Rattle.run_state.specs.declared.Goal.{Goal}
use Rattle.run_state.specs.declared.Reached.{Reached}
use Rattle.run_state.specs.declared.Way.{Way}

-- the run went astray or came to the access
abbrev pub settled : Course → Bool
settled (Course.Astray number) = true
settled Course.Passing = false
settled (Course.Arrived there) = true

-- nothing of the rest matters to the walk: its course is settled, or an access before the goal stopped the run
abbrev pub is_done : Way → Bool
is_done w = cond (settled w.course) true (is_some w.state.stop)

-- the walk at an offset, with the counts there
abbrev pub way_at : ℕ → Counts → State → Course → Way
way_at next counts state course = record { next = next; counts = counts; state = state; course = course }

-- an access that is not the goal
abbrev pub lying_at : Whole → Option Side → Reached
lying_at index None = Reached.Goes
lying_at index (Some side) = Reached.Stops index side

-- an access, the counts before it being k
abbrev pub reached_at : List ℕ → Header → Goal → Counts → (array : ℕ) → Whole → Reached
reached_at bs h goal k array index = cond (is_goal goal (accesses k)) (Reached.Arrives (landing array index)) (lying_at index (lies (array_size bs h array) index))

-- what a command is to the walk, by what it touches; x is the value of its index variable
abbrev pub reached_by : List ℕ → Header → Goal → Counts → (x : ℕ) → Touch → Reached
reached_by bs h goal k x Touch.Nothing = Reached.Goes
reached_by bs h goal k x (Touch.Reads d array i) = reached_at bs h goal k array (signed (width bs i) x)
reached_by bs h goal k x (Touch.Writes array i) = reached_at bs h goal k array (signed (width bs i) x)

-- the arm that an if takes: 0 first, 1 else
unfoldable pub arm_at : List ℕ → Condition → State → ℕ
arm_at bs c s = cond (holds bs c s) 0 1

-- the walk after a command that is no if
unfoldable pub step_on : (bs ins : List ℕ) → Goal → Header → Simple Conversion Operation → Way → Way
step_on bs ins goal h c w =
    way_at (w.next + simple_size c) (counts_after c w.counts) (executed bs ins h c w.counts w.state)
    (course_to [] goal (events_at bs c w.counts w.state))

-- the walk has the course of the execution x, and where that is not settled, its state; where it goes on, it is at `end` with the counts k
pub record Follows (ds : List ℕ) (goal : Goal) (x : Execution) (end : ℕ) (k : Counts) (r : Way) : Type 0 where
  pub course : r.course ≡ course_to ds goal x.events
  pub state : settled r.course ≡ false → r.state ≡ x.state
  pub next : is_done r ≡ false → r.next ≡ end
  pub counts : is_done r ≡ false → r.counts ≡ k

-- an arm, followed from where the walk w is
pub record FollowsArm (bs ins ds : List ℕ) (goal : Goal) (h : Header) (depth : ℕ) (close : Mark) (w r : Way) : Type 0 where
  pub tells : (a : Arm) (end : ℕ) (k₁ : Counts) → Stands bs h depth close w.next w.counts a end k₁
      → Follows ds goal (run_arm bs ins h a w.state) end k₁ r

-- an if, followed from where the walk w is
pub record FollowsIf (bs ins ds : List ℕ) (goal : Goal) (h : Header) (depth : ℕ) (c : Condition) (w r : Way) : Type 0 where
  pub tells : (first : Arm) (else : ℕ) (k₁ : Counts) (second : Arm) (end : ℕ) (k₂ : Counts)
      → Stands bs h (depth + 1) Mark.Else (w.next + 4) (counts_after_if w.counts) first else k₁ → Stands bs h (depth + 1) Mark.EndIf else k₁ second end k₂
      → Follows ds goal (run_if bs c w.counts (run_arm bs ins h first) (run_arm bs ins h second) w.state) end k₂ r
