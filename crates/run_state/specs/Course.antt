-- The course of a run, as far as a named access or to its end: by the decisions, or not.
use Rattle.std.specs.Prelude.{ℕ, List, [], ◌∷◌, Bool, true, false, cond, not, ◌||◌, ltb, eqb}
use Rattle.slices.specs.Bytes.{entry}
use Rattle.bitvec.specs.declared.Whole.{Whole}
use Rattle.run_state.specs.Run.{Event, took, came}
use Rattle.run_state.specs.declared.Course.{Course}
use Rattle.run_state.specs.declared.Goal.{Goal}
use Rattle.run_state.specs.declared.Landing.{Landing}

-- the arm taken (0 first, 1 else) is by the decision (2 is free)
abbrev pub follows : (decision arm : ℕ) → Bool
follows decision arm = eqb decision 2 || eqb decision arm

-- an arm taken at an if is by the decisions, or the if does not matter: it does not stand before the access, before which `before` ifs stand
abbrev pub keeps : (ds : List ℕ) → (before number arm : ℕ) → Bool
keeps ds before number arm = not (ltb number before) || follows (entry ds number) arm

-- the same where the run is followed as far as the goal; no if matters to one that is followed to its end
abbrev pub keeps_to : (ds : List ℕ) → Goal → (number arm : ℕ) → Bool
keeps_to ds Goal.End number arm = true
keeps_to ds (Goal.Access access before) number arm = keeps ds before number arm

-- an access is the goal
abbrev pub is_goal : Goal → (number : ℕ) → Bool
is_goal Goal.End number = false
is_goal (Goal.Access access before) number = eqb number access

-- where an access lands
abbrev pub landing : (array : ℕ) → Whole → Landing
landing array index = record { array = array; index = index }

-- the course as far as the goal, by what the run comes to in order
unfoldable pub course_to : (ds : List ℕ) → Goal → List Event → Course
course_to ds goal [] = Course.Passing
course_to ds goal (took number arm ∷ es) = cond (keeps_to ds goal number arm) (course_to ds goal es) (Course.Astray number)
course_to ds goal (came number array index ∷ es) = cond (is_goal goal number) (Course.Arrived (landing array index)) (course_to ds goal es)

-- the course as far as an access, before which `before` ifs stand
abbrev pub course : (ds : List ℕ) → (access before : ℕ) → List Event → Course
course ds access before = course_to ds (Goal.Access access before)
