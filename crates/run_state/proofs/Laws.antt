-- The course of what a run comes to first and of what it comes to then. Assumes nothing.
use mathlib.Core.Path.{◌≡◌, refl, ap, ◌∙◌}
use mathlib.Core.List.{List, [], ◌∷◌, ◌++◌}
use mathlib.Core.Bool.{Bool, true, false, cond}
use Prim.Native.Nat.{ℕ}
use Rattle.run_state.specs.Run.{Event, took, came}
use Rattle.run_state.specs.Course.{keeps_to, is_goal, landing, course_to, course}
use Rattle.run_state.specs.declared.Course.{Course}
use Rattle.run_state.specs.declared.Goal.{Goal}
use Rattle.run_state.specs.declared.Landing.{Landing}

-- what comes after counts only where the run is passing
abbrev pub onward : Course → Course → Course
onward (Course.Astray number) y = Course.Astray number
onward Course.Passing y = y
onward (Course.Arrived there) y = Course.Arrived there

onward_if : (b : Bool) (number : ℕ) (x y : Course) → cond b (onward x y) (Course.Astray number) ≡ onward (cond b x (Course.Astray number)) y
onward_if true number x y = refl
onward_if false number x y = refl

onward-access : (b : Bool) (there : Landing) (x y : Course)
    → cond b (Course.Arrived there) (onward x y) ≡ onward (cond b (Course.Arrived there) x) y
onward-access true there x y = refl
onward-access false there x y = refl

pub course_to_append : (ds : List ℕ) (goal : Goal) (es fs : List Event) → course_to ds goal (es ++ fs) ≡ onward (course_to ds goal es) (course_to ds goal fs)
unfolding course_to
course_to_append ds goal [] fs = refl
course_to_append ds goal (took number arm ∷ es) fs =
    ap (λ (z : Course). cond (keeps_to ds goal number arm) z (Course.Astray number)) (course_to_append ds goal es fs)
    ∙ onward_if (keeps_to ds goal number arm) number (course_to ds goal es) (course_to ds goal fs)
course_to_append ds goal (came number array index ∷ es) fs =
    ap (λ (z : Course). cond (is_goal goal number) (Course.Arrived (landing array index)) z) (course_to_append ds goal es fs)
    ∙ onward-access (is_goal goal number) (landing array index) (course_to ds goal es) (course_to ds goal fs)

pub course_append : (ds : List ℕ) (access before : ℕ) (es fs : List Event)
    → course ds access before (es ++ fs) ≡ onward (course ds access before es) (course ds access before fs)
course_append ds access before = course_to_append ds (Goal.Access access before)

-- a run that is followed to its end settles nothing on the way
pub course_end : (ds : List ℕ) (es : List Event) → course_to ds Goal.End es ≡ Course.Passing
unfolding course_to
course_end ds [] = refl
course_end ds (took number arm ∷ es) = course_end ds es
course_end ds (came number array index ∷ es) = course_end ds es
