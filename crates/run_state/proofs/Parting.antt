-- An if while it is followed: its two arms, which of them is taken, and that what the taken arm comes to is what the if comes to. Assumes nothing.
use Rattle.routine_command.specs.declared.Mark.{Mark}
use mathlib.Core.Path.{◌≡◌, refl, sym, ap, ◌∙◌}
use mathlib.Core.List.{List, [], ◌∷◌}
use mathlib.Core.Bool.{Bool, true, false, cond, true≢false}
use Prim.Native.Nat.{ℕ, ◌+◌, ◌*◌, ◌-◌, ◌≤◌, ◌<◌}
use native.Mathlib.Omega.{arith}
use Rattle.std.specs.Prelude.{is_some}
use Rattle.bitvec.specs.Relation.{relates}
use Rattle.routine_header.specs.Header.{width}
use Rattle.routine_header.specs.declared.Header.{Header}
use Rattle.routine_faults.specs.Step.{counts_after_if}
use Rattle.routine_command.specs.declared.Condition.{Condition}
use Rattle.routine_faults.specs.declared.Counts.{Counts}
use Rattle.routine.specs.Routine.{Arm}
use Rattle.routine.specs.Inner.Stands.{Stands, SomeArm, SomeIf}
use Rattle.routine.specs.Inner.Passes.{Passes}
use Rattle.routine.specs.declared.Passed.{Passed}
use Rattle.routine.proofs.Standing.{second_at}
use Rattle.run_state.specs.State.{value, with_arm, holds}
use Rattle.run_state.specs.declared.State.{State}
use Rattle.run_state.specs.Run.{Execution, took, run_arm, run_if, events_then}
use Rattle.run_state.specs.Course.{keeps_to, course_to}
use Rattle.run_state.specs.Inner.Walker.{settled, is_done, way_at, arm_at, Follows, FollowsArm, FollowsIf}
use Rattle.run_state.specs.declared.Course.{Course}
use Rattle.run_state.specs.declared.Goal.{Goal}
use Rattle.run_state.specs.declared.Way.{Way}
use Rattle.run_state.proofs.Following.{going, either}

-- after the first arm was followed
pub second-after : (bs : List ℕ) (h : Header) (depth at : ℕ) (k : Counts) → SomeIf bs h depth at (counts_after_if k) → (inside : Counts) → inside ≡ counts_after_if k
    → (ins ds : List ℕ) (goal : Goal) (s : State) (r : Way) → FollowsArm bs ins ds goal h (depth + 1) Mark.Else (way_at (at + 4) inside s Course.Passing) r
    → is_done r ≡ false → SomeArm bs h (depth + 1) Mark.EndIf r.next r.counts
second-after bs h depth at k i inside e ins ds goal s r x f =
    let y = x.tells i.first i.else i.between (rw e i.stands-first) in
    second_at bs h depth at k i r.next r.counts (y.next f) (y.counts f)

-- the bytes left fall from an if to its first arm
pub first_falls : (n at next else t : ℕ) → 2 * (n - at) ≡ t → at + 4 < else → else ≤ n → next ≡ at + 4 → 2 * (n - next) + 1 < t
first_falls n at next else t e l u q = omega arith

-- the arm that is taken, by the values of the condition's variables
pub arm_is : (bs : List ℕ) (c : Condition) (s : State) (arm : ℕ) → arm ≡ cond (relates c.relation (width bs c.s) (value s c.s) (value s c.t)) 0 1
    → arm ≡ arm_at bs c s
unfolding arm_at holds
arm_is bs c s arm e = e

-- which arm is taken
zero_first : (b : Bool) (x y : Execution) → cond {A = ℕ} b 0 1 ≡ 0 → x ≡ cond b x y
zero_first true x y e = refl
zero_first false x y e = absurd (omega arith)

else-second : (b : Bool) (x y : Execution) → (cond {A = ℕ} b 0 1 ≡ 0 → ⊥) → y ≡ cond b x y
else-second true x y e = absurd (e refl)
else-second false x y e = refl

module _ (ds : List ℕ) (goal : Goal) (number : ℕ) (x y : Execution) where
  -- the execution of an if, from those of its arms
  abbrev fork_stretch : Bool → Execution
  fork_stretch b = cond b (events_then (took number 0 ∷ []) x) (events_then (took number 1 ∷ []) y)

  fork_astray : (b : Bool) → keeps_to ds goal number (cond b 0 1) ≡ false → Course.Astray number ≡ course_to ds goal (fork_stretch b).events
  unfolding course_to
  fork_astray true e = rw e
  fork_astray false e = rw e

  fork_kept : (b : Bool) → keeps_to ds goal number (cond b 0 1) ≡ true
      → (course_to ds goal (cond b x y).events ≡ course_to ds goal (fork_stretch b).events) × ((cond b x y).state ≡ (fork_stretch b).state)
  unfolding course_to
  fork_kept true e = (rw e, refl)
  fork_kept false e = (rw e, refl)

module _ (bs ins ds : List ℕ) (goal : Goal) (h : Header) (depth : ℕ) (c : Condition) (w : Way) (arm : ℕ) (is : arm ≡ arm_at bs c w.state)
    (b : Bool) (by : b ≡ keeps_to ds goal w.counts.ifs arm) where
  -- the executions of the arms
  abbrev first_of : Arm → Execution
  first_of first = run_arm bs ins h first (with_arm w.state w.counts.ifs 0)

  abbrev second_of : Arm → Execution
  second_of second = run_arm bs ins h second (with_arm w.state w.counts.ifs 1)

  decision : keeps_to ds goal w.counts.ifs (cond (holds bs c w.state) 0 1) ≡ b
  unfolding arm_at
  decision = sym (by ∙ ap (keeps_to ds goal w.counts.ifs) is)

  pub astray : b ≡ false → FollowsIf bs ins ds goal h depth c w (way_at w.next w.counts w.state (Course.Astray w.counts.ifs))
  astray e = record {
    tells = λ first else k₁ second end k₂ p q.
        record {
          course = fork_astray ds goal w.counts.ifs (first_of first) (second_of second) (holds bs c w.state) (decision ∙ e);
          state = λ z. absurd (true≢false z);
          next = λ z. absurd (true≢false z);
          counts = λ z. absurd (true≢false z);
        };
  }

  module _ (e : b ≡ true) (inside : Counts) (k : inside ≡ counts_after_if w.counts) (s : State) where
    -- what the arm that was taken comes to is what the if comes to
    kept : (first second : Arm) (x : Execution) → x ≡ cond (holds bs c w.state) (first_of first) (second_of second)
        → (end : ℕ) (k₁ : Counts) (r : Way) → Follows ds goal x end k₁ r → Follows ds goal (run_if bs c w.counts (run_arm bs ins h first) (run_arm bs ins h second) w.state) end k₁ r
    kept first second x q end k₁ r a =
        let p = fork_kept ds goal w.counts.ifs (first_of first) (second_of second) (holds bs c w.state) (decision ∙ e) in
        record {
          course = a.course ∙ ap (λ (y : Execution). course_to ds goal y.events) q ∙ p.0;
          state = λ u. a.state u ∙ ap (λ (y : Execution). y.state) q ∙ p.1;
          next = a.next;
          counts = a.counts;
        }

    module _ (z : arm ≡ 0) (t : s ≡ with_arm w.state w.counts.ifs 0) (r : Way)
        (x : FollowsArm bs ins ds goal h (depth + 1) Mark.Else (way_at (w.next + 4) inside s Course.Passing) r) where
      first-tells : (first second : Arm) (else : ℕ) (k₁ : Counts) → Stands bs h (depth + 1) Mark.Else (w.next + 4) (counts_after_if w.counts) first else k₁
          → Follows ds goal (run_if bs c w.counts (run_arm bs ins h first) (run_arm bs ins h second) w.state) else k₁ r
      unfolding arm_at
      first-tells first second else k₁ p =
          kept first second (run_arm bs ins h first s)
          (ap (run_arm bs ins h first) t ∙ zero_first (holds bs c w.state) (first_of first) (second_of second) (sym is ∙ z))
          else k₁ r (x.tells first else k₁ (rw k p))

      pub first_done : is_done r ≡ true → FollowsIf bs ins ds goal h depth c w r
      first_done o = record {
        tells = λ first else k₁ second end k₂ p q.
            let a = first-tells first second else k₁ p in
            record { course = a.course; state = a.state; next = either r o; counts = either r o };
      }

      pub first-passed : is_done r ≡ false → (past : Passed) → Passes bs h (depth + 1) Mark.EndIf r.next r.counts past
          → FollowsIf bs ins ds goal h depth c w (way_at past.next past.counts r.state Course.Passing)
      first-passed o past y = record {
        tells = λ first else k₁ second end k₂ p q.
            let a = first-tells first second else k₁ p in
            let u = going r.course (is_some r.state.stop) o in
            let d = y.tells second end k₂ (rw (a.next o, a.counts o) q) in
            record { course = sym u.0 ∙ a.course; state = λ _. a.state (ap settled u.0); next = λ _. d.0; counts = λ _. d.1 };
      }

    pub second_followed : (arm ≡ 0 → ⊥) → s ≡ with_arm w.state w.counts.ifs 1 → (past : Passed) → Passes bs h (depth + 1) Mark.Else (w.next + 4) inside past
        → (r : Way) → FollowsArm bs ins ds goal h (depth + 1) Mark.EndIf (way_at past.next past.counts s Course.Passing) r → FollowsIf bs ins ds goal h depth c w r
    unfolding arm_at
    second_followed z t past y r x = record {
      tells = λ first else k₁ second end k₂ p q.
          let u = y.tells first else k₁ (rw k p) in
          kept first second (run_arm bs ins h second s)
          (ap (run_arm bs ins h second) t ∙ else-second (holds bs c w.state) (first_of first) (second_of second) (λ n. z (is ∙ n)))
          end k₂ r (x.tells second end k₂ (rw (u.0, u.1) q));
    }
