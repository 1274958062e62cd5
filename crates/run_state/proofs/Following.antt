-- What is left of an arm while it is followed. Assumes nothing.
use Rattle.routine_command.specs.declared.Mark.{Mark}
use mathlib.Core.Path.{◌≡◌, refl, sym, ap, subst, ◌∙◌}
use mathlib.Core.List.{List, []}
use mathlib.Core.Bool.{Bool, true, false, cond}
use Prim.Native.Nat.{ℕ, ◌+◌, ◌≤◌, ◌<◌}
use native.Mathlib.Omega.{arith}
use lib.ListN.{length}
use Rattle.std.proofs.Common.{Option, None, Some}
use Rattle.run_state.specs.declared.Stop.{Stop}
use Rattle.std.specs.Prelude.{is_some}
use Rattle.routine_header.specs.declared.Header.{Header}
use Rattle.routine_command.specs.Command.{touches, simple_size, command_at}
use Rattle.routine_faults.specs.Step.{too_many, counts_after, counts_after_if}
use Rattle.routine_faults.specs.Inner.Sound.{Sound}
use Rattle.routine_command.specs.declared.Condition.{Condition}
use Rattle.routine_faults.specs.declared.Counts.{Counts}
use Rattle.routine_command.specs.declared.Conversion.{Conversion}
use Rattle.routine_command.specs.declared.Operation.{Operation}
use Rattle.routine_command.specs.declared.Simple.{Simple}
use Rattle.routine_command.specs.declared.Touch.{Touch}
use Rattle.routine_command.specs.declared.Command.{Command}
use Rattle.routine_command.proofs.Sizes.{simple-size}
use Rattle.routine.specs.Routine.{Arm}
use Rattle.routine.specs.Inner.Stands.{Stands, SomeArm}
use Rattle.routine.proofs.Views.{by_if}
use Rattle.routine.proofs.Walking as walking
use Rattle.routine.proofs.Standing.{simple_known, if_ends}
use Rattle.run_state.specs.State.{executed}
use Rattle.run_state.specs.declared.State.{State}
use Rattle.run_state.specs.Run.{Event, Execution, unless_stopped, run_on, events_by, events_at, run_arm, run_if}
use Rattle.run_state.specs.Course.{course_to}
use Rattle.run_state.specs.Inner.Walker.{settled, is_done, way_at, step_on, Follows, FollowsArm, FollowsIf}
use Rattle.run_state.specs.declared.Course.{Course}
use Rattle.run_state.specs.declared.Goal.{Goal}
use Rattle.run_state.specs.declared.Way.{Way}
use Rattle.run_state.proofs.Laws.{course_to_append}

-- ---- what matters of a course and a state: the course, and the state only where that is passing

data Seen : Type 0 where
  told : Course → Seen
  passing : State → Seen

abbrev seen : Course → State → Seen
seen (Course.Astray number) s = told (Course.Astray number)
seen Course.Passing s = passing s
seen (Course.Arrived there) s = told (Course.Arrived there)

abbrev course_of : Seen → Course
course_of (told c) = c
course_of (passing s) = Course.Passing

abbrev state_of : State → Seen → State
state_of s (told c) = s
state_of s (passing t) = t

course_seen : (c : Course) (s : State) → course_of (seen c s) ≡ c
course_seen (Course.Astray number) s = refl
course_seen Course.Passing s = refl
course_seen (Course.Arrived there) s = refl

state_seen : (c : Course) (s t : State) → settled c ≡ false → state_of t (seen c s) ≡ s
state_seen (Course.Astray number) s t e = let z : ◌≡◌ {A = ℕ} 0 1 = cc in absurd (omega arith)
state_seen Course.Passing s t e = refl
state_seen (Course.Arrived there) s t e = let z : ◌≡◌ {A = ℕ} 0 1 = cc in absurd (omega arith)

same-course : (c d : Course) (s t : State) → seen c s ≡ seen d t → c ≡ d
same-course c d s t e = sym (course_seen c s) ∙ ap course_of e ∙ course_seen d t

same-state : (c d : Course) (s t : State) → seen c s ≡ seen d t → settled c ≡ false → s ≡ t
same-state c d s t e f =
    sym (state_seen c s s f) ∙ ap (state_of s) e ∙ state_seen d t s (subst (λ (x : Course). settled x ≡ false) (same-course c d s t e) f)

-- states that are the same where the course is passing
alike : (c : Course) (s t : State) → (settled c ≡ false → s ≡ t)
    → (seen c s ≡ seen c t) × (cond (settled c) true (is_some s.stop) ≡ cond (settled c) true (is_some t.stop))
alike (Course.Astray number) s t f = (refl, refl)
alike Course.Passing s t f = (ap passing (f refl), ap (λ (x : State). is_some x.stop) (f refl))
alike (Course.Arrived there) s t f = (refl, refl)

-- a walk that is not done is passing and was not stopped
pub going : (c : Course) (b : Bool) → cond (settled c) true b ≡ false → (c ≡ Course.Passing) × (b ≡ false)
going (Course.Astray number) b e = let z : ◌≡◌ {A = ℕ} 0 1 = cc in absurd (omega arith)
going Course.Passing b e = (refl, e)
going (Course.Arrived there) b e = let z : ◌≡◌ {A = ℕ} 0 1 = cc in absurd (omega arith)

pub either : {A : Type 0} (r : Way) → is_done r ≡ true → is_done r ≡ false → A
either r e f = let z : ◌≡◌ {A = ℕ} 0 1 = cc in absurd (omega arith)

-- ---- going on, or not

module _ (ds : List ℕ) (goal : Goal) where
  abbrev seen_of : Execution → Seen
  seen_of x = seen (course_to ds goal x.events) x.state

  on : (o : Option Stop) (es : List Event) (s : State) (go : State → Execution) → course_to ds goal es ≡ Course.Passing → is_some o ≡ false
      → seen_of (go s) ≡ seen_of (unless_stopped o es s go)
  on None es s go e f = rw (course_to_append ds goal es (go s).events, e)
  on (Some access) es s go e f = let z : ◌≡◌ {A = ℕ} 0 1 = cc in absurd (omega arith)

  off : (o : Option Stop) (es : List Event) (s : State) (go : State → Execution) (c : Course) → c ≡ course_to ds goal es → cond (settled c) true (is_some o) ≡ true
      → seen c s ≡ seen_of (unless_stopped o es s go)
  off None es s go (Course.Astray number) e f = rw (course_to_append ds goal es (go s).events, ← e)
  off None es s go Course.Passing e f = let z : ◌≡◌ {A = ℕ} 0 1 = cc in absurd (omega arith)
  off None es s go (Course.Arrived there) e f = rw (course_to_append ds goal es (go s).events, ← e)
  off (Some access) es s go c e f = ap (λ (z : Course). seen z s) e

  -- after an execution that the walk r has followed
  module _ (x : Execution) (go : State → Execution) (r : Way) (by : r.course ≡ course_to ds goal x.events) (is : settled r.course ≡ false → r.state ≡ x.state) where
    then_on : is_done r ≡ false → seen_of (go r.state) ≡ seen_of (run_on x go)
    then_on e =
        let p = going r.course (is_some r.state.stop) e in
        let q : r.state ≡ x.state = is (ap settled p.0) in
        ap (λ (s : State). seen_of (go s)) q
        ∙ on x.state.stop x.events x.state go (sym by ∙ p.0) (ap (λ (s : State). is_some s.stop) (sym q) ∙ p.1)

    then_off : is_done r ≡ true → seen r.course r.state ≡ seen_of (run_on x go)
    then_off e =
        let p = alike r.course r.state x.state is in
        p.0 ∙ off x.state.stop x.events x.state go r.course by (sym p.1 ∙ e)

  arrived : (x : Execution) (end : ℕ) (k : Counts) (r : Way) → seen r.course r.state ≡ seen_of x → (is_done r ≡ false → r.next ≡ end) → (is_done r ≡ false → r.counts ≡ k)
      → Follows ds goal x end k r
  arrived x end k r e n m = record {
    course = same-course r.course (course_to ds goal x.events) r.state x.state e;
    state = same-state r.course (course_to ds goal x.events) r.state x.state e;
    next = n;
    counts = m;
  }

  -- a command that is no if takes no decision
  course-plain : (bs : List ℕ) (t : Touch) (k : Counts) (s : State) → course_to [] goal (events_by bs t k s) ≡ course_to ds goal (events_by bs t k s)
  unfolding course_to
  course-plain bs Touch.Nothing k s = refl
  course-plain bs (Touch.Reads d array i) k s = refl
  course-plain bs (Touch.Writes array i) k s = refl

-- the walk after a command that is no if, put together
pub step_is : (bs ins : List ℕ) (goal : Goal) (h : Header) (c : Simple Conversion Operation) (at : ℕ) (k : Counts) (s : State) (n : ℕ) (k₁ : Counts) (s₁ : State) (x : Course)
    → n ≡ simple_size c → k₁ ≡ counts_after c k → s₁ ≡ executed bs ins h c k s → x ≡ course_to [] goal (events_at bs c k s)
    → way_at (at + n) k₁ s₁ x ≡ step_on bs ins goal h c (way_at at k s Course.Passing)
unfolding step_on
step_is bs ins goal h c at k s n k₁ s₁ x e f g q = rw (e, f, g, q)

-- ---- the walk over an arm

module _ (bs ins ds : List ℕ) (goal : Goal) (h : Header) (depth : ℕ) (close : Mark) where
  -- what an arm means from a state, and that the counts are those of the walk
  abbrev Meant : Arm → State × Counts → Seen
  Meant a s = seen_of ds goal (run_arm bs ins h a s.0)

  abbrev Tied : Counts → State × Counts → Type 0
  Tied k s = s.1 ≡ k

  -- the walk over the arm began at w₀ and is now at w
  pub Going : (w₀ w : Way) → Type 0
  Going w₀ w = walking.Going bs h depth close Meant Tied w₀.next (w₀.state, w₀.counts) w.next (w.state, w.counts)

  pub begun : (w : Way) → Going w w
  unfolding Going
  begun w = walking.begin bs h depth close Meant Tied w.next (w.state, w.counts)

  -- a walk goes on from its offset, its counts and its state
  pub onwards : (w₀ w : Way) → Going w₀ w → Going w₀ (way_at w.next w.counts w.state Course.Passing)
  unfolding Going
  onwards w₀ w g = g

  module _ (w₀ w : Way) (g : Going w₀ w) where
    -- the arm that stands here now
    pub here : SomeArm bs h depth close w₀.next w₀.counts → SomeArm bs h depth close w.next w.counts
    unfolding Going
    here a =
        let l = g.goes w₀.counts a.arm a.end a.after refl a.stands in
        rw l.tied (record { arm = l.rest; end = a.end; after = a.after; stands = l.stands })

    -- a command that is no if, which stands here: its operands, its counts, its room
    module _ (a : SomeArm bs h depth close w₀.next w₀.counts) (r : Command Mark Conversion Operation) (is : r ≡ command_at bs w.next) (c : Simple Conversion Operation) (q : r ≡ Command.Simple c) where
      pub sound_here : Sound bs h c
      sound_here = (simple_known bs h depth close w.next w.counts (here a) r is c q).0

      pub few_here : too_many c w.counts ≡ false
      few_here = (simple_known bs h depth close w.next w.counts (here a) r is c q).1

      pub room_here : w.next + simple_size c ≤ length bs
      room_here = (simple_known bs h depth close w.next w.counts (here a) r is c q).2

    module _ (r : Command Mark Conversion Operation) (is : r ≡ command_at bs w.next) where
      pub closed : (m : Mark) → r ≡ Command.Close m
          → FollowsArm bs ins ds goal h depth close w₀ (way_at (w.next + 1) w.counts w.state Course.Passing)
      unfolding Going run_arm course_to
      closed m q = record {
        tells = λ a end k₁ x.
            let p = walking.at_close bs h depth close Meant Tied w₀.next (w₀.state, w₀.counts) w.next (w.state, w.counts) g r is m q w₀.counts a end k₁ refl x in
            arrived ds goal (run_arm bs ins h a w₀.state) end k₁ (way_at (w.next + 1) w.counts w.state Course.Passing) p.2 (λ e. p.0) (λ e. p.1);
      }

      -- a command that is no if
      module _ (c : Simple Conversion Operation) (q : r ≡ Command.Simple c) where
        -- its execution, the counts before it being k
        abbrev plain_stretch : Counts → Execution
        plain_stretch k = record { events = events_at bs c k w.state; state = executed bs ins h c k w.state }

        step-course : (k : Counts) → w.counts ≡ k → (step_on bs ins goal h c w).course ≡ course_to ds goal (plain_stretch k).events
        unfolding step_on
        step-course k t =
            course-plain ds goal bs (touches c) w.counts w.state ∙ ap (λ (x : Counts). course_to ds goal (events_at bs c x w.state)) t

        step-state : (k : Counts) → w.counts ≡ k → (step_on bs ins goal h c w).state ≡ (plain_stretch k).state
        unfolding step_on
        step-state k t = ap (λ (x : Counts). executed bs ins h c x w.state) t

        step-on : is_done (step_on bs ins goal h c w) ≡ false → Going w₀ (step_on bs ins goal h c w)
        unfolding Going run_arm step_on
        step-on e =
            walking.at_simple bs h depth close Meant Tied w₀.next (w₀.state, w₀.counts) w.next (w.state, w.counts) g r is c q
            ((step_on bs ins goal h c w).state, counts_after c w.counts)
            (λ k rest t.
            (ap (counts_after c) t, then_on ds goal (plain_stretch k) (run_arm bs ins h rest) (step_on bs ins goal h c w) (step-course k t) (λ _. step-state k t) e))

        step_off : is_done (step_on bs ins goal h c w) ≡ true → FollowsArm bs ins ds goal h depth close w₀ (step_on bs ins goal h c w)
        unfolding Going run_arm
        step_off e = record {
          tells = λ a end k₁ x.
              let v = step_on bs ins goal h c w in
              arrived ds goal (run_arm bs ins h a w₀.state) end k₁ v
              (walking.over-simple bs h depth close Meant Tied w₀.next (w₀.state, w₀.counts) w.next (w.state, w.counts) g r is c q
              (seen v.course v.state)
              (λ k rest t. then_off ds goal (plain_stretch k) (run_arm bs ins h rest) v (step-course k t) (λ _. step-state k t) e)
              w₀.counts a end k₁ refl x)
              (either v e) (either v e);
        }

        pub stepped : (t : Way) → t ≡ step_on bs ins goal h c w → is_done t ≡ false → Going w₀ t
        stepped t p e = subst (λ (x : Way). Going w₀ x) (sym p) (step-on (ap is_done (sym p) ∙ e))

        pub step-done : (t : Way) → t ≡ step_on bs ins goal h c w → is_done t ≡ true → FollowsArm bs ins ds goal h depth close w₀ t
        step-done t p e = subst (λ (x : Way). FollowsArm bs ins ds goal h depth close w₀ x) (sym p) (step_off (ap is_done (sym p) ∙ e))

      -- an if, after which the walk is at t
      module _ (c : Condition) (q : r ≡ Command.If c) (t : Way) (f : FollowsIf bs ins ds goal h depth c w t) where
        arrives : (k : Counts) → w.counts ≡ k → (first second : Arm) (else : ℕ) (k₂ : Counts) (next : ℕ) (k₃ : Counts)
            → Stands bs h (depth + 1) Mark.Else (w.next + 4) (counts_after_if k) first else k₂ → Stands bs h (depth + 1) Mark.EndIf else k₂ second next k₃
            → Follows ds goal (run_if bs c k (run_arm bs ins h first) (run_arm bs ins h second) w.state) next k₃ t
        arrives k e first second else k₂ next k₃ x y = rw (← e) (f.tells first else k₂ second next k₃ (rw e x) y)

        pub forked : is_done t ≡ false → Going w₀ t
        unfolding Going run_arm
        forked e =
            walking.at_if bs h depth close Meant Tied w₀.next (w₀.state, w₀.counts) w.next (w.state, w.counts) g r is c q t.next (t.state, t.counts)
            (λ k first second rest else k₂ next k₃ u x y.
            let z = arrives k u first second else k₂ next k₃ x y in
            (z.next e, z.counts e, then_on ds goal (run_if bs c k (run_arm bs ins h first) (run_arm bs ins h second) w.state) (run_arm bs ins h rest) t z.course z.state e))

        pub fork_done : is_done t ≡ true → FollowsArm bs ins ds goal h depth close w₀ t
        unfolding Going run_arm
        fork_done e = record {
          tells = λ a end k₁ x.
              arrived ds goal (run_arm bs ins h a w₀.state) end k₁ t
              (walking.over_if bs h depth close Meant Tied w₀.next (w₀.state, w₀.counts) w.next (w.state, w.counts) g r is c q
              (seen t.course t.state)
              (λ k first second rest else k₂ next k₃ u y z.
              let p = arrives k u first second else k₂ next k₃ y z in
              then_off ds goal (run_if bs c k (run_arm bs ins h first) (run_arm bs ins h second) w.state) (run_arm bs ins h rest) t p.course p.state e)
              w₀.counts a end k₁ refl x)
              (either t e) (either t e);
        }

-- the bytes left fall over an if
module _ (bs : List ℕ) (h : Header) (depth : ℕ) (close : Mark) (w : Way) (a : SomeArm bs h depth close w.next w.counts) (r : Command Mark Conversion Operation) (is : r ≡ command_at bs w.next)
    (ins : List ℕ) (goal : Goal) (t : Way) where
  pub if_room : (c : Condition) → r ≡ Command.If c → (ds : List ℕ) → FollowsIf bs ins ds goal h depth c w t → is_done t ≡ false
      → (w.next < t.next) × (t.next ≤ length bs)
  if_room c q ds x e =
      let v = by_if bs h depth close w.next w.counts a.arm a.end a.after r is a.stands c q in
      let f = v.known in
      let y = (x.tells v.first f.else f.k₂ v.second f.next f.k₃ f.stands-first f.stands-second).next e in
      rw y (if_ends v)

  -- and over a command that is no if
  pub step_room : (c : Simple Conversion Operation) → r ≡ Command.Simple c → t ≡ step_on bs ins goal h c w → (w.next < t.next) × (t.next ≤ length bs)
  unfolding step_on
  step_room c q x =
      let p : t.next ≡ w.next + simple_size c = ap (λ (y : Way). y.next) x in
      let l = (simple_known bs h depth close w.next w.counts a r is c q).2 in
      (omega (arith, simple-size c), omega arith)
