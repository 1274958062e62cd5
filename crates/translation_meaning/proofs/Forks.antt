-- An if, where it is come to: its translation tallies with the run, which takes one of its arms, while the other is dead. Assumes nothing.
use Rattle.std.proofs.Common.{None}
use mathlib.Core.Path.{◌≡◌, refl, sym, ap, ap₂, subst, ◌∙◌}
use mathlib.Core.List.{List, [], ◌∷◌, ◌++◌}
use mathlib.Core.Logic.{inl}
use mathlib.Core.Bool.{Bool, true, false, cond, not, ◌&&◌, ◌||◌}
use Prim.Native.Nat.{ℕ, zero, suc, ◌<◌, ◌≤◌}
use native.Mathlib.Omega.{arith}
use lib.ListN.{length}
use lib.Dec.{eqb}
use borrow.Author.Tests.{lt-ltb}
use Rattle.slices.specs.Bytes.{entry}
use Rattle.bitvec.specs.Relation.{relates}
use Rattle.routine_header.specs.Header.{width}
use Rattle.routine_faults.specs.Inner.Sound.{SoundIf, Fine}
use Rattle.routine_header.specs.declared.Header.{Header}
use Rattle.routine_command.specs.declared.Condition.{Condition}
use Rattle.routine_faults.proofs.Fine.{condition_fine}
use Rattle.run_state.specs.State.{with_arm, holds}
use Rattle.run_state.specs.Run.{took, Execution, events_then}
use Rattle.run_state.specs.declared.State.{State}
use Rattle.run_state.specs.Course.{follows, course_to, course}
use Rattle.run_state.specs.declared.Course.{Course}
use Rattle.cnf.specs.Meaning.{Assign, lit}
use Rattle.netlist.specs.Meaning.{Inputs}
use Rattle.netlist.proofs.Truth.{Models, models_append}
use Rattle.arithmetic.proofs.Values.{value}
use Rattle.comparison.proofs.Relating.{relation-value}
use Rattle.translation_state.specs.Wires.{Wires, all_places, bits_of, arriving, is_made}
use Rattle.translation_command.specs.Command.{Encoding}
use Rattle.translation_if.specs.If.{condition_of, arrivals, join_arms}
use Rattle.translation_meaning.specs.Walk.{encode_if}
use Rattle.translation_meaning.specs.Faithful.{bits_of_list}
use Rattle.lead.specs.declared.Target.{Target}
use Rattle.translation_meaning.proofs.Dead.{Deadens}
use Rattle.translation_meaning.proofs.Gates.{models_three, first-lit, else-lit, joined_lit, joined_gates}
use Rattle.translation_meaning.proofs.Numbers.{Elsewhere}
use Rattle.translation_meaning.proofs.Simples.{Alive}
use Rattle.routine_faults.proofs.Tests.{not_both}
use Rattle.translation_meaning.proofs.Stretches.{by_cond, fork_by, after_condition, first_from, first_wires, first_of, second_from, second_wires, second_of, join_from, join_of}
use Rattle.translation_meaning.proofs.Tally.{Tally, through, lost, missed, here, Ended, Tallies, not_here, ended_elsewhere}
use Rattle.translation_meaning.proofs.Worth.{Worth, join_first, join-second}

-- an arm is followed, unless the other one was decided
follows-first : (d : ℕ) → d ≤ 2 → follows d 0 ≡ not (eqb d 1)
follows-first zero l = refl
follows-first (suc zero) l = refl
follows-first (suc (suc zero)) l = refl
follows-first (suc (suc (suc d))) l = absurd (omega arith)

follows-else : (d : ℕ) → d ≤ 2 → follows d 1 ≡ not (eqb d 0)
follows-else zero l = refl
follows-else (suc zero) l = refl
follows-else (suc (suc zero)) l = refl
follows-else (suc (suc (suc d))) l = absurd (omega arith)

module _ (bs ins : List ℕ) (h : Header) (fine : Fine bs h) (t : Target) (ds : List ℕ) (before : ℕ) (ρ : Assign) (o : ρ 1 ≡ true) where
  abbrev I : Inputs
  I = bits_of_list ins

  -- the condition's literal
  condition_says : (g : ℕ) (c : Condition) (s : Wires) (r : State) → SoundIf bs h c → Models I ρ g (condition_of bs g c s).nodes
      → Worth bs h fine ρ s.lits r.values → lit ρ (condition_of bs g c s).lit ≡ holds bs c r
  unfolding holds
  condition_says g c s r q m w =
      let f = condition_fine bs h c q in
      let v : ℕ = width bs c.s in
      let z : 0 < v = omega (arith, fine.widths c.s f.1) in
      relation-value I ρ c.relation g (bits_of bs s c.s) (bits_of bs s c.t) v z o m
      ∙ ap₂ (relates c.relation v) (w.worth c.s f.1) (ap (value ρ (bits_of bs s c.t)) f.3 ∙ w.worth c.t f.2)

  -- where no claim was made, the run did not come to the named access
  open_elsewhere : (w : Wires) (c : Course) (r : State) → Tally bs h fine t ds before ρ w c r → is_made w.claim ≡ false → Elsewhere c
  open_elsewhere w c r (through e l p u v) q = subst Elsewhere (sym p) tt
  open_elsewhere w c r (lost e l p) q = ended_elsewhere c r p
  open_elsewhere w c r (missed e l p) q = p
  open_elsewhere w c r (here side array index e l p f) q = not_both (is_made w.claim) (ap is_made e) q

  -- ---- the end of an if

  module _ (g l : ℕ) (x y : Wires) (m : Models I ρ g (join_arms bs h g l x y).nodes) (c : Course) (r : State) where
    joined_open : (join_arms bs h g l x y).wires.claim ≡ None
    unfolding join_arms
    joined_open = refl

    left_first : lit ρ y.arrival ≡ false → lit ρ (join_arms bs h g l x y).wires.arrival ≡ lit ρ x.arrival
    left_first e = joined_lit I ρ bs h g l x y m ∙ ap (λ (b : Bool). lit ρ x.arrival || b) e ∙ or_false (lit ρ x.arrival)
      where
        or_false : (b : Bool) → (b || false) ≡ b
        or_false true = refl
        or_false false = refl

    left_else : lit ρ x.arrival ≡ false → lit ρ (join_arms bs h g l x y).wires.arrival ≡ lit ρ y.arrival
    left_else e = joined_lit I ρ bs h g l x y m ∙ ap (λ (b : Bool). b || lit ρ y.arrival) e

    first_worth : lit ρ l ≡ true → length x.lits ≡ all_places h → Worth bs h fine ρ x.lits r.values → Worth bs h fine ρ (join_arms bs h g l x y).wires.lits r.values
    unfolding join_arms
    first_worth e n w = join_first bs h fine ρ I g l x.lits y.lits n r.values e (joined_gates I ρ bs h g l x y m) w

    -- the first arm was taken
    joined_first : lit ρ l ≡ true → lit ρ y.arrival ≡ false → length x.lits ≡ all_places h → is_made x.claim ≡ false → Tally bs h fine t ds before ρ x c r
        → Tally bs h fine t ds before ρ (join_arms bs h g l x y).wires c r
    joined_first e f n q (through a b p u w) = through joined_open (left_first f ∙ b) p u (first_worth e n w)
    joined_first e f n q (lost a b p) = lost joined_open (left_first f ∙ b) p
    joined_first e f n q (missed a b p) = not_both (is_made x.claim) a q
    joined_first e f n q (here side array index a b p v) = not_both (is_made x.claim) (ap is_made a) q

    else_worth : lit ρ l ≡ false → length x.lits ≡ all_places h → Worth bs h fine ρ y.lits r.values → Worth bs h fine ρ (join_arms bs h g l x y).wires.lits r.values
    unfolding join_arms
    else_worth e n w = join-second bs h fine ρ I g l x.lits y.lits n r.values e (joined_gates I ρ bs h g l x y m) w

    -- the else was taken
    joined_else : lit ρ l ≡ false → lit ρ x.arrival ≡ false → length x.lits ≡ all_places h → is_made y.claim ≡ false → Tally bs h fine t ds before ρ y c r
        → Tally bs h fine t ds before ρ (join_arms bs h g l x y).wires c r
    joined_else e f n q (through a b p u w) = through joined_open (left_else f ∙ b) p u (else_worth e n w)
    joined_else e f n q (lost a b p) = lost joined_open (left_else f ∙ b) p
    joined_else e f n q (missed a b p) = not_both (is_made y.claim) a q
    joined_else e f n q (here side array index a b p v) = not_both (is_made y.claim) (ap is_made a) q

  -- ---- the whole if

  -- what an arm's translation and its run do, from where they are come to
  abbrev pub Runs : (ℕ → Wires → Encoding) → (State → Execution) → Type 0
  Runs go on = (g : ℕ) (s : Wires) (r : State) → Models I ρ g (go g s).nodes → Alive bs ins h fine t ds before ρ o s r → Tallies bs h fine t ds before ρ (go g s) (on r)

  -- what is known of the two arms
  pub record Arms (first second : ℕ → Wires → Encoding) (on₁ on₂ : State → Execution) : Type 0 where
    pub one : Runs first on₁
    -- where the named access is not in the first arm
    pub two : (g : ℕ) (s : Wires) → s.claim ≡ None → is_made (first g s).wires.claim ≡ false → Runs second on₂
    pub dead₁ : (g : ℕ) (s : Wires) → Deadens I ρ o bs h t ds g s (first g s)
    pub dead₂ : (g : ℕ) (s : Wires) → Deadens I ρ o bs h t ds g s (second g s)
    pub places : (g : ℕ) (s : Wires) → length (first g s).wires.lits ≡ length s.lits
    -- the named access is in the first arm, so a run of the second does not come to it
    pub apart : (g : ℕ) (s : Wires) → s.claim ≡ None → is_made (first g s).wires.claim ≡ true → (r : State) → Elsewhere (course ds t.access before (on₂ r).events)

  -- the if of number n, which stands before the named access
  module _ (first second : ℕ → Wires → Encoding) (on₁ on₂ : State → Execution) (arms : Arms first second on₁ on₂) (n : ℕ) (few : entry ds n ≤ 2)
      (ahead : n < before) (g : ℕ) (c : Condition) (s : Wires) (r : State) (sound : SoundIf bs h c) (a : Alive bs ins h fine t ds before ρ o s r) where
    -- the decision, the condition's literal, and the parts of the if
    abbrev d : ℕ
    d = entry ds n

    abbrev l : ℕ
    l = (condition_of bs g c s).lit

    abbrev x : Encoding
    x = first_of bs h d g c s first second

    abbrev y : Encoding
    y = second_of bs h d g c s first second

    abbrev j : Encoding
    j = join_of bs h d g c s first second

    abbrev g₁ : ℕ
    g₁ = after_condition bs h d g c s first second

    abbrev g₂ : ℕ
    g₂ = first_from bs h d g c s first second

    abbrev g₃ : ℕ
    g₃ = second_from bs h d g c s first second

    abbrev g₄ : ℕ
    g₄ = join_from bs h d g c s first second

    abbrev s₁ : Wires
    s₁ = first_wires bs h d g c s first second

    abbrev s₂ : Wires
    s₂ = second_wires bs h d g c s first second

    -- the models of the whole if, of its condition, and of the gates of both arrivals
    abbrev Fork_models : Type 0
    Fork_models = Models I ρ g (encode_if bs h d g c s first second).nodes

    abbrev Condition_models : Type 0
    Condition_models = Models I ρ g (condition_of bs g c s).nodes

    abbrev Branch_models : Type 0
    Branch_models = Models I ρ g₁ (arrivals d g₁ s.arrival l).nodes

    -- by where the claim was made, with the models of the parts
    by_claim : (P : Wires → Type 0)
        → (Condition_models → Branch_models → Models I ρ g₂ x.nodes → is_made x.wires.claim ≡ true → P x.wires)
        → (Condition_models → Branch_models → Models I ρ g₂ x.nodes → Models I ρ g₃ y.nodes → is_made x.wires.claim ≡ false
        → is_made y.wires.claim ≡ true → P y.wires)
        → (Condition_models → Branch_models → Models I ρ g₂ x.nodes → Models I ρ g₃ y.nodes → Models I ρ g₄ j.nodes
        → is_made x.wires.claim ≡ false → is_made y.wires.claim ≡ false → P j.wires)
        → Models I ρ g (encode_if bs h d g c s first second).nodes → P (encode_if bs h d g c s first second).wires
    by_claim P p q k =
        let cn = (condition_of bs g c s).nodes in
        let bn = (arrivals d g₁ s.arrival l).nodes in
        fork_by bs h d g c s first second (λ (z : Encoding). Models I ρ g z.nodes → P z.wires)
        (λ e m. let u = models_three I ρ g cn bn x.nodes m in p u.0 u.1 u.2 e)
        (λ e f m.
        let u = models_three I ρ g cn bn (x.nodes ++ y.nodes) m in
        let v = models_append I ρ g₂ x.nodes y.nodes u.2 in
        q u.0 u.1 v.0 v.1 e f)
        (λ e f m.
        let u = models_three I ρ g cn bn (x.nodes ++ (y.nodes ++ j.nodes)) m in
        let v = models_append I ρ g₂ x.nodes (y.nodes ++ j.nodes) u.2 in
        let w = models_append I ρ g₃ y.nodes j.nodes v.1 in
        k u.0 u.1 v.0 w.0 w.1 e f)

    says : Condition_models → lit ρ l ≡ holds bs c r
    says m = condition_says g c s r sound m a.worth

    alive_at : (k : ℕ) (arm : ℕ) → lit ρ k ≡ true → Alive bs ins h fine t ds before ρ o (arriving s k) (with_arm r n arm)
    alive_at k arm e = record { unclaimed = a.unclaimed; come = e; going = a.going; worth = a.worth }

    -- the arrivals of the arms, by the truth of the condition
    first_come : Condition_models → Branch_models → lit ρ s₁.arrival ≡ cond (eqb d 1) false (holds bs c r)
    first_come cm bm =
        first-lit I ρ o d g₁ s.arrival l bm ∙ ap₂ (λ (p q : Bool). cond (eqb d 1) false (p && q)) a.come (says cm)

    else_come : Condition_models → Branch_models → lit ρ s₂.arrival ≡ cond (eqb d 0) false (not (holds bs c r))
    else_come cm bm =
        else-lit I ρ o d g₁ s.arrival l bm ∙ ap₂ (λ (p q : Bool). cond (eqb d 0) false (p && not q)) a.come (says cm)

    first-places : length x.wires.lits ≡ all_places h
    first-places = arms.places g₂ s₁ ∙ a.worth.places

    never : (b : Bool) → cond b false false ≡ false
    never true = refl
    never false = refl

    strays : (r₁ : State) → Ended (Course.Astray n) r₁
    strays r₁ = inl (record { number = n; astray = refl })

    -- ---- the first arm is taken

    module _ (e : holds bs c r ≡ true) where
      abbrev z₁ : Execution
      z₁ = on₁ (with_arm r n 0)

      abbrev c₁ : Course
      c₁ = course ds t.access before z₁.events

      else_dead : Condition_models → Branch_models → Models I ρ g₃ y.nodes → lit ρ y.wires.arrival ≡ false
      else_dead cm bm ym =
          arms.dead₂ g₃ s₂ ym (else_come cm bm ∙ ap (λ (b : Bool). cond (eqb d 0) false (not b)) e ∙ never (eqb d 0))

      -- the else was decided: the run goes astray, and both arms are dead
      first_astray : eqb d 1 ≡ true → Fork_models → Tally bs h fine t ds before ρ (encode_if bs h d g c s first second).wires (Course.Astray n) z₁.state
      first_astray q =
          by_claim (λ (w : Wires). Tally bs h fine t ds before ρ w (Course.Astray n) z₁.state)
          (λ cm bm xm p. not_here bs h fine t ds before ρ x.wires (Course.Astray n) z₁.state (dead cm bm xm) (strays z₁.state))
          (λ cm bm xm ym p p₁. not_here bs h fine t ds before ρ y.wires (Course.Astray n) z₁.state (else_dead cm bm ym) (strays z₁.state))
          (λ cm bm xm ym jm p p₁. not_here bs h fine t ds before ρ j.wires (Course.Astray n) z₁.state
          (left_first g₄ l x.wires y.wires jm (Course.Astray n) z₁.state (else_dead cm bm ym) ∙ dead cm bm xm) (strays z₁.state))
        where
          dead : Condition_models → Branch_models → Models I ρ g₂ x.nodes → lit ρ x.wires.arrival ≡ false
          dead cm bm xm = arms.dead₁ g₂ s₁ xm (first_come cm bm ∙ ap (λ (b : Bool). cond b false (holds bs c r)) q)

      -- it was not: the first arm is run
      first_taken : eqb d 1 ≡ false → Fork_models → Tally bs h fine t ds before ρ (encode_if bs h d g c s first second).wires c₁ z₁.state
      first_taken q =
          by_claim (λ (w : Wires). Tally bs h fine t ds before ρ w c₁ z₁.state)
          (λ cm bm xm p. tally cm bm xm)
          (λ cm bm xm ym p p₁. missed p₁ (else_dead cm bm ym) (open_elsewhere x.wires c₁ z₁.state (tally cm bm xm) p))
          (λ cm bm xm ym jm p p₁. joined_first g₄ l x.wires y.wires jm c₁ z₁.state (says cm ∙ e) (else_dead cm bm ym) first-places p (tally cm bm xm))
        where
          tally : Condition_models → Branch_models → Models I ρ g₂ x.nodes → Tally bs h fine t ds before ρ x.wires c₁ z₁.state
          tally cm bm xm = arms.one g₂ s₁ (with_arm r n 0) xm (alive_at (arrivals d g₁ s.arrival l).first 0 (first_come cm bm ∙ ap₂ (λ (p v : Bool). cond p false v) q e))

      first_run : Fork_models → Tallies bs h fine t ds before ρ (encode_if bs h d g c s first second) (events_then (took n 0 ∷ []) z₁)
      unfolding course_to
      first_run mm =
          rw (lt-ltb n before ahead, follows-first d few)
          (pick (eqb d 1) refl)
        where
          pick : (b : Bool) → eqb d 1 ≡ b → Tally bs h fine t ds before ρ (encode_if bs h d g c s first second).wires (cond (not b) c₁ (Course.Astray n)) z₁.state
          pick true q = first_astray q mm
          pick false q = first_taken q mm

    -- ---- the else is taken

    module _ (e : holds bs c r ≡ false) where
      abbrev z₂ : Execution
      z₂ = on₂ (with_arm r n 1)

      abbrev c₂ : Course
      c₂ = course ds t.access before z₂.events

      first_dead : Condition_models → Branch_models → Models I ρ g₂ x.nodes → lit ρ x.wires.arrival ≡ false
      first_dead cm bm xm = arms.dead₁ g₂ s₁ xm (first_come cm bm ∙ ap (λ (b : Bool). cond (eqb d 1) false b) e ∙ never (eqb d 1))

      -- the first arm was decided: the run goes astray, and both arms are dead
      else_astray : eqb d 0 ≡ true → Fork_models → Tally bs h fine t ds before ρ (encode_if bs h d g c s first second).wires (Course.Astray n) z₂.state
      else_astray q =
          by_claim (λ (w : Wires). Tally bs h fine t ds before ρ w (Course.Astray n) z₂.state)
          (λ cm bm xm p. not_here bs h fine t ds before ρ x.wires (Course.Astray n) z₂.state (first_dead cm bm xm) (strays z₂.state))
          (λ cm bm xm ym p p₁. not_here bs h fine t ds before ρ y.wires (Course.Astray n) z₂.state (dead cm bm ym) (strays z₂.state))
          (λ cm bm xm ym jm p p₁. not_here bs h fine t ds before ρ j.wires (Course.Astray n) z₂.state
          (left_else g₄ l x.wires y.wires jm (Course.Astray n) z₂.state (first_dead cm bm xm) ∙ dead cm bm ym) (strays z₂.state))
        where
          dead : Condition_models → Branch_models → Models I ρ g₃ y.nodes → lit ρ y.wires.arrival ≡ false
          dead cm bm ym = arms.dead₂ g₃ s₂ ym (else_come cm bm ∙ ap (λ (b : Bool). cond b false (not (holds bs c r))) q)

      -- it was not: the else is run
      else_taken : eqb d 0 ≡ false → Fork_models → Tally bs h fine t ds before ρ (encode_if bs h d g c s first second).wires c₂ z₂.state
      else_taken q =
          by_claim (λ (w : Wires). Tally bs h fine t ds before ρ w c₂ z₂.state)
          (λ cm bm xm p. missed p (first_dead cm bm xm) (arms.apart g₂ s₁ a.unclaimed p (with_arm r n 1)))
          (λ cm bm xm ym p p₁. tally p cm bm ym)
          (λ cm bm xm ym jm p p₁. joined_else g₄ l x.wires y.wires jm c₂ z₂.state (says cm ∙ e) (first_dead cm bm xm) first-places p₁ (tally p cm bm ym))
        where
          tally : is_made x.wires.claim ≡ false → Condition_models → Branch_models → Models I ρ g₃ y.nodes → Tally bs h fine t ds before ρ y.wires c₂ z₂.state
          tally u cm bm ym =
              arms.two g₂ s₁ a.unclaimed u g₃ s₂ (with_arm r n 1) ym
              (alive_at (arrivals d g₁ s.arrival l).second 1 (else_come cm bm ∙ ap₂ (λ (p v : Bool). cond p false (not v)) q e))

      else-run : Fork_models → Tallies bs h fine t ds before ρ (encode_if bs h d g c s first second) (events_then (took n 1 ∷ []) z₂)
      unfolding course_to
      else-run mm =
          rw (lt-ltb n before ahead, follows-else d few)
          (pick (eqb d 0) refl)
        where
          pick : (b : Bool) → eqb d 0 ≡ b → Tally bs h fine t ds before ρ (encode_if bs h d g c s first second).wires (cond (not b) c₂ (Course.Astray n)) z₂.state
          pick true q = else_astray q mm
          pick false q = else_taken q mm

    -- an if
    pub fork_alive : Models I ρ g (encode_if bs h d g c s first second).nodes
        → Tallies bs h fine t ds before ρ (encode_if bs h d g c s first second)
        (cond (holds bs c r) (events_then (took n 0 ∷ []) (on₁ (with_arm r n 0))) (events_then (took n 1 ∷ []) (on₂ (with_arm r n 1))))
    fork_alive m =
        by_cond (Tallies bs h fine t ds before ρ (encode_if bs h d g c s first second)) (holds bs c r)
        (events_then (took n 0 ∷ []) (on₁ (with_arm r n 0))) (events_then (took n 1 ∷ []) (on₂ (with_arm r n 1)))
        (λ e. first_run e m) (λ e. else-run e m)
