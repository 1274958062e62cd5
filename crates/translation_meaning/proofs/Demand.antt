-- Demand 2: the translation of an accepted claim is faithful to every run. Assumes nothing.
use Rattle.routine_command.specs.declared.Mark.{Mark}
use Rattle.std.proofs.Common.{None, Some, Ok}
use mathlib.Core.Path.{◌≡◌, refl, sym, ap, subst, ◌∙◌}
use mathlib.Core.List.{List}
use mathlib.Core.Logic.{◌↔◌}
use mathlib.Core.Bool.{Bool, true, false}
use Prim.Native.Nat.{ℕ, ◌+◌, ◌<◌, ◌≤◌}
use native.Mathlib.Omega.{arith}
use lib.ListN.{length}
use Rattle.slices.specs.Bytes.{entry}
use Rattle.bitvec.specs.declared.Whole.{Whole}
use Rattle.routine_header.specs.Header.{array_size, first_command}
use Rattle.routine_faults.specs.Step.{accesses}
use Rattle.routine_faults.specs.Inputs.{given}
use Rattle.routine.specs.Routine.{Arm}
use Rattle.routine.specs.Decode.{routine, decode, no_counts}
use Rattle.routine.specs.Access.{ifs_before}
use Rattle.routine.specs.Inner.Stands.{Stands}
use Rattle.routine_faults.specs.Inner.Sound.{Fine}
use Rattle.routine_header.specs.declared.Header.{Header}
use Rattle.routine_faults.specs.declared.Counts.{Counts}
use Rattle.routine.proofs.Decoded.{decoded}
use Rattle.routine.proofs.Numbering.{ifs-before}
use Rattle.routine_faults.proofs.Fine.{fine}
use Rattle.run_inputs.specs.Inputs.{listed}
use Rattle.run_state.specs.State as state
use Rattle.run_state.specs.Side.{is_on}
use Rattle.run_state.specs.State.{lies}
use Rattle.run_state.specs.Run.{Event, run_of}
use Rattle.run_state.specs.Course.{landing, course}
use Rattle.run_state.specs.Goes.{goes_way, Comes, Reaches}
use Rattle.run_state.proofs.Arriving.{arrival}
use Rattle.run_state.specs.declared.State.{State}
use Rattle.run_state.specs.declared.Course.{Course}
use Rattle.run_state.specs.declared.Landing.{Landing}
use Rattle.netlist.specs.declared.Node.{Node}
use Rattle.cnf.specs.Meaning.{Assign, lit}
use Rattle.netlist.specs.Meaning.{Inputs}
use Rattle.netlist.specs.Inner.Value.{node_val}
use Rattle.netlist.proofs.Literals.{lit_true}
use Rattle.netlist.proofs.Model.{WellFormed, value_at, eval, satisfied_iff, evaluated}
use Rattle.netlist.proofs.Truth.{Models, models_iff, models_append}
use Rattle.translation_command.specs.Command.{Encoding}
use Rattle.translation_state.specs.Wires.{Wires, is_made}
use Rattle.translation_state.specs.declared.Claim.{Claim}
use Rattle.translation_meaning.specs.Walk.{encode_arm}
use Rattle.translation_meaning.specs.Translation.{given_nodes, initial_wires, translation_of}
use Rattle.translation_meaning.specs.Faithful.{bits_of_list, Solves, Faithful, Demand2}
use Rattle.lead.specs.declared.Target.{Target}
use Rattle.lead.proofs.Leads.{admitted_range}
use Rattle.translation_meaning.proofs.Alive.{arm_alive}
use Rattle.translation_meaning.proofs.Claimed.{MadeBy, made_by, arm-claims, arm-settled}
use Rattle.run_inputs.proofs.Fitting.{Fitting, fitting}
use Rattle.translation_meaning.proofs.Formed.{whole-formed}
use Rattle.translation_meaning.proofs.Numbers.{Elsewhere}
use Rattle.translation_meaning.proofs.Simples.{Alive}
use Rattle.routine_faults.proofs.Tests.{not_both}
use Rattle.translation_meaning.proofs.Tally.{Tally, through, lost, missed, here}
use Rattle.translation_meaning.proofs.Worth.{given_worth}

-- ---- what a tally with the claim made says

module _ (bs : List ℕ) (h : Header) (f : Fine bs h) (t : Target) (ds : List ℕ) (before : ℕ) (ρ : Assign) (w : Wires) (side : ℕ)
    (made : w.claim ≡ Some (record { arrival = w.arrival; side = side })) (es : List Event)
    (same : (array : ℕ) (index : Whole)
    → (course ds t.access before es ≡ Course.Arrived (landing array index)) ↔ ((goes_way ds before es ≡ true) × Comes t.access array index es)) where
  abbrev c : Course
  c = course ds t.access before es

  elsewhere : (array : ℕ) (index : Whole) → Elsewhere c → goes_way ds before es ≡ true → Comes t.access array index es → ⊥
  elsewhere array index e way there = subst Elsewhere ((same array index).1 (way, there)) e

  arrives_says : (r : State) → Tally bs h f t ds before ρ w c r → (lit ρ w.arrival ≡ true) ↔ Reaches ds t.access before es
  arrives_says r (through e l p u v) = not_both true refl (ap is_made (sym made ∙ e))
  arrives_says r (lost e l p) = not_both true refl (ap is_made (sym made ∙ e))
  arrives_says r (missed e l p) = ((λ q. not_both (lit ρ w.arrival) q l), (λ a. absurd (elsewhere a.array a.index p a.goes a.comes)))
  arrives_says r (here side₁ array index e l p q) =
      let b = (same array index).0 p in
      ((λ z. record { array = array; index = index; goes = b.0; comes = b.1 }), (λ a. l))

  -- the same array and the same index
  lies_same : (side₁ array₁ : ℕ) (index₁ : Whole) (array : ℕ) (index : Whole) → side₁ ≡ side → Course.Arrived (landing array₁ index₁) ≡ Course.Arrived (landing array index)
      → (lit ρ side₁ ≡ true) ↔ (is_on t.side (lies (array_size bs h array₁) index₁) ≡ true)
      → (lit ρ side ≡ true) ↔ (is_on t.side (lies (array_size bs h array) index) ≡ true)
  lies_same side₁ array₁ index₁ array index e p q =
      let z : landing array₁ index₁ ≡ landing array index = cc in
      let a : array₁ ≡ array = ap (λ (l : Landing). l.array) z in
      let i : index₁ ≡ index = ap (λ (l : Landing). l.index) z in
      subst (λ (z : ℕ). (lit ρ z ≡ true) ↔ (is_on t.side (lies (array_size bs h array) index) ≡ true)) e
      (subst (λ (z : Whole). (lit ρ side₁ ≡ true) ↔ (is_on t.side (lies (array_size bs h array) z) ≡ true)) i
      (subst (λ (z : ℕ). (lit ρ side₁ ≡ true) ↔ (is_on t.side (lies (array_size bs h z) index₁) ≡ true)) a q))

  lies_says : (r : State) → Tally bs h f t ds before ρ w c r → goes_way ds before es ≡ true → (array : ℕ) (index : Whole) → Comes t.access array index es
      → (lit ρ side ≡ true) ↔ (is_on t.side (lies (array_size bs h array) index) ≡ true)
  lies_says r (through e l p u v) way array index there = not_both true refl (ap is_made (sym made ∙ e))
  lies_says r (lost e l p) way array index there = not_both true refl (ap is_made (sym made ∙ e))
  lies_says r (missed e l p) way array index there = absurd (elsewhere array index p way there)
  lies_says r (here side₁ array₁ index₁ e l p q) way array index there =
      let x : ◌≡◌ {A = Claim} (record { arrival = w.arrival; side = side₁ }) (record { arrival = w.arrival; side = side }) = cc in
      let y : side₁ ≡ side = ap (λ (z : Claim). z.side) x in
      lies_same side₁ array₁ index₁ array index y (sym p ∙ (same array index).1 (way, there)) q

-- ---- the whole

module _ (bs : List ℕ) (t : Target) (ds : List ℕ) (h : Header) (a : Arm) (k : Counts) (is : decode bs ≡ routine h a k)
    (named : t.access < accesses k) (side : t.side ≤ 1) (few : (n : ℕ) → entry ds n ≤ 2) where
  ok : Fine bs h
  ok = fine bs h (decoded bs h a k is).header

  stands : Stands bs h 0 Mark.End (first_command h) no_counts a (length bs) k
  stands = (decoded bs h a k is).stands

  -- how many ifs stand before the named access
  abbrev before : ℕ
  before = ifs_before a t.access

  abbrev ps : List Node
  ps = given_nodes bs (given h)

  abbrev g : ℕ
  g = 2 + length ps

  abbrev x : Encoding
  x = encode_arm bs h t ds a g (initial_wires bs h)

  start_open : (initial_wires bs h).claim ≡ None
  unfolding initial_wires
  start_open = refl

  -- the claim is made
  claimed : is_made x.wires.claim ≡ true
  claimed = pick (is_made x.wires.claim) refl
    where
      pick : (b : Bool) → is_made x.wires.claim ≡ b → is_made x.wires.claim ≡ true
      pick true e = e
      pick false e =
          let p = (arm-claims t bs h ds a 0 Mark.End (first_command h) no_counts (length bs) k stands g (initial_wires bs h) start_open).unnamed e (omega arith) in
          absurd (omega arith)

  made : MadeBy x.wires.claim
  made = made_by x.wires.claim claimed

  claims : x.wires.claim ≡ Some (record { arrival = x.wires.arrival; side = made.side })
  claims =
      made.is
      ∙ ap (λ (z : ℕ). Some (record { arrival = z; side = made.side })) (arm-settled t bs h ds a g (initial_wires bs h) start_open made.arrival made.side made.is)

  formed : WellFormed 1 (translation_of bs t ds h a).nodes
  formed = whole-formed bs h ok t ds a (first_command h) no_counts (length bs) k stands

  module _ (ins : List ℕ) (accepted : listed bs ins h a k ≡ Ok tt) where
    abbrev I : Inputs
    I = bits_of_list ins

    fits : Fitting bs ins h a
    fits = fitting bs ins h a k is accepted

    module _ (ρ : Assign) (solves : Solves ins (translation_of bs t ds h a) ρ) where
      models : Models I ρ 1 (translation_of bs t ds h a).nodes
      models = (models_iff I ρ 1 (translation_of bs t ds h a).nodes).0 (solves.satisfies, solves.extends)

      truth : ρ 1 ≡ true
      unfolding translation_of node_val
      truth = models.0

      parts : Models I ρ 2 ps × Models I ρ g x.nodes
      unfolding translation_of
      parts = models_append I ρ 2 ps x.nodes models.1

      -- at the start the variables have their words
      alive : Alive bs ins h ok t ds before ρ truth (initial_wires bs h) (state.initial ins (given h))
      unfolding initial_wires state.initial
      alive = record {
        unclaimed = refl;
        come = lit_true ρ truth;
        going = refl;
        worth = given_worth bs h ok ρ ins truth (given h) (omega arith) fits.variables parts.0;
      }

      tally : Tally bs h ok t ds before ρ x.wires (course ds t.access before (run_of bs ins h a).events) (run_of bs ins h a).state
      unfolding run_of
      tally =
          arm_alive bs ins h ok t ds before ρ truth side few a 0 Mark.End (first_command h) no_counts (length bs) k stands fits.reads
          (ifs-before bs h a k is t.access named) (omega arith) g (initial_wires bs h) (state.initial ins (given h)) parts.1 alive

  -- its course arrived just where it goes the way and comes to the access
  same : (ins : List ℕ) (array : ℕ) (index : Whole) → (course ds t.access before (run_of bs ins h a).events ≡ Course.Arrived (landing array index))
      ↔ ((goes_way ds before (run_of bs ins h a).events ≡ true) × Comes t.access array index (run_of bs ins h a).events)
  same ins = arrival bs ins ds h a k is t.access named

  all_parts : Faithful bs t ds h a k
  unfolding translation_of
  all_parts = record {
    arrival = x.wires.arrival;
    side = made.side;
    claims = claims;
    solution = λ ins e. value_at (eval (bits_of_list ins) (translation_of bs t ds h a).nodes);
    solves = λ ins e. let p = evaluated (bits_of_list ins) (translation_of bs t ds h a).nodes formed in record { satisfies = p.0; extends = p.1 };
    only = λ ins e ρ σ p q v l m.
        (satisfied_iff (bits_of_list ins) ρ (translation_of bs t ds h a).nodes formed).0 (p.satisfies, p.extends) v l m
        ∙ sym ((satisfied_iff (bits_of_list ins) σ (translation_of bs t ds h a).nodes formed).0 (q.satisfies, q.extends) v l m);
    arrives = λ ins e ρ p. arrives_says bs h ok t ds before ρ x.wires made.side claims (run_of bs ins h a).events (same ins) (run_of bs ins h a).state (tally ins e ρ p);
    lies = λ ins e ρ p. lies_says bs h ok t ds before ρ x.wires made.side claims (run_of bs ins h a).events (same ins) (run_of bs ins h a).state (tally ins e ρ p);
  }

-- a claim on an access that the routine has, on a side that there is, by decisions that there are
faithful : (bs : List ℕ) (t : Target) (ds : List ℕ) (h : Header) (a : Arm) (k : Counts) → decode bs ≡ routine h a k → t.access < accesses k → t.side ≤ 1
    → ((n : ℕ) → entry ds n ≤ 2) → Faithful bs t ds h a k
faithful = all_parts

-- of every admitted claim
pub demand : (bs : List ℕ) (t : Target) (ds : List ℕ) → Demand2 bs t ds
demand bs t ds = record {
  holds = λ h a k e. let x = admitted_range bs t ds h a k e in faithful bs t ds h a k x.0 x.1.access x.1.side x.1.decisions;
}
