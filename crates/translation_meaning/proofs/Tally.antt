-- How the encoding and the execution of the same commands tally, under an assignment: the four ways, and that they go on. Assumes
-- nothing.
use Rattle.std.proofs.Common.{Option, None, Some, is_some}
use mathlib.Core.Path.{◌≡◌, refl, sym, ap, subst}
use mathlib.Core.List.{List}
use mathlib.Core.Logic.{◌↔◌, ◌⊎◌, inl, inr}
use mathlib.Core.Bool.{Bool, true, false, cond}
use Prim.Native.Nat.{ℕ, ◌+◌}
use lib.ListN.{length}
use Rattle.bitvec.specs.declared.Whole.{Whole}
use Rattle.routine_header.specs.Header.{array_size}
use Rattle.routine_faults.specs.Inner.Sound.{Fine}
use Rattle.routine_header.specs.declared.Header.{Header}
use Rattle.run_state.specs.Side.{is_on}
use Rattle.run_state.specs.State.{lies}
use Rattle.run_state.specs.Run.{Execution, run_on}
use Rattle.run_state.specs.declared.State.{State}
use Rattle.run_state.specs.Course.{landing, course}
use Rattle.run_state.specs.declared.Course.{Course}
use Rattle.cnf.specs.Meaning.{Assign, lit}
use Rattle.translation_command.specs.Command.{Encoding, nodes_then}
use Rattle.translation_state.specs.Wires.{Wires, is_made}
use Rattle.translation_meaning.specs.Walk.{encode_on}
use Rattle.translation_state.specs.declared.Claim.{Claim}
use Rattle.lead.specs.declared.Target.{Target}
use Rattle.translation_meaning.proofs.Claimed.{open_of}
use Rattle.run_state.proofs.Laws.{onward, course_append}
use Rattle.run_state.proofs.Ordered.{run_then_by}
use Rattle.translation_meaning.proofs.Numbers.{Elsewhere, elsewhere_then}
use Rattle.routine_faults.proofs.Tests.{not_both}
use Rattle.translation_meaning.proofs.Worth.{Worth}

-- the run took another arm than was decided, at some if
pub record Strays (c : Course) : Type 0 where
  pub number : ℕ
  pub astray : c ≡ Course.Astray number

-- nothing that comes after can come to the access: the run went astray, or it stopped
abbrev pub Ended : Course → State → Type 0
Ended c r = Strays c ⊎ ((c ≡ Course.Passing) × (is_some r.stop ≡ true))

pub ended_elsewhere : (c : Course) (r : State) → Ended c r → Elsewhere c
ended_elsewhere c r (inl e) = subst Elsewhere (sym e.astray) tt
ended_elsewhere c r (inr p) = subst Elsewhere (sym p.0) tt

module _ (bs : List ℕ) (h : Header) (fine : Fine bs h) (t : Target) (ds : List ℕ) (before : ℕ) (ρ : Assign) where
  -- the wires w after an encoding, the course c of the run over the same commands, and the state r that it left
  pub data Tally (w : Wires) (c : Course) (r : State) : Type 0 where
    -- the run went through, by the decisions, and arrival is true
    through : w.claim ≡ None → lit ρ w.arrival ≡ true → c ≡ Course.Passing → r.stop ≡ None → Worth bs h fine ρ w.lits r.values → Tally w c r
    -- it did not, and arrival is false
    lost : w.claim ≡ None → lit ρ w.arrival ≡ false → Ended c r → Tally w c r
    -- the named access was in the encoding, the run did not come to it, and arrival there is false
    missed : is_made w.claim ≡ true → lit ρ w.arrival ≡ false → Elsewhere c → Tally w c r
    -- the run came to the named access, arrival there is true, and the side literal tells the side
    here : (side array : ℕ) (index : Whole) → w.claim ≡ Some (record { arrival = w.arrival; side = side }) → lit ρ w.arrival ≡ true → c ≡ Course.Arrived (landing array index)
        → (lit ρ side ≡ true) ↔ (is_on t.side (lies (array_size bs h array) index) ≡ true) → Tally w c r

  -- the same of two encodings
  abbrev pub Tallies : Encoding → Execution → Type 0
  Tallies x y = Tally x.wires (course ds t.access before y.events) y.state

  -- a run that ended, and arrival false
  pub not_here : (w : Wires) (c : Course) (r : State) → lit ρ w.arrival ≡ false → Ended c r → Tally w c r
  not_here w c r f e = pick (is_made w.claim) refl
    where
      pick : (b : Bool) → is_made w.claim ≡ b → Tally w c r
      pick true q = missed q f (ended_elsewhere c r e)
      pick false q = lost (open_of w.claim q) f e

  module _ (g : ℕ) (x : Encoding) (go : ℕ → Wires → Encoding) (y : Execution) (on : State → Execution) where
    abbrev course₁ : Course
    course₁ = course ds t.access before y.events

    abbrev course₂ : Course
    course₂ = course ds t.access before (on y.state).events

    abbrev next : Encoding
    next = go (g + length x.nodes) x.wires

    -- what is known of the course when the run goes on, or stops
    on-course : (Q : Course → State → Type 0) → (is_some y.state.stop ≡ false → Q (onward course₁ course₂) (on y.state).state)
        → (is_some y.state.stop ≡ true → Q course₁ y.state)
        → Q (course ds t.access before (run_on y on).events) (run_on y on).state
    on-course Q p q =
        run_then_by (λ (z : Execution). Q (course ds t.access before z.events) z.state) y on
        (λ e. subst (λ (c : Course). Q c (on y.state).state) (sym (course_append ds t.access before y.events (on y.state).events)) (p (ap is_some e)))
        (λ a e. q (ap is_some e))

    open_wires : x.wires.claim ≡ None → (Q : Encoding → Type 0) → Q (nodes_then x.nodes next) → Q (encode_on g x go)
    open_wires e Q q = subst (λ (c : Option Claim). Q (cond (is_made c) x (nodes_then x.nodes next))) (sym e) q

    made_wires : is_made x.wires.claim ≡ true → (Q : Encoding → Type 0) → Q x → Q (encode_on g x go)
    made_wires e Q q = subst (λ (b : Bool). Q (cond b x (nodes_then x.nodes next))) (sym e) q

    -- both go on
    pub tally_then : Tallies x y
        → (lit ρ x.wires.arrival ≡ true → x.wires.claim ≡ None → y.state.stop ≡ None
        → Worth bs h fine ρ x.wires.lits y.state.values → Tallies next (on y.state))
        → (x.wires.claim ≡ None → lit ρ x.wires.arrival ≡ false → lit ρ next.wires.arrival ≡ false)
        → (is_made x.wires.claim ≡ true → Elsewhere course₂) → Tallies (encode_on g x go) (run_on y on)
    tally_then (through e l p u w) alive dead misses =
        open_wires e (λ (z : Encoding). Tallies z (run_on y on))
        (on-course (λ (c : Course) (r : State). Tally next.wires c r)
        (λ f. subst (λ (c : Course). Tally next.wires (onward c course₂) (on y.state).state) (sym p) (alive l e u w))
        (λ f. not_both (is_some y.state.stop) f (ap is_some u)))
    tally_then (lost e l q) alive dead misses =
        open_wires e (λ (z : Encoding). Tallies z (run_on y on))
        (not_here next.wires _ _ (dead e l)
        (on-course Ended (λ f. still f q) (λ f. q)))
      where
        still : is_some y.state.stop ≡ false → Ended course₁ y.state → Ended (onward course₁ course₂) (on y.state).state
        still f (inl a) = inl (record { number = a.number; astray = ap (λ (c : Course). onward c course₂) a.astray })
        still f (inr a) = not_both (is_some y.state.stop) a.1 f
    tally_then (missed m l q) alive dead misses =
        made_wires m (λ (z : Encoding). Tallies z (run_on y on))
        (missed m l (on-course (λ (c : Course) (r : State). Elsewhere c) (λ f. elsewhere_then course₁ course₂ q (misses m)) (λ f. q)))
    tally_then (here side array index m l p q) alive dead misses =
        made_wires (ap is_made m) (λ (z : Encoding). Tallies z (run_on y on))
        (here side array index m l
        (on-course (λ (c : Course) (r : State). c ≡ Course.Arrived (landing array index)) (λ f. ap (λ (c : Course). onward c course₂) p) (λ f. p)) q)
