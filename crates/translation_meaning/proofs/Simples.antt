-- A command that is no if, where it is come to: its translation tallies with the run. Assumes nothing.
use Rattle.routine_command.specs.declared.Conversion.{Conversion}
use Rattle.routine_command.specs.declared.Operation.{Operation}
use Rattle.std.proofs.Common.{None, Option}
use mathlib.Core.Path.{◌≡◌, refl, sym, ap, ap₂, subst, ◌∙◌}
use mathlib.Core.List.{List, [], ◌∷◌}
use mathlib.Core.Logic.{inr}
use mathlib.Core.Bool.{Bool, true, false, ◌&&◌}
use Prim.Native.Nat.{ℕ, ◌+◌, ◌<◌, ◌≤◌}
use native.Mathlib.Omega.{arith}
use lib.ListN.{length}
use lib.Dec.{eqb}
use borrow.Author.Tests.{eqb-true, ltb-true}
use Rattle.slices.specs.Bytes.{entry}
use Rattle.bitvec.specs.Signed.{signed}
use Rattle.bitvec.specs.declared.Whole.{Whole}
use Rattle.routine_header.specs.Header.{width, array_size}
use Rattle.routine_faults.specs.Step.{accesses, converts, widths_fit}
use Rattle.routine_faults.specs.Inputs.{input_number}
use Rattle.routine_faults.specs.Inner.Sound.{Sound, Fine}
use Rattle.routine_header.specs.declared.Header.{Header}
use Rattle.routine_faults.specs.declared.Counts.{Counts}
use Rattle.routine_command.specs.declared.Simple.{Simple}
use Rattle.routine_faults.proofs.Fine.{set_fine, convert_fine, compute_fine, read_fine, write_fine}
use Rattle.run_state.specs.State as state
use Rattle.run_state.specs.State.{converted, computed, index_of, lies, arrive, accessed, executed}
use Rattle.run_state.specs.Run.{came, events_at}
use Rattle.run_state.specs.declared.State.{State}
use Rattle.run_state.specs.Course.{landing, course_to, course}
use Rattle.run_state.specs.declared.Course.{Course}
use Rattle.run_state.specs.declared.Side.{Side}
use Rattle.netlist.specs.declared.Node.{Node}
use Rattle.cnf.specs.Meaning.{Assign, lit}
use Rattle.netlist.specs.Meaning.{Inputs}
use Rattle.netlist.proofs.Truth.{Models, models_append}
use Rattle.arithmetic.specs.Bits.{Bits}
use Rattle.arithmetic.specs.Extend.{const_bit}
use Rattle.arithmetic.specs.Input.{in_bit}
use Rattle.arithmetic.proofs.Values.{value}
use Rattle.arithmetic.proofs.Adder.{sum-word, difference-word}
use Rattle.arithmetic.proofs.Product.{product-word}
use Rattle.division.proofs.Dividing.{quotient-word, remainder-word}
use Rattle.arithmetic.proofs.Extend.{const_word, cut_word, zero_extend_word, sign_extend_word}
use Rattle.arithmetic.proofs.Input.{input_word}
use Rattle.translation_state.specs.Wires.{Wires, bits_of, with_bits, arriving, claiming}
use Rattle.translation_command.specs.Command.{Encoding, still, access, read_into, simple}
use Rattle.translation_command.specs.Operation.{conversion, computation}
use Rattle.translation_access.specs.Index.{passing, claim}
use Rattle.translation_meaning.specs.Faithful.{bits_of_list}
use Rattle.lead.specs.declared.Target.{Target}
use Rattle.run_inputs.proofs.Fitting.{FitSimple}
use Rattle.translation_meaning.proofs.Computing.{by_computation}
use Rattle.translation_meaning.proofs.Gates.{access-lit, access-above}
use Rattle.translation_meaning.proofs.Sides.{Entered, within, outside, inside_says, side_says}
use Rattle.translation_meaning.proofs.Stretches.{access_by_lem}
use Rattle.translation_meaning.proofs.Tally.{Tally, through, here, Tallies, not_here}
use Rattle.translation_meaning.proofs.Worth.{Worth, put_worth}

-- ---- copy, cut and the extensions

-- copy keeps the width, cut makes narrower, and the others make wider
pub convert_word : (ρ : Assign) → ρ 1 ≡ true → (op : Conversion) (v w : ℕ) (a : Bits) → 0 < w → converts op v w ≡ true
    → value ρ (conversion op a w) v ≡ converted op v w (value ρ a w)
unfolding converted conversion
convert_word ρ o Conversion.Copy v w a z q = let y = eqb-true v w q in zero_extend_word ρ a w v (omega arith) o
convert_word ρ o Conversion.Cut v w a z q = let y = ltb-true v w q in cut_word ρ a w 3 v (omega arith)
convert_word ρ o Conversion.ZeroExtend v w a z q = let y = ltb-true w v q in zero_extend_word ρ a w v (omega arith) o
convert_word ρ o Conversion.SignExtend v w a z q = let y = ltb-true w v q in sign_extend_word ρ a w v z (omega arith)

-- ---- sum, difference, product, quotient, remainder

pub compute_word : (ins : Inputs) (ρ : Assign) → ρ 1 ≡ true → (op : Operation) (g : ℕ) (a b : Bits) (w : ℕ) → Models ins ρ g (computation op g a b w).nodes
    → value ρ (computation op g a b w).bits w ≡ computed op w (value ρ a w) (value ρ b w)
compute_word ins ρ o op g a b w =
    by_computation (λ x n. Models ins ρ g x.nodes → value ρ x.bits w ≡ n) g a b w (value ρ a w) (value ρ b w) op
    (sum-word ins ρ g a b w o)
    (difference-word ins ρ g a b w o)
    (product-word ins ρ g a b w o)
    (quotient-word ins ρ g a b w o)
    (remainder-word ins ρ g a b w o)

-- ---- commands

module _ (bs ins : List ℕ) (h : Header) (fine : Fine bs h) (t : Target) (ds : List ℕ) (before : ℕ) (ρ : Assign) (o : ρ 1 ≡ true) where
  -- the run goes on with the state r, and comes to the wires s by the decisions
  pub record Alive (s : Wires) (r : State) : Type 0 where
    pub unclaimed : s.claim ≡ None
    pub come : lit ρ s.arrival ≡ true
    pub going : r.stop ≡ None
    pub worth : Worth bs h fine ρ s.lits r.values

  pub alive_through : (w : Wires) (c : Course) (r : State) → Alive w r → c ≡ Course.Passing → Tally bs h fine t ds before ρ w c r
  alive_through w c r a e = through a.unclaimed a.come e a.going a.worth

  pub alive_put : (s : Wires) (r : State) → Alive s r → (d : ℕ) (f : Bits) (x : ℕ) → d < h.variables → value ρ f (width bs d) ≡ x
      → Alive (with_bits bs s d f) (state.assigned r d x)
  alive_put s r a d f x l e =
      record { unclaimed = a.unclaimed; come = a.come; going = a.going; worth = put_worth bs h fine ρ s.lits r.values a.worth d f x l e }

  -- ---- accesses

  and-true : (a b : Bool) → a ≡ true → (a && b) ≡ b
  and-true a b e = ap (λ (x : Bool). x && b) e

  came_here : (number array : ℕ) (index : Whole) → eqb number t.access ≡ true → course ds t.access before (came number array index ∷ []) ≡ Course.Arrived (landing array index)
  unfolding course_to
  came_here number array index e = rw e

  came-past : (number array : ℕ) (index : Whole) → eqb number t.access ≡ false → course ds t.access before (came number array index ∷ []) ≡ Course.Passing
  unfolding course_to
  came-past number array index e = rw e

  module _ (side : t.side ≤ 1) (g array i : ℕ) (k : Counts) (s : Wires) (r next : State) (go : ℕ → Wires → Encoding) (l : i < h.variables) (a : Alive s r) where
    abbrev bits : Bits
    bits = bits_of bs s i

    abbrev size : ℕ
    size = array_size bs h array

    abbrev w : ℕ
    w = width bs i

    index : signed w (value ρ bits w) ≡ index_of bs r i
    unfolding index_of
    index = ap (signed w) (a.worth.worth i l)

    wide : 0 < w
    wide = omega (arith, fine.widths i l)

    -- the run comes to the named access
    at_claim : eqb (accesses k) t.access ≡ true → Models (bits_of_list ins) ρ g (claim t.side g bits size w).nodes
        → Tally bs h fine t ds before ρ (claiming s (claim t.side g bits size w).lit) (course ds t.access before (came (accesses k) array (index_of bs r i) ∷ []))
        (accessed bs h array i k r next)
    at_claim e m =
        here (claim t.side g bits size w).lit array (index_of bs r i) refl a.come (came_here (accesses k) array (index_of bs r i) e)
        (rw (← index) (side_says (bits_of_list ins) ρ o bits size w wide t.side g side m))

    abbrev ns : List Node
    ns = (passing g bits size w s.arrival).nodes

    abbrev u : Wires
    u = arriving s (passing g bits size w s.arrival).lit

    abbrev x : Encoding
    x = go (g + length ns) u

    module _ (m : Models (bits_of_list ins) ρ g ns) (past : eqb (accesses k) t.access ≡ false) (keeps : x.wires.arrival ≡ u.arrival)
        (on : Alive u r → Alive x.wires next) where
      abbrev c : Course
      c = course ds t.access before (came (accesses k) array (index_of bs r i) ∷ [])

      -- inside it goes on, outside it stops
      by_side : (b : Bool) → lit ρ u.arrival ≡ b → Entered (lies size (index_of bs r i)) b → Tally bs h fine t ds before ρ x.wires c (accessed bs h array i k r next)
      by_side b e (within p q) =
          subst (λ (z : Option Side). Tally bs h fine t ds before ρ x.wires c (arrive r (accesses k) (index_of bs r i) z next)) (sym p)
          (alive_through x.wires c next (on (record { unclaimed = a.unclaimed; come = e ∙ q; going = a.going; worth = a.worth })) (came-past (accesses k) array (index_of bs r i) past))
      by_side b e (outside sd p q) =
          subst (λ (z : Option Side). Tally bs h fine t ds before ρ x.wires c (arrive r (accesses k) (index_of bs r i) z next)) (sym p)
          (not_here bs h fine t ds before ρ x.wires c _ (ap (lit ρ) keeps ∙ e ∙ q) (inr (came-past (accesses k) array (index_of bs r i) past, refl)))

      at_past : Tally bs h fine t ds before ρ x.wires c (accessed bs h array i k r next)
      at_past =
          by_side _ (access-lit (bits_of_list ins) ρ g bits size w s.arrival m ∙ and-true (lit ρ s.arrival) _ a.come)
          (rw (← index) (inside_says (bits_of_list ins) ρ o bits size w wide g (access-above (bits_of_list ins) ρ g bits size w s.arrival m)))

    -- an access, named or not
    access_alive : ((m : Models (bits_of_list ins) ρ (g + length ns) x.nodes) → Alive u r → Alive x.wires next) → x.wires.arrival ≡ u.arrival
        → Models (bits_of_list ins) ρ g (access bs h t g array i k s go).nodes
        → Tallies bs h fine t ds before ρ (access bs h t g array i k s go)
        (record { events = came (accesses k) array (index_of bs r i) ∷ []; state = accessed bs h array i k r next })
    access_alive on keeps =
        access_by_lem
        (λ (z : Encoding). Models (bits_of_list ins) ρ g z.nodes
        → Tally bs h fine t ds before ρ z.wires (course ds t.access before (came (accesses k) array (index_of bs r i) ∷ [])) (accessed bs h array i k r next))
        bs h t g array i k s go
        (λ e m. at_claim e m)
        (λ e m. let p = models_append (bits_of_list ins) ρ g ns x.nodes m in at_past p.0 e keeps (on p.1))

  pub simple_alive : t.side ≤ 1 → (g : ℕ) (c : Simple Conversion Operation) (k : Counts) (s : Wires) (r : State) → Sound bs h c → FitSimple bs ins h c k
      → Models (bits_of_list ins) ρ g (simple bs h t g c k s).nodes → Alive s r
      → Tallies bs h fine t ds before ρ (simple bs h t g c k s) (record { events = events_at bs c k r; state = executed bs ins h c k r })
  unfolding simple executed course_to widths_fit
  simple_alive sd g (Simple.Set d c) k s r q f m a =
      let p = set_fine bs h d c q in
      alive_through (with_bits bs s d (const_bit c)) Course.Passing (state.assigned r d c) (alive_put s r a d (const_bit c) c p.0 (const_word ρ c (width bs d) o p.1)) refl
  simple_alive sd g (Simple.Convert op d b) k s r q f m a =
      let p = convert_fine bs h op d b q in
      let e : Bits = conversion op (bits_of bs s b) (width bs b) in
      let x : ℕ = converted op (width bs d) (width bs b) (entry r.values b) in
      let z : 0 < width bs b = omega (arith, fine.widths b p.1) in
      alive_through (with_bits bs s d e) Course.Passing (state.assigned r d x)
      (alive_put s r a d e x p.0 (convert_word ρ o op (width bs d) (width bs b) (bits_of bs s b) z q.widths
      ∙ ap (converted op (width bs d) (width bs b)) (a.worth.worth b p.1))) refl
  simple_alive sd g (Simple.Compute op d b c) k s r q f m a =
      let p = compute_fine bs h op d b c q in
      let w : ℕ = width bs d in
      let x : ℕ = computed op w (entry r.values b) (entry r.values c) in
      let vb : value ρ (bits_of bs s b) w ≡ entry r.values b = ap (value ρ (bits_of bs s b)) p.3 ∙ a.worth.worth b p.1 in
      let vc : value ρ (bits_of bs s c) w ≡ entry r.values c = ap (value ρ (bits_of bs s c)) p.4 ∙ a.worth.worth c p.2 in
      let e : Bits = (computation op g (bits_of bs s b) (bits_of bs s c) w).bits in
      alive_through (with_bits bs s d e) Course.Passing (state.assigned r d x)
      (alive_put s r a d e x p.0
      (compute_word (bits_of_list ins) ρ o op g (bits_of bs s b) (bits_of bs s c) w m ∙ ap₂ (computed op w) vb vc)) refl
  simple_alive sd g (Simple.Read d array i) k s r q f m a =
      let p = read_fine bs h d array i q in
      let n : ℕ = input_number h k in
      access_alive sd g array i k s r (state.assigned r d (entry ins n)) (read_into bs h d k) p.2 a
      (λ m₁ b. alive_put _ r b d (in_bit _) (entry ins n) p.0 (input_word (bits_of_list ins) ρ _ n (width bs d) (entry ins n) (λ j. refl) f m₁)) refl m
  simple_alive sd g (Simple.Write array i b) k s r q f m a =
      access_alive sd g array i k s r r (λ g₁. still) (write_fine bs h array i b q).1 a (λ m₁ z. z) refl m
