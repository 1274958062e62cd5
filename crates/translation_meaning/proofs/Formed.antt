-- A translation's nodes refer only to variables before their own, and so do the literals that it leaves. Assumes nothing.
use Rattle.routine_command.specs.declared.Conversion.{Conversion}
use Rattle.routine_command.specs.declared.Operation.{Operation}
use Rattle.routine_command.specs.declared.Mark.{Mark}
use Rattle.std.proofs.Common.{Some}
use mathlib.Core.Path.{◌≡◌, sym, ap, subst, ◌∙◌}
use mathlib.Core.List.{List, [], ◌∷◌, ◌++◌}
use mathlib.Core.Bool.{Bool, true, false, cond}
use Prim.Native.Nat.{ℕ, zero, suc, ◌+◌, ◌-◌, ◌<◌}
use native.Mathlib.Nat.{add_assoc}
use native.Mathlib.Omega.{arith}
use lib.ListN.{length, length-replicate, length-append, get_or-replicate}
use lib.Dec.{eqb}
use Rattle.slices.specs.Bytes.{entry}
use Rattle.routine_header.specs.Header.{width, array_size}
use Rattle.routine.specs.Routine.{Arm}
use Rattle.routine.specs.Inner.Stands.{Stands}
use Rattle.routine_faults.specs.Inner.Sound.{Sound, SoundIf, Fine}
use Rattle.routine_header.specs.declared.Header.{Header}
use Rattle.routine_command.specs.declared.Condition.{Condition}
use Rattle.routine_faults.specs.declared.Counts.{Counts}
use Rattle.routine_faults.specs.Inputs.{given, input_number}
use Rattle.routine_command.specs.declared.Simple.{Simple}
use Rattle.routine.proofs.Views.{induction}
use Rattle.routine_faults.proofs.Fine.{convert_fine, compute_fine, read_fine, write_fine, condition_fine}
use Rattle.netlist.specs.Literal.{opp, pos}
use Rattle.netlist.specs.declared.Node.{Node}
use Rattle.netlist.specs.declared.Node.TheVariants.{One, And}
use Rattle.netlist.proofs.Model.{Before, WellFormed}
use Rattle.netlist.proofs.Formed.{before_later, before-opp, before-pos, before-neg, formed_append}
use Rattle.arithmetic.specs.Bits.{Bits}
use Rattle.arithmetic.specs.Adder.{adder, sum_bit, opp_bits}
use Rattle.arithmetic.specs.Circuit.{Predicate, Number, never}
use Rattle.arithmetic.specs.Extend.{const_bit}
use Rattle.arithmetic.specs.Input.{inputs, in_bit}
use Rattle.comparison.specs.Access.{above}
use Rattle.arithmetic.proofs.Values.{AllBefore}
use Rattle.arithmetic.proofs.Adder.{length-adder, adder-formed, subtractor-formed, sum-before}
use Rattle.arithmetic.proofs.Product.{product-formed, product-before}
use Rattle.division.proofs.Division.{steps-formed, quotient-before, remainder-before}
use Rattle.arithmetic.proofs.Extend.{const_before, extend-before}
use Rattle.arithmetic.proofs.Input.{length-inputs, inputs-formed, input_before}
use Rattle.comparison.proofs.Access.{above-formed, above_before}
use Rattle.comparison.proofs.Relating.{relation-formed, relation-before}
use Rattle.translation_state.specs.Wires.{Wires, all_places, bits_set, bits_of, with_bits, arriving}
use Rattle.translation_command.specs.Command.{Encoding, nodes_then, still, access, read_into, simple}
use Rattle.translation_command.specs.Operation.{conversion, computation}
use Rattle.translation_access.specs.Index.{top, passing, claim}
use Rattle.translation_meaning.specs.Walk.{encode_on, encode_if, encode_arm}
use Rattle.translation_if.specs.If.{Arrivals, condition_of, arm_arrival, arrivals}
use Rattle.translation_meaning.specs.Translation.{given_nodes, given_lits, initial_wires, translation_of}
use Rattle.lead.specs.declared.Target.{Target}
use Rattle.translation_meaning.proofs.Computing.{by_computation}
use Rattle.translation_meaning.proofs.Stretches.{then_by, access_by_lem, fork_by, first_from, first_wires, first_of, second_from, second_wires, second_of, join_from, join_of}
use Rattle.translation_meaning.proofs.Wired.{Held, Named, Wired, Made, held_later, named_later, wired_later, wired_arriving, made_after, held_put, wired_put, wide, var_bits, joined_made}

module _ (bs : List ℕ) (h : Header) (fine : Fine bs h) where
  -- ---- commands

  still_made : (g : ℕ) (s : Wires) → Wired h.variables g s → Made h.variables g (still s)
  still_made g s w = record { formed = tt; wired = wired_later (g + 0) (omega arith) w }

  convert_before : (op : Conversion) (g : ℕ) (a : Bits) (w v : ℕ) → 0 < w → 1 < g → AllBefore g a w → AllBefore g (conversion op a w) v
  unfolding conversion
  convert_before Conversion.Copy g a w v z o f = extend-before g a w 3 v f (before-neg g 1 (omega arith) o)
  convert_before Conversion.Cut g a w v z o f = extend-before g a w 3 v f (before-neg g 1 (omega arith) o)
  convert_before Conversion.ZeroExtend g a w v z o f = extend-before g a w 3 v f (before-neg g 1 (omega arith) o)
  convert_before Conversion.SignExtend g a w v z o f = extend-before g a w (top a w) v f (f (w - 1) (omega arith))

  -- the gates of a number whose first variable is g, and its first w bits
  record Numbered (g w : ℕ) (x : Number) : Type 0 where
    gates : WellFormed g x.nodes
    bits : AllBefore (g + length x.nodes) x.bits w

  compute_made : (op : Operation) (g : ℕ) (a b : Bits) (w : ℕ) → 1 < g → AllBefore g a w → AllBefore g b w → Numbered g w (computation op g a b w)
  compute_made op g a b w z ha hb =
      by_computation (λ x n. Numbered g w x) g a b w 0 0 op
      (sums 3 b (adder-formed g a b 3 w (omega arith) ha hb (before-neg g 1 (omega arith) z)))
      (sums 2 (opp_bits b) (subtractor-formed g a b w z ha hb))
      (record { gates = product-formed g a b w w z (omega arith) ha hb; bits = product-before g a b w z })
      (record { gates = steps-formed g a b w w z (omega arith) ha hb; bits = quotient-before g a b w z })
      (record { gates = steps-formed g a b w w z (omega arith) ha hb; bits = remainder-before g a b w z })
    where
      sums : (c : ℕ) (e : Bits) → WellFormed g (adder g a e c w) → Numbered g w (record { nodes = adder g a e c w; bits = sum_bit g })
      sums c e f =
          record { gates = f; bits = subst (λ (n : ℕ). AllBefore (g + n) (sum_bit g) w) (sym (length-adder g a e c w)) (sum-before g w (omega arith)) }

  -- the gates of a predicate whose first variable is g, and its literal
  record Decided (g : ℕ) (x : Predicate) : Type 0 where
    gates : WellFormed g x.nodes
    literal : Before (g + length x.nodes) x.lit

  -- an access that is not the named one
  passing_made : (g : ℕ) (a : Bits) (size w arrival : ℕ) → 0 < w → 1 < g → AllBefore g a w → Before g arrival → Decided g (passing g a size w arrival)
  unfolding passing
  passing_made g a size w arrival z o f b =
      let x : Predicate = above g a size w in
      let k : ℕ = g + length x.nodes in
      let ms : List Node = And (opp (top a w)) (opp x.lit) ∷ And arrival (pos k) ∷ [] in
      let e = length-append x.nodes ms in
      record {
        gates = formed_append g x.nodes ms (above-formed g a size w o f) (
          (before_later k (omega arith) (before-opp (f (w - 1) (omega arith))), before-opp (above_before g a size w o)),
          ((before_later (suc k) (omega arith) b, before-pos (suc k) k (omega arith) (omega arith)), tt),
        );
        literal = before-pos _ (k + 1) (omega arith) (omega arith);
      }

  -- the named one
  claim_made : (side g : ℕ) (a : Bits) (size w : ℕ) → 0 < w → 1 < g → AllBefore g a w → Decided g (claim side g a size w)
  unfolding claim
  claim_made side g a size w z o f = pick (eqb side 0) (eqb side 1)
    where
      pick : (p q : Bool) → Decided g (cond p (record { nodes = []; lit = top a w }) (cond q (above g a size w) never))
      pick true q = record { gates = tt; literal = before_later (g + 0) (omega arith) (f (w - 1) (omega arith)) }
      pick false true = record { gates = above-formed g a size w o f; literal = above_before g a size w o }
      pick false false = record { gates = tt; literal = before-neg (g + 0) 1 (omega arith) (omega arith) }

  module _ (t : Target) where
    -- an access, and what goes on after it
    at_access : (g array i : ℕ) (k : Counts) (s : Wires) (go : ℕ → Wires → Encoding) → i < h.variables → Wired h.variables g s
        → ((g₁ : ℕ) (u : Wires) → Wired h.variables g₁ u → Made h.variables g₁ (go g₁ u)) → Made h.variables g (access bs h t g array i k s go)
    at_access g array i k s go l w f =
        let a : Bits = bits_of bs s i in
        let size : ℕ = array_size bs h array in
        let v : ℕ = width bs i in
        let b = var_bits bs h fine g s w i l in
        let x : Predicate = passing g a size v s.arrival in
        let n : ℕ = g + length x.nodes in
        let u : Wires = arriving s x.lit in
        let p = passing_made g a size v s.arrival (wide bs h fine i l) w.some b w.arrival in
        let c = claim_made t.side g a size v (wide bs h fine i l) w.some b in
        access_by_lem (Made h.variables g) bs h t g array i k s go
        (λ e. record {
          formed = c.gates;
          wired = let q = wired_later {s = s} (g + length (claim t.side g a size v).nodes) (omega arith) w in
              record { some = q.some; held = q.held; arrival = q.arrival; claim = (q.arrival, c.literal) };
        })
        (λ e. made_after g x.nodes (go n u) p.gates (f n u (wired_arriving {s = s} x.lit (wired_later {s = s} n (omega arith) w) p.literal)))

    read_made : (d : ℕ) (k : Counts) (g : ℕ) (s : Wires) → Wired h.variables g s → Made h.variables g (read_into bs h d k g s)
    read_made d k g s w =
        let e = length-inputs (input_number h k) (width bs d) in
        let b : AllBefore (g + length (inputs (input_number h k) (width bs d))) (in_bit g) (width bs d) =
        subst (λ (n : ℕ). AllBefore (g + n) (in_bit g) (width bs d)) (sym e) (input_before g (width bs d) (omega (arith, w.some))) in
        record {
          formed = inputs-formed g (input_number h k) (width bs d);
          wired = wired_put bs _ s (wired_later _ (omega arith) w) d (in_bit g) b;
        }

    pub simple_made : (g : ℕ) (c : Simple Conversion Operation) (k : Counts) (s : Wires) → Sound bs h c → Wired h.variables g s → Made h.variables g (simple bs h t g c k s)
    unfolding simple
    simple_made g (Simple.Set d c) k s q w = still_made g (with_bits bs s d (const_bit c)) (wired_put bs g s w d (const_bit c) (const_before g c (width bs d) w.some))
    simple_made g (Simple.Convert op d a) k s q w =
        let p = convert_fine bs h op d a q in
        let f : Bits = conversion op (bits_of bs s a) (width bs a) in
        still_made g (with_bits bs s d f)
        (wired_put bs g s w d f (convert_before op g (bits_of bs s a) (width bs a) (width bs d) (wide bs h fine a p.1) w.some (var_bits bs h fine g s w a p.1)))
    simple_made g (Simple.Compute op d a b) k s q w =
        let p = compute_fine bs h op d a b q in
        let x = bits_of bs s a in
        let y = bits_of bs s b in
        let m = compute_made op g x y (width bs d) w.some
        (subst (AllBefore g x) (sym p.3) (var_bits bs h fine g s w a p.1)) (subst (AllBefore g y) (sym p.4) (var_bits bs h fine g s w b p.2)) in
        record { formed = m.gates; wired = wired_put bs _ s (wired_later _ (omega arith) w) d (computation op g x y (width bs d)).bits m.bits }
    simple_made g (Simple.Read d array i) k s q w =
        at_access g array i k s (read_into bs h d k) (read_fine bs h d array i q).2 w (read_made d k)
    simple_made g (Simple.Write array i a) k s q w =
        at_access g array i k s (λ g₁. still) (write_fine bs h array i a q).1 w (λ g₁ u v. still_made g₁ u v)

    -- ---- ifs

    -- the gates of both arrivals, and their literals
    record Arriving (g : ℕ) (x : Arrivals) : Type 0 where
      gates : WellFormed g x.nodes
      first : Before (g + length x.nodes) x.first
      second : Before (g + length x.nodes) x.second

    arrivals_made : (d g arrival c : ℕ) → 1 < g → Before g arrival → Before g c → Arriving g (arrivals d g arrival c)
    arrivals_made d g arrival c z a b = pick (eqb d 1) (eqb d 0)
      where
        falsity : (k : ℕ) → 1 < k → Before k 3
        falsity k l = before-neg k 1 (omega arith) l

        pick : (p q : Bool) → Arriving g (record {
          nodes = (arm_arrival p g arrival c).nodes ++ (arm_arrival q (g + length (arm_arrival p g arrival c).nodes) arrival (opp c)).nodes;
          first = (arm_arrival p g arrival c).lit;
          second = (arm_arrival q (g + length (arm_arrival p g arrival c).nodes) arrival (opp c)).lit;
        })
        pick true true = record { gates = tt; first = falsity _ (omega arith); second = falsity _ (omega arith) }
        pick true false = record { gates = ((before_later _ (omega arith) a, before-opp b), tt); first = falsity _ (omega arith); second = before-pos _ _ (omega arith) (omega arith) }
        pick false true = record { gates = ((a, b), tt); first = before-pos _ _ (omega arith) (omega arith); second = falsity _ (omega arith) }
        pick false false = record {
          gates = ((a, b), ((before_later _ (omega arith) a, before_later _ (omega arith) (before-opp b)), tt));
          first = before-pos _ _ (omega arith) (omega arith);
          second = before-pos _ _ (omega arith) (omega arith);
        }

    made_front : (g : ℕ) (a b : List Node) (x : Encoding) → WellFormed g a → WellFormed (g + length a) b → Made h.variables (g + length a + length b) x
        → Made h.variables g (nodes_then (a ++ b) x)
    made_front g a b x p q m =
        let e : g + length a + length b ≡ g + length (a ++ b) = add_assoc g (length a) (length b) ∙ ap (λ (n : ℕ). g + n) (sym (length-append a b)) in
        made_after g (a ++ b) x (formed_append g a b p q) (subst (λ (n : ℕ). Made h.variables n x) e m)

    abbrev Arms : (ℕ → Wires → Encoding) → Type 0
    Arms go = (g : ℕ) (s : Wires) → Wired h.variables g s → Made h.variables g (go g s)

    module _ (first second : ℕ → Wires → Encoding) (one : Arms first) (two : Arms second) where
      pub fork_made : (d g : ℕ) (c : Condition) (s : Wires) → SoundIf bs h c → Wired h.variables g s → Made h.variables g (encode_if bs h d g c s first second)
      fork_made d g c s q w =
          let f = condition_fine bs h c q in
          let v = width bs c.s in
          let a = var_bits bs h fine g s w c.s f.1 in
          let b = subst (AllBefore g (bits_of bs s c.t)) (sym f.3) (var_bits bs h fine g s w c.t f.2) in
          let cn = (condition_of bs g c s).nodes in
          let l = (condition_of bs g c s).lit in
          let k₁ : ℕ = g + length cn in
          let cf : WellFormed g cn = relation-formed c.relation g (bits_of bs s c.s) (bits_of bs s c.t) v w.some a b in
          let lb : Before k₁ l = relation-before c.relation g (bits_of bs s c.s) (bits_of bs s c.t) v (wide bs h fine c.s f.1) w.some in
          let bn = (arrivals d k₁ s.arrival l).nodes in
          let br = arrivals_made d k₁ s.arrival l (omega (arith, w.some)) (before_later k₁ (omega arith) w.arrival) lb in
          let x = first_of bs h d g c s first second in
          let y = second_of bs h d g c s first second in
          let j = join_of bs h d g c s first second in
          let g₂ = first_from bs h d g c s first second in
          let g₃ = second_from bs h d g c s first second in
          let g₄ = join_from bs h d g c s first second in
          let s₁ = first_wires bs h d g c s first second in
          let s₂ = second_wires bs h d g c s first second in
          let m₁ : Made h.variables g₂ x = one g₂ s₁ (wired_arriving {s = s} _ (wired_later {s = s} g₂ (omega arith) w) br.first) in
          let m₂ : Made h.variables g₃ y = two g₃ s₂ (wired_arriving {s = s} _ (wired_later {s = s} g₃ (omega arith) w) (before_later g₃ (omega arith) br.second)) in
          fork_by bs h d g c s first second (Made h.variables g)
          (λ e. made_front g cn bn x cf br.gates m₁)
          (λ e e₁. made_front g cn bn (nodes_then x.nodes y) cf br.gates (made_after g₂ x.nodes y m₁.formed m₂))
          (λ e e₁. made_front g cn bn (nodes_then x.nodes (nodes_then y.nodes j)) cf br.gates
          (made_after g₂ x.nodes (nodes_then y.nodes j) m₁.formed
          (made_after g₃ y.nodes j m₂.formed
          (joined_made bs h fine g₄ l x.wires y.wires (wired_later {s = x.wires} g₄ (omega arith) m₁.wired) m₂.wired (before_later g₄ (omega arith) lb)))))

    -- an encoding, and what goes on after it
    goes_on : (g : ℕ) (x : Encoding) (go : ℕ → Wires → Encoding) → Made h.variables g x → Arms go → Made h.variables g (encode_on g x go)
    goes_on g x go m f =
        then_by (Made h.variables g) g x go (λ e. m)
        (λ e. made_after g x.nodes (go (g + length x.nodes) x.wires) m.formed (f (g + length x.nodes) x.wires m.wired))

    -- an arm that stands
    pub arm_made : (ds : List ℕ) (a : Arm) (depth : ℕ) (close : Mark) (at : ℕ) (k : Counts) (end : ℕ) (k₁ : Counts) → Stands bs h depth close at k a end k₁
        → Arms (encode_arm bs h t ds a)
    unfolding encode_arm
    arm_made ds =
        induction bs h (λ depth close at k a end k₁. Arms (encode_arm bs h t ds a))
        (λ depth close at k mark e l g s w. still_made g s w)
        (λ depth close at k c rest end k₁ v go g s w.
        goes_on g (simple bs h t g c k s) (encode_arm bs h t ds rest) (simple_made g c k s v.sound w) go)
        (λ depth close at k c first second rest end k₁ v go₁ go₂ go₃ g s w.
        goes_on g (encode_if bs h (entry ds k.ifs) g c s (encode_arm bs h t ds first) (encode_arm bs h t ds second)) (encode_arm bs h t ds rest)
        (fork_made (encode_arm bs h t ds first) (encode_arm bs h t ds second) go₁ go₂ (entry ds k.ifs) g c s v.sound w) go₃)

    -- ---- the start

    record Started (n : ℕ) : Type 0 where
      gates : WellFormed 2 (given_nodes bs n)
      lits : Held h.variables (2 + length (given_nodes bs n)) (given_lits bs (all_places h) n)

    started : (n : ℕ) → Started n
    unfolding given_nodes given_lits
    started zero = record { gates = tt; lits = record { count = length-replicate (all_places h) 3; places = λ i l. subst (Before 2) (sym (get_or-replicate (all_places h) i 3 0 l)) (before-neg 2 1 (omega arith) (omega arith)) } }
    started (suc p) =
        let q = started p in
        let ns : List Node = given_nodes bs p in
        let ms : List Node = inputs p (width bs p) in
        let e = length-append ns ms in
        let f = length-inputs p (width bs p) in
        let g : ℕ = 2 + length ns in
        let z : g + width bs p ≡ 2 + length (ns ++ ms) = omega arith in
        record {
          gates = formed_append 2 ns ms q.gates (inputs-formed g p (width bs p));
          lits = subst (λ (n : ℕ). Held h.variables n (bits_set bs (given_lits bs (all_places h) p) p (in_bit g))) z
              (held_put bs (g + width bs p) (given_lits bs (all_places h) p) (held_later (g + width bs p) (omega arith) q.lits) p (in_bit g) (input_before g (width bs p) (omega arith)));
        }

    abbrev whole_from : ℕ
    whole_from = 2 + length (given_nodes bs (given h))

    start_wired : Wired h.variables whole_from (initial_wires bs h)
    unfolding initial_wires
    start_wired = record { some = omega arith; held = (started (given h)).lits; arrival = before-pos whole_from 1 (omega arith) (omega arith); claim = tt }

    module _ (ds : List ℕ) (a : Arm) (at : ℕ) (k : Counts) (end : ℕ) (k₁ : Counts) (st : Stands bs h 0 Mark.End at k a end k₁) where
      commands_made : Made h.variables whole_from (encode_arm bs h t ds a whole_from (initial_wires bs h))
      commands_made = arm_made ds a 0 Mark.End at k end k₁ st whole_from (initial_wires bs h) start_wired

      -- a whole translation is well formed
      pub whole-formed : WellFormed 1 (translation_of bs t ds h a).nodes
      unfolding translation_of
      whole-formed = (
        tt,
        formed_append 2 (given_nodes bs (given h)) (encode_arm bs h t ds a whole_from (initial_wires bs h)).nodes
            (started (given h)).gates commands_made.formed,
      )

      -- the claim's literals are of its variables
      pub whole-named : (arrival side : ℕ) → (translation_of bs t ds h a).wires.claim ≡ Some (record { arrival = arrival; side = side })
          → Before (1 + length (translation_of bs t ds h a).nodes) arrival × Before (1 + length (translation_of bs t ds h a).nodes) side
      unfolding translation_of
      whole-named arrival side e =
          let ns : List Node = given_nodes bs (given h) in
          let x : Encoding = encode_arm bs h t ds a whole_from (initial_wires bs h) in
          let z = length-append ns x.nodes in
          subst (Named (1 + length (One ∷ (ns ++ x.nodes)))) e
          (named_later (1 + length (One ∷ (ns ++ x.nodes))) x.wires.claim (omega arith) commands_made.wired.claim)
