-- A walk over an arm: what was made so far and what is left make what the whole makes. Assumes nothing.
use Rattle.routine_command.specs.declared.Mark.{Mark}
use mathlib.Core.Path.{◌≡◌, refl, sym, ap, subst, ◌∙◌}
use mathlib.Core.List.{List, [], ◌++◌, append_assoc, append-nil}
use mathlib.Core.Bool.{true, false}
use Prim.Native.Nat.{ℕ, ◌+◌, ◌^◌, ◌≤◌, ◌<◌}
use native.Mathlib.Omega.{arith}
use lib.ListN.{length, length-append}
use Rattle.routine_command.specs.Command.{simple_size, command_at}
use Rattle.routine_faults.specs.Step.{counts_after}
use Rattle.routine.specs.Routine.{Arm, parsed}
use Rattle.routine.specs.Inner.Stands.{Stands, SomeArm}
use Rattle.routine_header.specs.declared.Header.{Header}
use Rattle.routine_command.specs.declared.Condition.{Condition}
use Rattle.routine_faults.specs.declared.Counts.{Counts}
use Rattle.routine_command.specs.declared.Conversion.{Conversion}
use Rattle.routine_command.specs.declared.Operation.{Operation}
use Rattle.routine_command.specs.declared.Simple.{Simple}
use Rattle.routine_command.specs.declared.Command.{Command}
use Rattle.routine.proofs.Views.{by_close, by_simple, by_if, BySimple, ByIf}
use Rattle.routine.proofs.Standing.{arms_of, if_ends}
use Rattle.netlist.specs.declared.Node.{Node}
use Rattle.netlist.specs.Inner.Emit.{Emitted}
use Rattle.netlist.specs.declared.Net.{Net}
use Rattle.netlist.proofs.Emitting.{emitted-none, emitted_then, ready-after, ready_weaken}
use Rattle.translation_state.specs.Wires.{Wires, is_made, all_places}
use Rattle.translation_command.specs.Command.{Encoding, nodes_then, still, simple}
use Rattle.translation_meaning.specs.Walk.{encode_on, encode_arm}
use Rattle.translation_walk.specs.Inner.Walker.{wires_at, WalksTo, Roomy, ArmEncoded, if_of, IfEncoded, IfReady}
use Rattle.translation_command.specs.Inner.Encodes.{Encodes}
use Rattle.translation_if.specs.Inner.BeginsIf.{BeginsIf}
use Rattle.lead.specs.declared.Target.{Target}
use Rattle.translation_walk.specs.declared.Walk.{Walk}
use Rattle.translation_if.specs.declared.IfBegun.{IfBegun}
use Rattle.translation_command.specs.declared.Encoded.{Encoded}
use Rattle.routine_faults.proofs.Tests.{not_both}
use Rattle.translation_meaning.proofs.Stretches.{then_by}

-- ---- encodings

-- an encoding after which it goes on
then_goes : (ns : List Node) (g : ℕ) (x : Encoding) (go : ℕ → Wires → Encoding) (g₁ : ℕ) (s₁ : Wires) → is_made s₁.claim ≡ false
    → g₁ ≡ g + length x.nodes → s₁ ≡ x.wires → nodes_then (ns ++ x.nodes) (go g₁ s₁) ≡ nodes_then ns (encode_on g x go)
then_goes ns g x go g₁ s₁ o eg es =
    let e : is_made x.wires.claim ≡ false = ap (λ (z : Wires). is_made z.claim) (sym es) ∙ o in
    rw e
    (λ j. record {
      nodes = (append_assoc ns x.nodes (go g₁ s₁).nodes ∙ (λ i. ns ++ (x.nodes ++ (go (eg i) (es i)).nodes))) j;
      wires = (go (eg j) (es j)).wires;
    })

-- an encoding in which the claim was made
then_stops : (ns : List Node) (g : ℕ) (x : Encoding) (go : ℕ → Wires → Encoding) → is_made x.wires.claim ≡ true → nodes_then ns x ≡ nodes_then ns (encode_on g x go)
then_stops ns g x go e = rw e

then_longer : (g : ℕ) (x : Encoding) (go : ℕ → Wires → Encoding) → length x.nodes ≤ length (encode_on g x go).nodes
then_longer g x go =
    then_by (λ (z : Encoding). length x.nodes ≤ length z.nodes) g x go (λ e. omega arith) (λ e. simp length-append (omega arith))

-- ---- what stands there is only one arm

module _ {bs : List ℕ} {h : Header} {depth : ℕ} {close : Mark} {at : ℕ} {k : Counts} {a b : Arm} {end end₁ : ℕ} {k₁ k₂ : Counts} where
  pub same_arm : Stands bs h depth close at k a end k₁ → Stands bs h depth close at k b end₁ k₂ → (a ≡ b) × (end ≡ end₁) × (k₁ ≡ k₂)
  same_arm x y = let z : parsed a end k₁ ≡ parsed b end₁ k₂ = sym x.reads ∙ y.reads in (cc, cc, cc)

-- ---- the same walk

module _ {bs : List ℕ} {h : Header} {t : Target} {ds : List ℕ} {depth : ℕ} {close : Mark} {w u l w₁ u₁ l₁ : List ℕ} {p r : Walk} where
  pub arm_from : (m : List ℕ) (q : Walk) → l ≡ m → p ≡ q → ArmEncoded bs h t ds depth close w u l p w₁ u₁ l₁ r → ArmEncoded bs h t ds depth close w u m q w₁ u₁ l₁ r
  arm_from m q f e x =
      subst (λ (z : Walk). ArmEncoded bs h t ds depth close w u m z w₁ u₁ l₁ r) e
      (subst (λ (z : List ℕ). ArmEncoded bs h t ds depth close w u z p w₁ u₁ l₁ r) f x)

-- the decision that was read
pub branched_at : {bs w u : List ℕ} {n : Net} {c : Condition} {d : ℕ} {s : Wires} {w₁ u₁ : List ℕ} {r : IfBegun} (d₁ : ℕ) → d ≡ d₁
    → BeginsIf bs w u n c d s w₁ u₁ r → BeginsIf bs w u n c d₁ s w₁ u₁ r
branched_at {bs} {w} {u} {n} {c} {s = s} {w₁} {u₁} {r} d₁ e x = subst (λ (z : ℕ). BeginsIf bs w u n c z s w₁ u₁ r) e x

-- a maker that always leaves the literals, and the walk after it
pub arrives_by : {w u : List ℕ} {n : Net} {x : Encoding} {w₁ u₁ l₁ : List ℕ} {m : Encoded} {end next : ℕ} {k counts : Counts} → Encodes w u n x w₁ u₁ l₁ m
    → next ≡ end → counts ≡ k → WalksTo w u n x end k w₁ u₁ l₁ (record { next = next; counts = counts; net = m.net; reach = m.reach })
arrives_by m e f = record { emitted = m.emitted; claim = ap (λ (z : Wires). z.claim) m.wires; wires = λ o. m.wires; next = λ o. e; counts = λ o. f }

-- an encoding in which the claim was made: nothing is told of the literals, the offset and the counts
pub over : {w u : List ℕ} {n : Net} {end : ℕ} {k : Counts} {w₁ u₁ l₁ : List ℕ} {r : Walk} (x : Encoding) → Emitted w u n x.nodes w₁ u₁ r.net
    → r.reach.claim ≡ x.wires.claim → is_made r.reach.claim ≡ true → WalksTo w u n x end k w₁ u₁ l₁ r
over {r = r} x p q m = record {
  emitted = p;
  claim = q;
  wires = λ e. not_both (is_made r.reach.claim) m e;
  next = λ e. not_both (is_made r.reach.claim) m e;
  counts = λ e. not_both (is_made r.reach.claim) m e;
}

-- ---- the walk over an arm

module _ (bs : List ℕ) (h : Header) (t : Target) (ds : List ℕ) (depth : ℕ) (close : Mark) where
  -- the walk began at p₀ with the literals l, where the arm of i stands, and is now at p with the literals l₁; a rest of the arm is left
  pub record Left (w u l : List ℕ) (p₀ : Walk) (i : SomeArm bs h depth close p₀.next p₀.counts) (w₁ u₁ l₁ : List ℕ) (p : Walk) : Type 0 where
    pub nodes : List Node
    pub emitted : Emitted w u p₀.net nodes w₁ u₁ p.net
    pub going : is_made p.reach.claim ≡ false
    pub rest : Arm
    pub stands : Stands bs h depth close p.next p.counts rest i.end i.after
    pub same : nodes_then nodes (encode_arm bs h t ds rest p.net.next (wires_at l₁ p)) ≡ encode_arm bs h t ds i.arm p₀.net.next (wires_at l p₀)

  module _ (w u l : List ℕ) (p₀ : Walk) (i : SomeArm bs h depth close p₀.next p₀.counts) where
    -- all that the arm makes
    abbrev Whole : Encoding
    Whole = encode_arm bs h t ds i.arm p₀.net.next (wires_at l p₀)

    pub begun : is_made p₀.reach.claim ≡ false → Left w u l p₀ i w u l p₀
    begun o = record { nodes = []; emitted = emitted-none w u p₀.net; going = o; rest = i.arm; stands = i.stands; same = refl }

    -- what was told of the arm of i is told of whatever arm stands there
    pub arm-told : {w₁ u₁ l₁ : List ℕ} {r : Walk} → WalksTo w u p₀.net Whole i.end i.after w₁ u₁ l₁ r → ArmEncoded bs h t ds depth close w u l p₀ w₁ u₁ l₁ r
    arm-told x = record {
      tells = λ a end k₁ y.
          let e = same_arm i.stands y in
          rw (e.0, e.1, e.2) at x;
    }

    module _ {w₁ u₁ l₁ : List ℕ} {p : Walk} (y : Left w u l p₀ i w₁ u₁ l₁ p) where
      -- the arm that stands here now
      pub some_here : SomeArm bs h depth close p.next p.counts
      some_here = record { arm = y.rest; end = i.end; after = i.after; stands = y.stands }

      pub room_here : Roomy p₀.net Whole → Roomy p.net (encode_arm bs h t ds y.rest p.net.next (wires_at l₁ p))
      room_here r =
          let x = encode_arm bs h t ds y.rest p.net.next (wires_at l₁ p) in
          let e = sym (length-append y.nodes x.nodes) ∙ ap (λ (z : Encoding). length z.nodes) y.same in
          ready-after (2 ^ 25 + length x.nodes) y.emitted r (omega (arith, e))

      -- an encoding x comes first in what is left, and then the walk is at q
      module _ (x : Encoding) (rest : Arm) (at : ℕ) (k : Counts) (f : Stands bs h depth close at k rest i.end i.after)
          (s : nodes_then y.nodes (encode_on p.net.next x (encode_arm bs h t ds rest)) ≡ Whole) {w₂ u₂ l₂ : List ℕ} {q : Walk} (a : WalksTo w₁ u₁ p.net x at k w₂ u₂ l₂ q) where
        goes : is_made q.reach.claim ≡ false → Left w u l p₀ i w₂ u₂ l₂ q
        goes o = record {
          nodes = y.nodes ++ x.nodes;
          emitted = emitted_then y.emitted a.emitted;
          going = o;
          rest = rest;
          stands = rw (a.next o, a.counts o) f;
          same = then_goes y.nodes p.net.next x (encode_arm bs h t ds rest) q.net.next (wires_at l₂ q) o a.emitted.next (a.wires o) ∙ s;
        }

        -- in it the claim was made
        stops : is_made q.reach.claim ≡ true → WalksTo w u p₀.net Whole i.end i.after w₂ u₂ l₂ q
        stops o =
            subst (λ (z : Encoding). WalksTo w u p₀.net z i.end i.after w₂ u₂ l₂ q)
            (then_stops y.nodes p.net.next x (encode_arm bs h t ds rest) (ap is_made (sym a.claim) ∙ o) ∙ s)
            (over (record { nodes = y.nodes ++ x.nodes; wires = x.wires }) (emitted_then y.emitted a.emitted) a.claim o)

      module _ (r : Command Mark Conversion Operation) (is : r ≡ command_at bs p.next) where
        pub closed : (m : Mark) → r ≡ Command.Close m
            → WalksTo w u p₀.net Whole i.end i.after w₁ u₁ l₁ (record { next = p.next + 1; counts = p.counts; net = p.net; reach = p.reach })
        unfolding encode_arm
        closed m q =
            let v = by_close bs h depth close p.next p.counts y.rest i.end i.after r is y.stands m q in
            let e : nodes_then y.nodes (still (wires_at l₁ p)) ≡ encode_arm bs h t ds i.arm p₀.net.next (wires_at l p₀) = rw v.arm at y.same in
            subst (λ (z : Encoding). WalksTo w u p₀.net z i.end i.after w₁ u₁ l₁ (record { next = p.next + 1; counts = p.counts; net = p.net; reach = p.reach })) e
            (record {
              emitted = rw (append-nil y.nodes) y.emitted;
              claim = refl;
              wires = λ f. refl;
              next = λ f. sym v.ends;
              counts = λ f. sym v.counts;
            })

        module _ (c : Simple Conversion Operation) (q : r ≡ Command.Simple c) where
          simple_here : BySimple bs h depth close p.next p.counts c y.rest i.end i.after
          simple_here = by_simple bs h depth close p.next p.counts y.rest i.end i.after r is y.stands c q

          simple-first : Encoding
          simple-first = simple bs h t p.net.next c p.counts (wires_at l₁ p)

          simple-same : nodes_then y.nodes (encode_on p.net.next simple-first (encode_arm bs h t ds simple_here.rest)) ≡ Whole
          unfolding encode_arm simple-first
          simple-same = rw simple_here.arm at y.same

          module _ {w₂ u₂ l₂ : List ℕ} {n : Walk}
              (x : WalksTo w₁ u₁ p.net (simple bs h t p.net.next c p.counts (wires_at l₁ p)) (p.next + simple_size c) (counts_after c p.counts) w₂ u₂ l₂ n) where
            pub stepped : is_made n.reach.claim ≡ false → Left w u l p₀ i w₂ u₂ l₂ n
            unfolding simple-first
            stepped = goes simple-first simple_here.rest (p.next + simple_size c) (counts_after c p.counts) simple_here.known.stands simple-same x

            pub stopped : is_made n.reach.claim ≡ true → WalksTo w u p₀.net Whole i.end i.after w₂ u₂ l₂ n
            unfolding simple-first
            stopped = stops simple-first simple_here.rest (p.next + simple_size c) (counts_after c p.counts) simple_here.known.stands simple-same x

        module _ (c : Condition) (q : r ≡ Command.If c) where
          if_here : ByIf bs h depth close p.next p.counts c y.rest i.end i.after
          if_here = by_if bs h depth close p.next p.counts y.rest i.end i.after r is y.stands c q

          fork_here : Encoding
          fork_here = if_of bs h t ds c l₁ p if_here.first if_here.second

          if_same : nodes_then y.nodes (encode_on p.net.next fork_here (encode_arm bs h t ds if_here.rest)) ≡ Whole
          unfolding encode_arm fork_here
          if_same = rw if_here.arm at y.same

          pub if_roomy : length l₁ ≡ all_places h → Roomy p.net (encode_arm bs h t ds y.rest p.net.next (wires_at l₁ p)) → IfReady bs h t ds depth c l₁ p
          unfolding encode_arm fork_here
          if_roomy long r = record {
            some = arms_of if_here;
            room =
                let z : Roomy p.net (encode_on p.net.next fork_here (encode_arm bs h t ds if_here.rest)) = rw if_here.arm at r in
                ready_weaken (omega (arith, then_longer p.net.next fork_here (encode_arm bs h t ds if_here.rest))) z;
            places = long;
          }

          module _ {w₂ u₂ l₂ : List ℕ} {n : Walk} (x : IfEncoded bs h t ds depth c w₁ u₁ l₁ p w₂ u₂ l₂ n) where
            if_arrives : WalksTo w₁ u₁ p.net fork_here if_here.known.next if_here.known.k₃ w₂ u₂ l₂ n
            unfolding fork_here
            if_arrives =
                let v = if_here in
                let f = v.known in
                x.tells v.first f.else f.k₂ v.second f.next f.k₃ f.stands-first f.stands-second

            pub forked_on : is_made n.reach.claim ≡ false → Left w u l p₀ i w₂ u₂ l₂ n
            forked_on = goes fork_here if_here.rest if_here.known.next if_here.known.k₃ if_here.known.stands if_same if_arrives

            pub fork_stopped : is_made n.reach.claim ≡ true → WalksTo w u p₀.net Whole i.end i.after w₂ u₂ l₂ n
            fork_stopped = stops fork_here if_here.rest if_here.known.next if_here.known.k₃ if_here.known.stands if_same if_arrives

            -- the bytes left fall over an if
            pub if_falls : is_made n.reach.claim ≡ false → (p.next < n.next) × (n.next ≤ length bs)
            if_falls o = rw (if_arrives.next o) (if_ends if_here)
