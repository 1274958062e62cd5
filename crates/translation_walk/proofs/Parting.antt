-- A walk over the two arms of an if: the room for each, and what they make together. Assumes nothing.
use Rattle.routine_command.specs.declared.Mark.{Mark}
use mathlib.Core.Path.{◌≡◌, sym, ap, subst, ◌∙◌}
use mathlib.Core.List.{List, ◌++◌}
use mathlib.Core.Bool.{true, false}
use Prim.Native.Nat.{ℕ, ◌+◌, ◌^◌, ◌≤◌}
use native.Mathlib.Nat.{add_assoc}
use native.Mathlib.Omega.{arith}
use lib.ListN.{length, length-append}
use Rattle.slices.specs.Bytes.{entry}
use Rattle.routine_faults.specs.Step.{counts_after_if}
use Rattle.routine.specs.Inner.Stands.{Stands, SomeIf}
use Rattle.routine_header.specs.declared.Header.{Header}
use Rattle.routine_command.specs.declared.Condition.{Condition}
use Rattle.routine_faults.specs.declared.Counts.{Counts}
use Rattle.netlist.specs.declared.Node.{Node}
use Rattle.netlist.specs.Inner.Emit.{Emitted, Ready}
use Rattle.netlist.proofs.Emitting.{emitted_then, ready-after}
use Rattle.translation_state.specs.Wires.{Wires, arriving, is_made, all_places}
use Rattle.translation_command.specs.Command.{Encoding, nodes_then}
use Rattle.translation_meaning.specs.Walk.{encode_if, encode_arm}
use Rattle.translation_if.specs.If.{condition_of, join_arms}
use Rattle.translation_walk.specs.Inner.Walker.{wires_at, in_first, in_else, WalksTo, Roomy, ArmEncoded, ArmReady, if_of, IfEncoded}
use Rattle.translation_if.specs.Inner.BeginsIf.{BeginsIf, arrivals_at}
use Rattle.lead.specs.declared.Target.{Target}
use Rattle.translation_walk.specs.declared.Walk.{Walk}
use Rattle.translation_if.specs.declared.IfBegun.{IfBegun}
use Rattle.routine_faults.proofs.Tests.{not_both}
use Rattle.translation_walk.proofs.Translating.{same_arm, over}
use Rattle.translation_meaning.proofs.Stretches.{fork_by, front_of, first_from, first_of, second_from, second_of, join_from, join_of}

-- what was told of the arms of i is told of whatever arms stand there
pub if_told : {bs : List ℕ} {h : Header} {t : Target} {ds : List ℕ} {depth : ℕ} {c : Condition} {w u l w₁ u₁ l₁ : List ℕ} {p r : Walk}
    (i : SomeIf bs h depth p.next (counts_after_if p.counts)) → WalksTo w u p.net (if_of bs h t ds c l p i.first i.second) i.end i.after w₁ u₁ l₁ r
    → IfEncoded bs h t ds depth c w u l p w₁ u₁ l₁ r
if_told {bs} {h} {depth = depth} i x = record {
  tells = λ first else k₁ second end k₂ y z.
      let e = same_arm i.stands-first y in
      let v : Stands bs h (depth + 1) Mark.EndIf i.else i.between second end k₂ = rw (e.1, e.2) z in
      let f = same_arm i.stands-second v in
      rw (e.0, f.0, f.1, f.2) at x;
}

-- the if where the walk p is, with the literals l, whose arms are those of i
module _ (bs : List ℕ) (h : Header) (t : Target) (ds : List ℕ) (depth : ℕ) (c : Condition) (l : List ℕ) (p : Walk) (i : SomeIf bs h depth p.next (counts_after_if p.counts)) where
  abbrev d : ℕ
  d = entry ds p.counts.ifs

  abbrev s : Wires
  s = wires_at l p

  abbrev first : ℕ → Wires → Encoding
  first = encode_arm bs h t ds i.first

  abbrev second : ℕ → Wires → Encoding
  second = encode_arm bs h t ds i.second

  abbrev First : Encoding
  First = first_of bs h d p.net.next c s first second

  abbrev Second : Encoding
  Second = second_of bs h d p.net.next c s first second

  abbrev Front : List Node
  Front = front_of bs h d p.net.next c s first second

  abbrev Fork : Encoding
  Fork = encode_if bs h d p.net.next c s first second

  -- by where the claim was made
  by_claim : (Q : Encoding → Type 0) → (is_made First.wires.claim ≡ true → Q (nodes_then Front First))
      → (is_made First.wires.claim ≡ false → is_made Second.wires.claim ≡ true → Q (nodes_then Front (nodes_then First.nodes Second)))
      → (is_made First.wires.claim ≡ false → is_made Second.wires.claim ≡ false
      → Q (nodes_then Front (nodes_then First.nodes (nodes_then Second.nodes (join_of bs h d p.net.next c s first second))))) → Q Fork
  by_claim = fork_by bs h d p.net.next c s first second

  first_longer : length Front + length First.nodes ≤ length Fork.nodes
  first_longer =
      by_claim (λ (z : Encoding). length Front + length First.nodes ≤ length z.nodes) (λ e. rw (length-append Front First.nodes) (omega arith))
      (λ e f. rw (length-append Front (First.nodes ++ Second.nodes), length-append First.nodes Second.nodes) (omega arith))
      (λ e f. rw (length-append Front, length-append First.nodes) (omega arith))

  second_longer : is_made First.wires.claim ≡ false → length Front + (length First.nodes + length Second.nodes) ≤ length Fork.nodes
  second_longer o =
      by_claim (λ (z : Encoding). length Front + (length First.nodes + length Second.nodes) ≤ length z.nodes)
      (λ e. not_both (is_made First.wires.claim) e o)
      (λ e f. rw (length-append Front (First.nodes ++ Second.nodes), length-append First.nodes Second.nodes) (omega arith))
      (λ e f. rw (length-append Front, length-append First.nodes, length-append Second.nodes) (omega arith))

  module _ {w u w₁ u₁ : List ℕ} {br : IfBegun} (b : BeginsIf bs w u p.net c (entry ds p.counts.ifs) (wires_at l p) w₁ u₁ br) where
    from_first : br.net.next ≡ first_from bs h d p.net.next c s first second
    from_first = b.emitted.next ∙ ap (λ (m : ℕ). p.net.next + m) (length-append (condition_of bs p.net.next c s).nodes (arrivals_at bs p.net.next c d s).nodes) ∙ sym (add_assoc p.net.next _ _)

    first_is : first br.net.next (arriving s br.first) ≡ First
    first_is = λ j. first (from_first j) (arriving s (b.first j))

    pub first-room : Roomy p.net Fork → length l ≡ all_places h → ArmReady bs h t ds (depth + 1) Mark.Else l (in_first (p.next + 4) p br)
    first-room r long = record {
      some = record { arm = i.first; end = i.else; after = i.between; stands = i.stands-first };
      room = rw first_is (ready-after (2 ^ 25 + length First.nodes) b.emitted r (omega (arith, first_longer)));
      places = long;
    }

    module _ {w₂ u₂ l₂ : List ℕ} {x : Walk} (a : ArmEncoded bs h t ds (depth + 1) Mark.Else w₁ u₁ l (in_first (p.next + 4) p br) w₂ u₂ l₂ x) where
      first-arrives : WalksTo w₁ u₁ br.net First i.else i.between w₂ u₂ l₂ x
      first-arrives =
          subst (λ (z : Encoding). WalksTo w₁ u₁ br.net z i.else i.between w₂ u₂ l₂ x) first_is (a.tells i.first i.else i.between i.stands-first)

      first-claim : is_made x.reach.claim ≡ is_made First.wires.claim
      first-claim = ap is_made first-arrives.claim

      pub first_stops : is_made x.reach.claim ≡ true → WalksTo w u p.net Fork i.end i.after w₂ u₂ l₂ x
      first_stops m =
          by_claim (λ (z : Encoding). WalksTo w u p.net z i.end i.after w₂ u₂ l₂ x)
          (λ e. over (record { nodes = Front ++ First.nodes; wires = First.wires }) (emitted_then b.emitted first-arrives.emitted) first-arrives.claim m)
          (λ e f. not_both (is_made First.wires.claim) (sym first-claim ∙ m) e)
          (λ e f. not_both (is_made First.wires.claim) (sym first-claim ∙ m) e)

      module _ (o : is_made x.reach.claim ≡ false) where
        pub at_else : x.next ≡ i.else
        at_else = first-arrives.next o

        from_second : x.net.next ≡ second_from bs h d p.net.next c s first second
        from_second = first-arrives.emitted.next ∙ ap (λ (m : ℕ). m + length First.nodes) from_first

        second_is : second x.net.next (arriving s br.second) ≡ Second
        second_is = λ j. second (from_second j) (arriving s (b.second j))

        two_made : Emitted w u p.net (Front ++ First.nodes) w₂ u₂ x.net
        two_made = emitted_then b.emitted first-arrives.emitted

        else-stands : Stands bs h (depth + 1) Mark.EndIf x.next x.counts i.second i.end i.after
        else-stands = rw (first-arrives.next o, first-arrives.counts o) i.stands-second

        pub second-room : Roomy p.net Fork → length l ≡ all_places h → ArmReady bs h t ds (depth + 1) Mark.EndIf l (in_else p br x)
        second-room r long = record {
          some = record { arm = i.second; end = i.end; after = i.after; stands = else-stands };
          room =
              rw second_is
              (ready-after (2 ^ 25 + length Second.nodes) two_made r
              (rw (length-append Front First.nodes) (omega (arith, second_longer (sym first-claim ∙ o)))));
          places = long;
        }

        module _ {w₃ u₃ l₃ : List ℕ} {y : Walk} (a₁ : ArmEncoded bs h t ds (depth + 1) Mark.EndIf w₂ u₂ l (in_else p br x) w₃ u₃ l₃ y) where
          second-arrives : WalksTo w₂ u₂ x.net Second i.end i.after w₃ u₃ l₃ y
          second-arrives =
              subst (λ (z : Encoding). WalksTo w₂ u₂ x.net z i.end i.after w₃ u₃ l₃ y) second_is (a₁.tells i.second i.end i.after else-stands)

          second-claim : is_made y.reach.claim ≡ is_made Second.wires.claim
          second-claim = ap is_made second-arrives.claim

          three_made : Emitted w u p.net (Front ++ (First.nodes ++ Second.nodes)) w₃ u₃ y.net
          three_made = emitted_then b.emitted (emitted_then first-arrives.emitted second-arrives.emitted)

          -- whatever stands in the literals then
          pub second-stops : is_made y.reach.claim ≡ true → (l₄ : List ℕ) → WalksTo w u p.net Fork i.end i.after w₃ u₃ l₄ y
          second-stops m l₄ =
              by_claim (λ (z : Encoding). WalksTo w u p.net z i.end i.after w₃ u₃ l₄ y) (λ e. not_both (is_made First.wires.claim) e (sym first-claim ∙ o))
              (λ e f. over (record { nodes = Front ++ (First.nodes ++ Second.nodes); wires = Second.wires }) three_made second-arrives.claim m)
              (λ e f. not_both (is_made Second.wires.claim) (sym second-claim ∙ m) f)

          module _ (o₁ : is_made y.reach.claim ≡ false) where
            pub join-ready : Roomy p.net Fork → Ready y.net 8192
            join-ready r =
                ready-after 8192 three_made r
                (rw (length-append Front (First.nodes ++ Second.nodes), length-append First.nodes Second.nodes) (omega (arith, second_longer (sym first-claim ∙ o))))

            from_join : y.net.next ≡ join_from bs h d p.net.next c s first second
            from_join = second-arrives.emitted.next ∙ ap (λ (m : ℕ). m + length Second.nodes) from_second

            pub arms_join : {w₄ u₄ l₄ : List ℕ} {r : Walk}
                → WalksTo w₃ u₃ y.net (join_arms bs h y.net.next br.condition (wires_at l₂ x) (wires_at l₃ y)) y.next y.counts w₄ u₄ l₄ r
                → WalksTo w u p.net Fork i.end i.after w₄ u₄ l₄ r
            arms_join {w₄} {u₄} {l₄} {r} z =
                let q : WalksTo w₃ u₃ y.net (join_of bs h d p.net.next c s first second) i.end i.after w₄ u₄ l₄ r =
                subst (λ (k : Counts). WalksTo w₃ u₃ y.net (join_of bs h d p.net.next c s first second) i.end k w₄ u₄ l₄ r) (second-arrives.counts o₁)
                (subst (λ (n : ℕ). WalksTo w₃ u₃ y.net (join_of bs h d p.net.next c s first second) n y.counts w₄ u₄ l₄ r) (second-arrives.next o₁)
                (subst (λ (m : Encoding). WalksTo w₃ u₃ y.net m y.next y.counts w₄ u₄ l₄ r)
                (λ j. join_arms bs h (from_join j) (b.condition j) (first-arrives.wires o j) (second-arrives.wires o₁ j)) z)) in
                by_claim (λ (m : Encoding). WalksTo w u p.net m i.end i.after w₄ u₄ l₄ r)
                (λ e. not_both (is_made First.wires.claim) e (sym first-claim ∙ o))
                (λ e f. not_both (is_made Second.wires.claim) f (sym second-claim ∙ o₁))
                (λ e f. record {
                  emitted = emitted_then b.emitted (emitted_then first-arrives.emitted (emitted_then second-arrives.emitted q.emitted));
                  claim = q.claim;
                  wires = q.wires;
                  next = q.next;
                  counts = q.counts;
                })
