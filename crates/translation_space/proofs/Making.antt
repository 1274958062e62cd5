-- The whole translation: variable 1, the bits of the variables, the commands, and the last two clauses. Assumes nothing.
use Rattle.std.proofs.Common.{None, false}
use mathlib.Core.Path.{◌≡◌, refl, ap, subst, ◌∙◌}
use mathlib.Core.List.{List, [], ◌∷◌, ◌++◌}
use Prim.Native.Nat.{ℕ, zero, suc, ◌+◌, ◌-◌, ◌≤◌}
use native.Mathlib.Nat.{zero-add}
use native.Mathlib.Omega.{arith}
use lib.ListN.{length, take, replicate, length-replicate}
use Rattle.routine_command.specs.declared.Mark.{Mark}
use Rattle.routine_header.specs.Header.{first_command}
use Rattle.routine.specs.Routine.{Arm}
use Rattle.routine.specs.Decode.{routine, decode, IsRoutine}
use Rattle.routine_faults.specs.Inner.Sound.{Fine}
use Rattle.routine_header.specs.declared.Header.{Header}
use Rattle.routine_faults.specs.declared.Counts.{Counts}
use Rattle.routine_faults.specs.Inputs.{given}
use Rattle.routine.proofs.Decoded.{decoded}
use Rattle.routine_faults.proofs.Fine.{fine}
use Rattle.cnf.specs.Clause.{Clause}
use Rattle.cnf.specs.Inner.Append.{Appended, CountRoom}
use Rattle.cnf.specs.declared.Store.{Store}
use Rattle.cnf.proofs.Appending.{appended_then}
use Rattle.netlist.specs.declared.Node.TheVariants.{One}
use Rattle.netlist.specs.Node.{netlist_clauses}
use Rattle.netlist.specs.Inner.Emit.{Emitted, Ready}
use Rattle.netlist.specs.declared.Net.{Net}
use Rattle.netlist.proofs.Emitting.{emitted_then, ready-after, ready-clauses}
use Rattle.translation_command.specs.Command.{Encoding}
use Rattle.translation_meaning.specs.Walk.{encode_arm}
use Rattle.translation_meaning.specs.Translation.{given_nodes, initial_wires, translation_of, last_clauses, clauses_of_all, translation_size}
use Rattle.translation_walk.specs.Inner.Walker.{wires_at, beginning, WalksTo, Roomy, ArmEncoded, ArmReady, Begun, ClaimEncoded, no_store}
use Rattle.translation_meaning.specs.declared.Size.{Size}
use Rattle.lead.specs.declared.Target.{Target}
use Rattle.translation_walk.specs.declared.Walk.{Walk}
use Rattle.translation_state.specs.Wires.{all_places, is_made}
use Rattle.translation_walk.proofs.Translating.{arm_from}
use Rattle.translation_walk.proofs.Variables.{given-length}
use Rattle.translation_meaning.proofs.Bound.{given-few, roomy}

-- nothing is stored yet, and the next variable is 1
abbrev pub empty : Net
empty = record { store = no_store; next = 1 }

pub fine_here : (bs : List ℕ) (h : Header) → IsRoutine bs h → Fine bs h
fine_here bs h i = fine bs h (decoded bs h i.commands i.counts i.decodes).header

-- the first places of an array that holds one literal
first-places : (n m x : ℕ) → n ≤ m → take n (replicate m x) ≡ replicate n x
first-places zero m x h = refl
first-places (suc n) zero x h = absurd (omega arith)
first-places (suc n) (suc m) x h = ap (λ (l : List ℕ). x ∷ l) (first-places n m x (omega arith))

-- each of them holds it
pub places_hold : (n m x : ℕ) → n ≤ m → take n (replicate m x) ≡ replicate (length (take n (replicate m x))) x
places_hold n m x h = rw (first-places n m x h, length-replicate n x) refl

module _ {bs : List ℕ} {h : Header} (i : IsRoutine bs h) {w u w₁ u₁ : List ℕ} {n₁ : Net} (p : Emitted w u empty (One ∷ []) w₁ u₁ n₁) where
  pub begin_ready : Ready n₁ 2048
  begin_ready = let r : Ready empty 2049 = record { words = omega arith; clauses = omega arith; next = omega arith } in ready-after 2048 p r (omega arith)

  module _ {n : Net} {l : List ℕ} (b : Begun bs h n₁ l n) where
    -- where the commands begin
    from : n.next ≡ 2 + length (given_nodes bs (given h))
    from = (b.emitted w₁ u₁).next ∙ ap (λ (g : ℕ). g + length (given_nodes bs (given h))) p.next

    ready_here : Ready n 1024
    ready_here = ready-after 1024 (b.emitted w₁ u₁) begin_ready (omega (arith, given-few bs h (fine_here bs h i)))

    few_here : n.next ≤ 2048
    few_here = omega (arith, from, given-few bs h (fine_here bs h i))

    room_for : (t : Target) (ds : List ℕ) (at : ℕ) (a : Arm) (k : Counts) → decode bs ≡ routine h a k → Roomy n (encode_arm bs h t ds a n.next (wires_at l (beginning at n)))
    room_for t ds at a k d = roomy bs t ds h a k d n ready_here.words ready_here.clauses few_here n.next (wires_at l (beginning at n))

    -- the walk v is there
    module _ {t : Target} {ds : List ℕ} {at : ℕ} (e : at ≡ first_command h) {v : Walk} (f : v ≡ beginning at n) where
      pub whole_roomy : ArmReady bs h t ds 0 Mark.End l v × Fine bs h × (is_made v.reach.claim ≡ false)
      whole_roomy =
          let a : ArmReady bs h t ds 0 Mark.End l (beginning at n) = record {
            some = record { arm = i.commands; end = length bs; after = i.counts; stands = rw e (decoded bs h i.commands i.counts i.decodes).stands };
            room = room_for t ds at i.commands i.counts i.decodes;
            places = ap length b.lits ∙ given-length bs (all_places h) (given h);
          } in
          rw f (a, fine_here bs h i, refl)

      module _ {w₂ u₂ l₂ : List ℕ} {r : Walk} (x : ArmEncoded bs h t ds 0 Mark.End w₁ u₁ l v w₂ u₂ l₂ r) where
        arrives : (a : Arm) (k : Counts) → decode bs ≡ routine h a k → WalksTo w₁ u₁ n (encode_arm bs h t ds a n.next (wires_at l (beginning at n))) (length bs) k w₂ u₂ l₂ r
        arrives a k d = (arm_from _ _ refl f x).tells a (length bs) k (rw e (decoded bs h a k d).stands)

        pub claim_room : CountRoom r.net.store 2 4
        claim_room =
            let q = arrives i.commands i.counts i.decodes in
            ready-clauses 1 (ready-after 1 q.emitted (room_for t ds at i.commands i.counts i.decodes) (omega arith)) (omega arith) (omega arith)

        pub some_variables : 2 ≤ r.net.next
        some_variables = let q = arrives i.commands i.counts i.decodes in omega (arith, q.emitted.next, from)

        module _ {w₃ u₃ : List ℕ} {all : Store} (c : Appended w₂ u₂ r.net.store (last_clauses r.reach.claim) w₃ u₃ all) where
          module _ (a : Arm) (k : Counts) (d : decode bs ≡ routine h a k) where
            X : Encoding
            X = translation_of bs t ds h a

            Y : Encoding
            Y = encode_arm bs h t ds a (2 + length (given_nodes bs (given h))) (initial_wires bs h)

            arm_is : encode_arm bs h t ds a n.next (wires_at l (beginning at n)) ≡ Y
            unfolding Y initial_wires
            arm_is = λ j. encode_arm bs h t ds a (from j) (record { lits = b.lits j; arrival = 2; claim = None })

            arm-there : WalksTo w₁ u₁ n Y (length bs) k w₂ u₂ l₂ r
            arm-there = subst (λ (z : Encoding). WalksTo w₁ u₁ n z (length bs) k w₂ u₂ l₂ r) arm_is (arrives a k d)

            nodes_made : Emitted w u empty (One ∷ (given_nodes bs (given h) ++ Y.nodes)) w₂ u₂ r.net
            nodes_made = emitted_then p (emitted_then (b.emitted w₁ u₁) arm-there.emitted)

            all_made : Appended w u no_store (clauses_of_all X) w₃ u₃ all
            unfolding clauses_of_all translation_of X Y
            all_made =
                subst (λ (cs : List Clause). Appended w u no_store (netlist_clauses 1 (One ∷ (given_nodes bs (given h) ++ Y.nodes)) ++ cs) w₃ u₃ all)
                (ap last_clauses arm-there.claim)
                (appended_then nodes_made.store c)

            size_is : ◌≡◌ {A = Size} (record { clauses = all.clauses; words = all.words; variables = r.net.next - 1 }) (translation_size X)
            unfolding translation_of X Y
            size_is =
                let v : r.net.next - 1 ≡ length (translation_of bs t ds h a).nodes = omega (arith, nodes_made.next) in
                λ j. record { clauses = (all_made.count ∙ zero-add _) j; words = (all_made.used ∙ zero-add _) j; variables = v j }

          pub whole_made : ClaimEncoded bs h t ds w u w₃ u₃ (record { clauses = all.clauses; words = all.words; variables = r.net.next - 1 })
          unfolding X
          whole_made = record {
            size = λ a k d. size_is a k d;
            written = λ a k d. (all_made a k d).written;
            words_long = (all_made i.commands i.counts i.decodes).words_long;
            starts_long = (all_made i.commands i.counts i.decodes).starts_long;
          }
