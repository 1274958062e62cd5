-- The loop over an arm, from what its calls told: what each call asks, that the bytes left fall, and what the loop returns. Assumes nothing.
use Rattle.routine_command.specs.declared.Mark.{Mark}
use mathlib.Core.Path.{◌≡◌, sym, ◌∙◌}
use mathlib.Core.List.{List}
use mathlib.Core.Bool.{Bool, true, false}
use Prim.Native.Nat.{ℕ, ◌+◌, ◌*◌, ◌-◌, ◌≤◌, ◌<◌}
use native.Mathlib.Omega.{arith}
use lib.ListN.{length}
use Rattle.routine_command.specs.Command.{simple_size, command_at}
use Rattle.routine_faults.specs.Step.{too_many, counts_after}
use Rattle.routine_faults.specs.Inner.Sound.{Sound, SoundIf, Fine}
use Rattle.routine.specs.Inner.Stands.{SomeArm}
use Rattle.routine_header.specs.declared.Header.{Header}
use Rattle.routine_command.specs.declared.Condition.{Condition}
use Rattle.routine_command.specs.declared.Conversion.{Conversion}
use Rattle.routine_command.specs.declared.Operation.{Operation}
use Rattle.routine_command.specs.declared.Simple.{Simple}
use Rattle.routine_command.specs.declared.Command.{Command}
use Rattle.routine_command.proofs.Sizes.{simple-size}
use Rattle.routine.proofs.Standing.{not_missing, close_room, simple_known, some_if}
use Rattle.netlist.specs.Inner.Emit.{Ready}
use Rattle.netlist.proofs.Emitting.{emitted-starts-length, emitted-words-length, ready_weaken}
use Rattle.translation_state.specs.Wires.{is_made, all_places}
use Rattle.translation_command.specs.Command.{simple}
use Rattle.translation_walk.specs.Inner.Walker.{wires_at, WalksTo, ArmEncoded, ArmReady, IfEncoded, IfReady}
use Rattle.lead.specs.declared.Target.{Target}
use Rattle.translation_walk.specs.declared.Walk.{Walk}
use Rattle.translation_walk.proofs.Translating.{Left, begun, arm-told, some_here, room_here, closed, stepped, stopped, if_roomy, forked_on, fork_stopped, if_falls}

-- what the loop keeps: it began at p₀ with the literals l and is now at p with the literals l₁
pub record Going (bs : List ℕ) (h : Header) (t : Target) (ds : List ℕ) (depth : ℕ) (close : Mark) (w u l : List ℕ) (p₀ : Walk) (w₁ u₁ l₁ : List ℕ) (p : Walk) : Type 0 where
  pub onward : p₀.next ≤ p.next
  pub long : length l₁ ≡ all_places h
  pub left : (i : SomeArm bs h depth close p₀.next p₀.counts) → Left bs h t ds depth close w u l p₀ i w₁ u₁ l₁ p

module _ {bs : List ℕ} {h : Header} {t : Target} {ds : List ℕ} {depth : ℕ} {close : Mark} {l : List ℕ} {p₀ : Walk} (a : ArmReady bs h t ds depth close l p₀) where
  pub begins : {w u : List ℕ} → is_made p₀.reach.claim ≡ false → Going bs h t ds depth close w u l p₀ w u l p₀
  begins {w} {u} o = record { onward = omega arith; long = a.places; left = λ i. begun bs h t ds depth close w u l p₀ i o }

  -- an arm that was made left the buffers as long as they were
  module _ {w u w₁ u₁ l₁ : List ℕ} {r : Walk} (x : ArmEncoded bs h t ds depth close w u l p₀ w₁ u₁ l₁ r) where
    pub same-words : length w₁ ≡ length w
    same-words = let i = a.some in emitted-words-length (x.tells i.arm i.end i.after i.stands).emitted

    pub same-starts : length u₁ ≡ length u
    same-starts = let i = a.some in emitted-starts-length (x.tells i.arm i.end i.after i.stands).emitted

  module _ {w u w₁ u₁ l₁ : List ℕ} {p : Walk} (g : Going bs h t ds depth close w u l p₀ w₁ u₁ l₁ p) where
    pub same-lits : length l₁ ≡ length l
    same-lits = g.long ∙ sym a.places

    -- what is left of the arm that was given
    rest : Left bs h t ds depth close w u l p₀ a.some w₁ u₁ l₁ p
    rest = g.left a.some

    here : SomeArm bs h depth close p.next p.counts
    here = some_here bs h t ds depth close w u l p₀ a.some rest

    module _ {r : Command Mark Conversion Operation} (is : r ≡ command_at bs p.next) where
      pub no_missing : r ≡ Command.Missing → ⊥
      no_missing = not_missing bs h depth close p.next p.counts here r is

      module _ {m : Mark} (q : r ≡ Command.Close m) where
        pub close_fits : p.next + 1 ≤ length bs
        close_fits = close_room bs h depth close p.next p.counts here r is m q

        pub at_close : ArmEncoded bs h t ds depth close w u l p₀ w₁ u₁ l₁ (record { next = p.next + 1; counts = p.counts; net = p.net; reach = p.reach })
        at_close = arm-told bs h t ds depth close w u l p₀ a.some (closed bs h t ds depth close w u l p₀ a.some rest r is m q)

      module _ {c : Condition} (q : r ≡ Command.If c) where
        pub if_asks : {n : ℕ} → 3 * (length bs - p₀.next) + 2 ≡ n → Fine bs h
            → (3 * (length bs - p.next) + 1 < n) × (IfReady bs h t ds depth c l₁ p × (p.counts.ifs < 32) × SoundIf bs h c × Fine bs h × (is_made p.reach.claim ≡ false))
        if_asks e f =
            let k = some_if bs h depth close p.next p.counts here r is c q in
            let room = room_here bs h t ds depth close w u l p₀ a.some rest a.room in
            (omega (arith, g.onward), (if_roomy bs h t ds depth close w u l p₀ a.some rest r is c q g.long room, k.1, k.2, f, rest.going))

        module _ {w₂ u₂ l₂ : List ℕ} {n : Walk} (x : IfEncoded bs h t ds depth c w₁ u₁ l₁ p w₂ u₂ l₂ n) {b : Bool} (by : b ≡ is_made n.reach.claim) where
          pub if_over : b ≡ true → ArmEncoded bs h t ds depth close w u l p₀ w₂ u₂ l₂ n
          if_over o = arm-told bs h t ds depth close w u l p₀ a.some (fork_stopped bs h t ds depth close w u l p₀ a.some rest r is c q x (sym by ∙ o))

          module _ (o : b ≡ false) where
            falls : (p.next < n.next) × (n.next ≤ length bs)
            falls = if_falls bs h t ds depth close w u l p₀ a.some rest r is c q x (sym by ∙ o)

            pub if_less : length bs - n.next < length bs - p.next
            if_less = omega (arith, falls)

            pub if_again : length l₂ ≡ length l₁ → Going bs h t ds depth close w u l p₀ w₂ u₂ l₂ n
            if_again k = record {
              onward = omega (arith, falls, g.onward);
              long = k ∙ g.long;
              left = λ i. forked_on bs h t ds depth close w u l p₀ i (g.left i) r is c q x (sym by ∙ o);
            }

      module _ {c : Simple Conversion Operation} (q : r ≡ Command.Simple c) where
        known : Sound bs h c × (too_many c p.counts ≡ false) × (p.next + simple_size c ≤ length bs)
        known = simple_known bs h depth close p.next p.counts here r is c q

        pub simple_asks : Fine bs h
            → (Ready p.net 8192 × (length l₁ ≡ all_places h))
            × ((Sound bs h c × (too_many c p.counts ≡ false) × (p.next + simple_size c ≤ length bs)) × (Fine bs h × (is_made p.reach.claim ≡ false)))
        simple_asks f =
            ((ready_weaken (omega arith) (room_here bs h t ds depth close w u l p₀ a.some rest a.room), g.long), (known, (f, rest.going)))

        module _ {w₂ u₂ l₂ : List ℕ} {n : Walk}
            (x : WalksTo w₁ u₁ p.net (simple bs h t p.net.next c p.counts (wires_at l₁ p)) (p.next + simple_size c) (counts_after c p.counts) w₂ u₂ l₂ n)
            {b : Bool} (by : b ≡ is_made n.reach.claim) where
          pub simple-over : b ≡ true → ArmEncoded bs h t ds depth close w u l p₀ w₂ u₂ l₂ n
          simple-over o = arm-told bs h t ds depth close w u l p₀ a.some (stopped bs h t ds depth close w u l p₀ a.some rest r is c q x (sym by ∙ o))

          module _ (o : b ≡ false) where
            pub simple-less : length bs - n.next < length bs - p.next
            simple-less = omega (arith, x.next (sym by ∙ o), known.2, simple-size c)

            pub simple_again : length l₂ ≡ length l₁ → Going bs h t ds depth close w u l p₀ w₂ u₂ l₂ n
            simple_again k = record {
              onward = omega (arith, x.next (sym by ∙ o), g.onward);
              long = k ∙ g.long;
              left = λ i. stepped bs h t ds depth close w u l p₀ i (g.left i) r is c q x (sym by ∙ o);
            }
