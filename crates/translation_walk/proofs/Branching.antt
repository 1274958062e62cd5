-- An if and its two arms, from what the calls told: what each call asks, and what the if returns. Assumes nothing.
use Rattle.routine_command.specs.declared.Mark.{Mark}
use mathlib.Core.Path.{◌≡◌, refl, sym, ap, ◌∙◌}
use mathlib.Core.List.{List}
use mathlib.Core.Bool.{Bool, true, false}
use Prim.Native.Nat.{ℕ, ◌+◌, ◌*◌, ◌-◌, ◌<◌, ◌≤◌}
use native.Mathlib.Omega.{arith}
use lib.ListN.{length}
use Rattle.slices.specs.Bytes.{entry}
use Rattle.routine_faults.specs.Inner.Sound.{Fine}
use Rattle.routine_header.specs.declared.Header.{Header}
use Rattle.routine_command.specs.declared.Condition.{Condition}
use Rattle.routine.proofs.Standing.{else-room}
use Rattle.netlist.specs.Inner.Emit.{Ready}
use Rattle.netlist.proofs.Emitting.{emitted-starts-length, emitted-words-length}
use Rattle.translation_state.specs.Wires.{is_made, all_places}
use Rattle.translation_if.specs.If.{join_arms}
use Rattle.translation_if.specs.Inner.BeginsIf.{BeginsIf}
use Rattle.translation_walk.specs.Inner.Walker.{wires_at, in_first, in_else, WalksTo, ArmEncoded, ArmReady, if_of, IfEncoded, IfReady}
use Rattle.lead.specs.declared.Target.{Target}
use Rattle.translation_walk.specs.declared.Walk.{Walk}
use Rattle.translation_if.specs.declared.IfBegun.{IfBegun}
use Rattle.translation_walk.proofs.Translating.{arm_from, branched_at}
use Rattle.translation_walk.proofs.Parting.{if_told, first-room, first_stops, at_else, second-room, second-stops, join-ready, arms_join}

-- the bytes left fall from an if to its else
else_falls : (n at next else t : ℕ) → 3 * (n - at) ≡ t → at + 4 < else → else ≤ n → next ≡ else → 3 * (n - next) + 2 < t
else_falls n at next else t e l u q = omega arith

module _ {bs : List ℕ} {h : Header} {t : Target} {ds : List ℕ} {depth : ℕ} {c : Condition} {l : List ℕ} {p : Walk} (a : IfReady bs h t ds depth c l p) where
  -- an if that was made left the buffers as long as they were
  module _ {w u w₁ u₁ l₁ : List ℕ} {r : Walk} (x : IfEncoded bs h t ds depth c w u l p w₁ u₁ l₁ r) where
    arrives : WalksTo w u p.net (if_of bs h t ds c l p a.some.first a.some.second) a.some.end a.some.after w₁ u₁ l₁ r
    arrives = let i = a.some in x.tells i.first i.else i.between i.second i.end i.after i.stands-first i.stands-second

    pub if_words : length w₁ ≡ length w
    if_words = emitted-words-length arrives.emitted

    pub if_starts : length u₁ ≡ length u
    if_starts = emitted-starts-length arrives.emitted

  -- d is the decision that was read, that of if `number`, and br what the condition and the arrivals of the arms are
  module _ {d number : ℕ} (e : d ≡ entry ds number) (numbered : number ≡ p.counts.ifs) {w u w₁ u₁ : List ℕ} {br : IfBegun} (b : BeginsIf bs w u p.net c d (wires_at l p) w₁ u₁ br) where
    branched : BeginsIf bs w u p.net c (entry ds p.counts.ifs) (wires_at l p) w₁ u₁ br
    branched = branched_at _ (e ∙ ap (entry ds) numbered) b

    -- the walk v is at the first arm
    module _ {v : Walk} (f : v ≡ in_first (p.next + 4) p br) where
      pub first_asks : {n : ℕ} → 3 * (length bs - p.next) ≡ n → Fine bs h → is_made p.reach.claim ≡ false
          → (3 * (length bs - v.next) + 2 < n) × (ArmReady bs h t ds (depth + 1) Mark.Else l v × Fine bs h × (is_made v.reach.claim ≡ false))
      first_asks q fine o =
          rw f
          (omega (arith, else-room bs h depth p.next p.counts a.some), (first-room bs h t ds depth c l p a.some branched a.room a.places, fine, o))

      -- the first arm ends at x
      module _ {w₂ u₂ l₂ : List ℕ} {x : Walk} (m : ArmEncoded bs h t ds (depth + 1) Mark.Else w₁ u₁ l v w₂ u₂ l₂ x) {k : Bool} (by : k ≡ is_made x.reach.claim) where
        first_made : ArmEncoded bs h t ds (depth + 1) Mark.Else w₁ u₁ l (in_first (p.next + 4) p br) w₂ u₂ l₂ x
        first_made = arm_from _ _ refl f m

        pub first-over : k ≡ true → IfEncoded bs h t ds depth c w u l p w₂ u₂ l₂ x
        first-over o = if_told a.some (first_stops bs h t ds depth c l p a.some branched first_made (sym by ∙ o))

        -- the walk v₁ is at the else, with the literals l' that were copied
        module _ (o : k ≡ false) {l' : List ℕ} (copy : l' ≡ l) {v₁ : Walk} (f₁ : v₁ ≡ in_else p br x) where
          pub second_asks : {n : ℕ} → 3 * (length bs - p.next) ≡ n → Fine bs h → is_made p.reach.claim ≡ false
              → (3 * (length bs - v₁.next) + 2 < n) × (ArmReady bs h t ds (depth + 1) Mark.EndIf l' v₁ × Fine bs h × (is_made v₁.reach.claim ≡ false))
          second_asks q fine z =
              let s = else-room bs h depth p.next p.counts a.some in
              rw (f₁, copy) (
                else_falls _ _ _ _ _ q s.0 s.1 (at_else bs h t ds depth c l p a.some branched first_made (sym by ∙ o)),
                (second-room bs h t ds depth c l p a.some branched first_made (sym by ∙ o) a.room a.places, fine, z),
              )

          -- the else ends at y
          module _ {w₃ u₃ l₃ : List ℕ} {y : Walk} (m₁ : ArmEncoded bs h t ds (depth + 1) Mark.EndIf w₂ u₂ l' v₁ w₃ u₃ l₃ y) {k₁ : Bool} (by₁ : k₁ ≡ is_made y.reach.claim) where
            second_made : ArmEncoded bs h t ds (depth + 1) Mark.EndIf w₂ u₂ l (in_else p br x) w₃ u₃ l₃ y
            second_made = arm_from _ _ copy f₁ m₁

            pub second-over : {l₄ : List ℕ} → k₁ ≡ true → IfEncoded bs h t ds depth c w u l p w₃ u₃ l₄ y
            second-over o₁ = if_told a.some (second-stops bs h t ds depth c l p a.some branched first_made (sym by ∙ o) second_made (sym by₁ ∙ o₁) _)

            module _ (o₁ : k₁ ≡ false) where
              pub join_asks : Fine bs h → length l₂ ≡ length l → length l₃ ≡ length l'
                  → Ready y.net 8192 × (length l₂ ≡ all_places h) × (length l₃ ≡ all_places h) × Fine bs h
              join_asks fine z z₁ = (
                join-ready bs h t ds depth c l p a.some branched first_made (sym by ∙ o) second_made (sym by₁ ∙ o₁) a.room,
                z ∙ a.places,
                z₁ ∙ ap length copy ∙ a.places,
                fine,
              )

              pub both_made : {w₄ u₄ l₄ : List ℕ} {r : Walk}
                  → WalksTo w₃ u₃ y.net (join_arms bs h y.net.next br.condition (wires_at l₂ x) (wires_at l₃ y)) y.next y.counts w₄ u₄ l₄ r
                  → IfEncoded bs h t ds depth c w u l p w₄ u₄ l₄ r
              both_made z = if_told a.some (arms_join bs h t ds depth c l p a.some branched first_made (sym by ∙ o) second_made (sym by₁ ∙ o₁) z)
