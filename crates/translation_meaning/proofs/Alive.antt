-- An arm, where it is come to: its translation tallies with its run. Assumes nothing.
use Rattle.routine_command.specs.declared.Mark.{Mark}
use Rattle.std.proofs.Common.{None}
use mathlib.Core.Path.{◌≡◌, refl, ap}
use mathlib.Core.List.{List, [], ◌∷◌}
use mathlib.Core.Bool.{true, cond}
use Prim.Native.Nat.{ℕ, ◌+◌, ◌≤◌}
use lib.ListN.{length}
use Rattle.slices.specs.Bytes.{entry}
use Rattle.routine_faults.specs.Step.{accesses, counts_after, counts_after_if}
use Rattle.routine_command.specs.Command.{simple_size}
use Rattle.routine.specs.Routine.{Arm}
use Rattle.routine.specs.Inner.Stands.{Stands}
use Rattle.routine_faults.specs.Inner.Sound.{Fine}
use Rattle.routine_header.specs.declared.Header.{Header}
use Rattle.routine_faults.specs.declared.Counts.{Counts}
use Rattle.routine.proofs.Views.{induction}
use Rattle.routine.proofs.Numbering.{EachIf, Before}
use Rattle.run_state.specs.State.{with_arm, holds, executed}
use Rattle.run_state.specs.Run.{took, events_at, run_arm, Execution, events_then, run_on}
use Rattle.run_state.specs.declared.State.{State}
use Rattle.run_state.specs.Course.{course_to, course}
use Rattle.cnf.specs.Meaning.{Assign}
use Rattle.netlist.specs.Meaning.{Inputs}
use Rattle.netlist.proofs.Truth.{Models, models_append}
use Rattle.translation_command.specs.Command.{Encoding, simple}
use Rattle.translation_state.specs.Wires.{Wires, is_made}
use Rattle.translation_meaning.specs.Walk.{encode_on, encode_if, encode_arm}
use Rattle.translation_meaning.specs.Faithful.{bits_of_list}
use Rattle.lead.specs.declared.Target.{Target}
use Rattle.translation_meaning.proofs.Claimed.{simple-claims, fork_claims, arm-claims}
use Rattle.translation_meaning.proofs.Dead.{Deadens, arm_dead}
use Rattle.run_inputs.proofs.Fitting.{Fit}
use Rattle.translation_meaning.proofs.Forks.{Runs, Arms, fork_alive}
use Rattle.run_state.proofs.Ordered.{accesses_grow}
use Rattle.translation_meaning.proofs.Numbers.{Elsewhere, misses}
use Rattle.translation_meaning.proofs.Simples.{alive_through, simple_alive}
use Rattle.routine_faults.proofs.Tests.{not_both}
use Rattle.translation_meaning.proofs.Stretches.{then_by, arm-length}
use Rattle.translation_meaning.proofs.Tally.{Tallies, tally_then}

module _ (bs ins : List ℕ) (h : Header) (fine : Fine bs h) (t : Target) (ds : List ℕ) (before : ℕ) (ρ : Assign) (o : ρ 1 ≡ true) where
  abbrev I : Inputs
  I = bits_of_list ins

  -- the models of an encoding that another may follow, and those of the other
  models_first : (g : ℕ) (x : Encoding) (go : ℕ → Wires → Encoding) → Models I ρ g (encode_on g x go).nodes → Models I ρ g x.nodes
  models_first g x go =
      then_by (λ (z : Encoding). Models I ρ g z.nodes → Models I ρ g x.nodes) g x go (λ e m. m)
      (λ e m. (models_append I ρ g x.nodes (go (g + length x.nodes) x.wires).nodes m).0)

  models_next : (g : ℕ) (x : Encoding) (go : ℕ → Wires → Encoding) → x.wires.claim ≡ None → Models I ρ g (encode_on g x go).nodes
      → Models I ρ (g + length x.nodes) (go (g + length x.nodes) x.wires).nodes
  models_next g x go q =
      then_by (λ (z : Encoding). Models I ρ g z.nodes → Models I ρ (g + length x.nodes) (go (g + length x.nodes) x.wires).nodes) g x go
      (λ e. not_both (is_made x.wires.claim) e (ap is_made q))
      (λ e m. (models_append I ρ g x.nodes (go (g + length x.nodes) x.wires).nodes m).1)

  -- an encoding that tallies, and what goes on after it
  goes_on : (g : ℕ) (x : Encoding) (go : ℕ → Wires → Encoding) (y : Execution) (on : State → Execution)
      → (Models I ρ g x.nodes → Tallies bs h fine t ds before ρ x y) → (x.wires.claim ≡ None → Runs bs ins h fine t ds before ρ o go on)
      → ((g₁ : ℕ) (s : Wires) → Deadens I ρ o bs h t ds g₁ s (go g₁ s))
      → (is_made x.wires.claim ≡ true → (r : State) → Elsewhere (course ds t.access before (on r).events))
      → Models I ρ g (encode_on g x go).nodes → Tallies bs h fine t ds before ρ (encode_on g x go) (run_on y on)
  goes_on g x go y on p f dead apart m =
      tally_then bs h fine t ds before ρ g x go y on (p (models_first g x go m))
      (λ l e u w. f e (g + length x.nodes) x.wires y.state (models_next g x go e m) (record { unclaimed = e; come = l; going = u; worth = w }))
      (λ e l. dead (g + length x.nodes) x.wires (models_next g x go e m) l)
      (λ q. apart q y.state)

  -- an arm that does not stand after the named access, before which `before` ifs stand
  pub arm_alive : t.side ≤ 1 → ((n : ℕ) → entry ds n ≤ 2) → (a : Arm) (depth : ℕ) (close : Mark) (at : ℕ) (k : Counts) (end : ℕ) (k₁ : Counts)
      → Stands bs h depth close at k a end k₁ → Fit bs ins h a → EachIf (Before before t.access) a → accesses k ≤ t.access
      → Runs bs ins h fine t ds before ρ o (encode_arm bs h t ds a) (run_arm bs ins h a)
  unfolding encode_arm run_arm course_to
  arm_alive sd few =
      induction bs h (λ depth close at k a end k₁. Fit bs ins h a → EachIf (Before before t.access) a → accesses k ≤ t.access
      → Runs bs ins h fine t ds before ρ o (encode_arm bs h t ds a) (run_arm bs ins h a))
      (λ depth close at k mark e l f n ahead g s r m a. alive_through bs ins h fine t ds before ρ o s _ r a refl)
      (λ depth close at k c rest end k₁ v go f n ahead g s r m a.
      let p = simple-claims t bs h ds g c k s a.unclaimed in
      goes_on g (simple bs h t g c k s) (encode_arm bs h t ds rest) (record { events = events_at bs c k r; state = executed bs ins h c k r }) (run_arm bs ins h rest)
      (λ m₁. simple_alive bs ins h fine t ds before ρ o sd g c k s r v.sound f.0 m₁ a)
      (λ e. go f.1 n (p.unnamed (ap is_made e) ahead)) (arm_dead I ρ o bs h t ds rest)
      (λ q. misses bs ins h ds t.access before rest depth close (at + simple_size c) (counts_after c k) end k₁ v.stands (p.named q).1) m)
      (λ depth close at k c first second rest end k₁ v go₁ go₂ go₃ f n ahead g s r m a.
      let l₁ = accesses_grow bs h first (depth + 1) Mark.Else (at + 4) (counts_after_if k) v.else v.k₂ v.stands-first in
      let l₂ = accesses_grow bs h second (depth + 1) Mark.EndIf v.else v.k₂ v.next v.k₃ v.stands-second in
      let p₁ = arm-claims t bs h ds first (depth + 1) Mark.Else (at + 4) (counts_after_if k) v.else v.k₂ v.stands-first in
      let p₂ = arm-claims t bs h ds second (depth + 1) Mark.EndIf v.else v.k₂ v.next v.k₃ v.stands-second in
      let x₁ = encode_arm bs h t ds first in
      let x₂ = encode_arm bs h t ds second in
      let arms : Arms bs ins h fine t ds before ρ o x₁ x₂ (run_arm bs ins h first) (run_arm bs ins h second) = record {
        one = go₁ f.0 n.1 ahead;
        two = λ g₁ s₁ e q. go₂ f.1 n.2 ((p₁ g₁ s₁ e).unnamed q ahead);
        dead₁ = arm_dead I ρ o bs h t ds first;
        dead₂ = arm_dead I ρ o bs h t ds second;
        places = arm-length bs h t ds first;
        apart = λ g₁ s₁ e q. misses bs ins h ds t.access before second (depth + 1) Mark.EndIf v.else v.k₂ v.next v.k₃ v.stands-second ((p₁ g₁ s₁ e).named q).1;
      } in
      let p = fork_claims t bs h ds x₁ x₂ k v.k₂ v.k₃ p₁ p₂ l₁ l₂ (entry ds k.ifs) g c s a.unclaimed in
      goes_on g (encode_if bs h (entry ds k.ifs) g c s x₁ x₂) (encode_arm bs h t ds rest)
      (cond (holds bs c r) (events_then (took k.ifs 0 ∷ []) (run_arm bs ins h first (with_arm r k.ifs 0)))
      (events_then (took k.ifs 1 ∷ []) (run_arm bs ins h second (with_arm r k.ifs 1))))
      (run_arm bs ins h rest)
      (fork_alive bs ins h fine t ds before ρ o x₁ x₂ (run_arm bs ins h first) (run_arm bs ins h second) arms k.ifs (few k.ifs) (n.0.1 ahead) g c s r v.sound a)
      (λ e. go₃ f.2 n.3 (p.unnamed (ap is_made e) ahead)) (arm_dead I ρ o bs h t ds rest)
      (λ q. misses bs ins h ds t.access before rest depth close v.next v.k₃ end k₁ v.stands (p.named q).1) m)
