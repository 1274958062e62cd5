-- A whole routine, from what its commands come to. Assumes nothing.
use Rattle.routine_command.specs.declared.Mark.{Mark}
use mathlib.Core.Path.{◌≡◌, ap, ◌∙◌}
use mathlib.Core.List.{List}
use mathlib.Core.Bool.{false}
use Prim.Native.Nat.{ℕ}
use lib.ListN.{length}
use Rattle.std.specs.Prelude.{is_some}
use Rattle.routine_header.specs.Header.{first_command}
use Rattle.routine_header.specs.declared.Header.{Header}
use Rattle.routine_faults.specs.Inner.Sound.{Fine}
use Rattle.routine_faults.specs.Inputs.{given}
use Rattle.routine_faults.proofs.Fine.{fine}
use Rattle.routine.specs.Decode.{no_counts, commands_in, IsRoutine}
use Rattle.routine.specs.Inner.Stands.{SomeArm}
use Rattle.routine.proofs.Decoded.{decoded, commands_are}
use Rattle.run_state.specs.State.{initial}
use Rattle.run_state.specs.declared.State.{State}
use Rattle.run_state.specs.Run.{run_arm, run_of}
use Rattle.run_state.specs.Course.{course_to}
use Rattle.run_state.specs.Inner.Walker.{settled, way_at, FollowsArm}
use Rattle.run_state.specs.declared.Course.{Course}
use Rattle.run_state.specs.declared.Goal.{Goal}
use Rattle.run_state.specs.declared.Way.{Way}

-- a run begins going
pub begun_going : (ins : List ℕ) (n : ℕ) (s : State) → s ≡ initial ins n → is_some s.stop ≡ false
unfolding initial
begun_going ins n s e = ap (λ (x : State). is_some x.stop) e

-- an accepted routine has a fine header, and its commands stand at the first of them
module _ (bs : List ℕ) (h : Header) (i : IsRoutine bs h) where
  pub header_fine : Fine bs h
  header_fine = fine bs h (decoded bs h i.commands i.counts i.decodes).header

  pub commands_stand : (at : ℕ) → at ≡ first_command h → SomeArm bs h 0 Mark.End at no_counts
  commands_stand at e =
      let w = decoded bs h i.commands i.counts i.decodes in
      rw e (record { arm = i.commands; end = length bs; after = i.counts; stands = w.stands })

  -- what the commands come to is what the routine comes to
  pub followed_whole : (ins ds : List ℕ) (goal : Goal) (at : ℕ) (s : State) (r : Way) → at ≡ first_command h → s ≡ initial ins (given h)
      → FollowsArm bs ins ds goal h 0 Mark.End (way_at at no_counts s Course.Passing) r
      → (r.course ≡ course_to ds goal (run_of bs ins h (commands_in bs)).events) × (settled r.course ≡ false → r.state ≡ (run_of bs ins h (commands_in bs)).state)
  unfolding run_of
  followed_whole ins ds goal at s r e q x =
      let a = i.commands in
      let y = x.tells a (length bs) i.counts (rw e (decoded bs h a i.counts i.decodes).stands) in
      rw (commands_are bs h a i.counts i.decodes)
      (y.course ∙ ap (λ (z : State). course_to ds goal (run_arm bs ins h a z).events) q, (λ u. y.state u ∙ ap (λ (z : State). (run_arm bs ins h a z).state) q))
