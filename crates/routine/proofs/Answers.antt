-- Laws of what `check` answers. Assumes nothing.
use mathlib.Core.Path.{◌≡◌, refl, sym, ap, ◌∙◌}
use mathlib.Core.Bool.{Bool, true, false}
use mathlib.Core.List.{List}
use Prim.Native.Nat.{ℕ}
use lib.ListN.{length}
use lib.Dec.{eqb}
use Rattle.slices.specs.Guard.{unless}
use Rattle.routine_header.specs.Header.{first_command}
use Rattle.routine.specs.Routine.{Arm, Parsed, refused, parsed, arm}
use Rattle.routine.specs.Inner.Walk.{Walked, walked, walk_arm}
use Rattle.routine.specs.Decode.{Decoded, rejected, routine, no_counts, decode_arm, check_answer}
use Rattle.routine.specs.Inner.Known.{checked_commands}
use Rattle.routine_header.specs.declared.Header.{Header}
use Rattle.routine_faults.specs.declared.Counts.{Counts}
use Rattle.routine.specs.declared.Accepted.{Accepted}
use Rattle.std.specs.Prelude.{Result, Ok, Err}
use Rattle.routine.specs.declared.Refusal.{Refusal}
use Rattle.routine_command.specs.declared.Mark.{Mark}

-- what follows a walk over the commands of n bytes
abbrev pub commands_by : ℕ → Header → Walked → Result Accepted Refusal
commands_by n h (Err refusal) = Err refusal
commands_by n h (Ok passed) = unless (eqb passed.next n) (Err (Refusal.Trailing passed.next)) (Ok (record { header = h; counts = passed.counts }))

answer-unless : (b : Bool) (x y : Decoded) → check_answer (unless b x y) ≡ unless b (check_answer x) (check_answer y)
unfolding unless
answer-unless true x y = refl
answer-unless false x y = refl

answer-arm : (bs : List ℕ) (h : Header) (p : Parsed Arm) → check_answer (decode_arm bs h p) ≡ commands_by (length bs) h (walked p)
answer-arm bs h (refused fault place) = refl
answer-arm bs h (parsed a end k) = answer-unless (eqb end (length bs)) (rejected (Refusal.Trailing end)) (routine h a k)

-- w is what the walk answers, and is v
pub commands : (bs : List ℕ) (h : Header) (at : ℕ) (k : Counts) (w v : Walked) → w ≡ walk_arm bs h 0 Mark.End at k → at ≡ first_command h → k ≡ no_counts → w ≡ v
    → commands_by (length bs) h v ≡ checked_commands bs h
unfolding walk_arm checked_commands
commands bs h at k w v e f n g =
    ap (commands_by (length bs) h) (sym g ∙ e ∙ (λ i. walked (arm bs h 0 Mark.End (f i) (n i)))) ∙ sym (answer-arm bs h (arm bs h 0 Mark.End (first_command h) no_counts))
