-- The commands in text order: an arm that stands has them one after the other in the bytes, so that a flat walk meets just these. Assumes nothing.
use mathlib.Core.Path.{◌≡◌}
use mathlib.Core.List.{List, [], ◌∷◌, ◌++◌, append_assoc}
use Prim.Native.Nat.{ℕ, ◌+◌, ◌≤◌}
use lib.ListN.{length}
use Rattle.routine_command.specs.Command.{simple_size, command_at}
use Rattle.routine.specs.Routine.{Arm, text_of}
use Rattle.routine.specs.Inner.Stands.{Stands}
use Rattle.routine_header.specs.declared.Header.{Header}
use Rattle.routine_command.specs.declared.Condition.{Condition}
use Rattle.routine_faults.specs.declared.Counts.{Counts}
use Rattle.routine_command.specs.declared.Conversion.{Conversion}
use Rattle.routine_command.specs.declared.Operation.{Operation}
use Rattle.routine_command.specs.declared.Simple.{Simple}
use Rattle.routine_command.specs.declared.Command.{Command}
use Rattle.routine.proofs.Views.{induction}
use Rattle.routine_command.specs.declared.Mark.{Mark}

-- from `at` to the end of the bytes stand the commands cs, and marks of ifs and arms among them
pub data Text (bs : List ℕ) : ℕ → List (Simple Conversion Operation) → Type 0 where
  over : {at : ℕ} → at ≡ length bs → Text bs at []
  closes : {at : ℕ} {cs : List (Simple Conversion Operation)} (mark : Mark) → command_at bs at ≡ Command.Close mark → at + 1 ≤ length bs → Text bs (at + 1) cs → Text bs at cs
  forks : {at : ℕ} {cs : List (Simple Conversion Operation)} (c : Condition) → command_at bs at ≡ Command.If c → at + 4 ≤ length bs → Text bs (at + 4) cs → Text bs at cs
  steps : {at : ℕ} {cs : List (Simple Conversion Operation)} (c : Simple Conversion Operation) → command_at bs at ≡ Command.Simple c → at + simple_size c ≤ length bs → Text bs (at + simple_size c) cs
      → Text bs at (c ∷ cs)

-- an arm, and then what follows it
pub text : (bs : List ℕ) (h : Header) (depth : ℕ) (close : Mark) (at : ℕ) (k : Counts) (a : Arm) (end : ℕ) (k₁ : Counts) → Stands bs h depth close at k a end k₁
    → (cs : List (Simple Conversion Operation)) → Text bs end cs → Text bs at (text_of a ++ cs)
unfolding text_of
text bs h depth close at k a end k₁ s =
    induction bs h (λ depth close at k a end k₁. (cs : List (Simple Conversion Operation)) → Text bs end cs → Text bs at (text_of a ++ cs))
    (λ depth close at k mark e l cs t. closes mark e l t)
    (λ depth close at k c rest end k₁ v go cs t. steps c v.command v.room (go cs t))
    (λ depth close at k c first second rest end k₁ v go₁ go₂ go₃ cs t.
    rw (append_assoc (text_of first) (text_of second ++ text_of rest) cs, append_assoc (text_of second) (text_of rest) cs)
    (forks c v.command v.room (go₁ _ (go₂ _ (go₃ cs t)))))
    a depth close at k end k₁ s
