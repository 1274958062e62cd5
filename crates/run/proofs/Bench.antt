-- The worked examples of document 01 that are marked P, in one theorem, worked divisions in another, and worked beginnings in a third. Assumes nothing.
use mathlib.Core.Path.{◌≡◌, refl}
use mathlib.Core.List.{List, [], ◌∷◌}
use mathlib.Core.Bool.{true, false}
use Prim.Native.Nat.{ℕ}
use Rattle.std.proofs.Common.{Result, Ok, Err, Option, Some, None}
use Rattle.slices.specs.Bytes.{half}
use Rattle.bitvec.specs.Word.{add, subtract, multiply, quotient, remainder, cut}
use Rattle.bitvec.specs.Signed.{signed, less, encode, sign_extend}
use Rattle.bitvec.specs.Relation.{relates}
use Rattle.bitvec.specs.declared.Whole.{Whole}
use Rattle.routine_header.specs.Header.{within, size_ok, first_bad, header_of}
use Rattle.routine_command.specs.Command.{opcode_of, command_by, command_at}
use Rattle.routine_faults.specs.Step.{in_range, widths_fit, too_many, simple_step, step_of}
use Rattle.routine.specs.Routine.{text_of, arm_by}
use Rattle.routine.specs.Decode.{decode}
use Rattle.run_inputs.specs.Inputs.{variables_from, read_variables, first_great, words_fit, listed}
use Rattle.run_state.specs.State.{over, initial, computed, index_of, stop_at, lies, executed}
use Rattle.run_state.specs.Run.{run_arm, run_of}
use Rattle.run.specs.Answer.{RunAnswer, run_admission, run_answer}
use Rattle.run_state.specs.declared.Side.TheVariants.{Below, Above}
use Rattle.run_state.specs.declared.Stop.{Stop}
use Rattle.run.specs.declared.Refusal.{Refusal}

-- one variable of 8 bits, a parameter; one array of 100; a write at that variable; the end
abbrev routine : List ℕ
routine = 0x01 ∷ 0x01 ∷ 0x08 ∷ 0x01 ∷ 0x01 ∷ 0x64 ∷ 0x00 ∷ 0x0A ∷ 0x00 ∷ 0x00 ∷ 0x00 ∷ 0x00 ∷ []

-- its run on the word x, with room for one value that holds 7 and for no trail
abbrev ran : ℕ → RunAnswer
ran x = run_answer routine (x ∷ []) (7 ∷ []) []

-- an answer, the values that are left, and no trail
abbrev leaves : Result (Option Stop) Refusal → List ℕ → RunAnswer
leaves r values = record { ran = r; values = values; trail = [] }

-- the value buffer then holds x
abbrev left : Result (Option Stop) Refusal → ℕ → RunAnswer
left r x = leaves r (x ∷ [])

pub bench :
    (ran 0 ≡ left (Ok None) 0)
    × (ran 99 ≡ left (Ok None) 99)
    × (ran 100 ≡ left (Ok (Some (stop_at 0 (Whole.Natural 100) Above))) 100)
    × (ran 127 ≡ left (Ok (Some (stop_at 0 (Whole.Natural 127) Above))) 127)
    × (ran 128 ≡ left (Ok (Some (stop_at 0 (Whole.Negative 128) Below))) 128)
    × (ran 255 ≡ left (Ok (Some (stop_at 0 (Whole.Negative 1) Below))) 255)
    × (add 8 200 100 ≡ 44)
    × (subtract 8 0 1 ≡ 255)
    × (multiply 8 16 16 ≡ 0)
    × (sign_extend 8 4 8 ≡ 248)
    × (cut 8 500 ≡ 244)
    × (relates 6 8 128 127 ≡ true)
    × (relates 2 8 128 127 ≡ false)
unfolding run_answer run_admission decode header_of within size_ok first_bad arm_by command_at opcode_of command_by half step_of simple_step in_range widths_fit too_many text_of listed words_fit first_great variables_from read_variables run_of run_arm initial over executed index_of lies signed less encode sign_extend add subtract multiply relates
bench = (refl, refl, refl, refl, refl, refl, refl, refl, refl, refl, refl, refl, refl)

-- three variables of 8 bits, of which x and y are the parameters and 9 is what was left in the third; `op` puts what it makes of x and y into variable d;
-- the values that are left
abbrev divided : (op d x y : ℕ) → RunAnswer
divided op d x y =
    run_answer (0x01 ∷ 0x03 ∷ 0x08 ∷ 0x08 ∷ 0x08 ∷ 0x02 ∷ 0x00 ∷ op ∷ d ∷ 0x00 ∷ 0x01 ∷ 0x00 ∷ []) (x ∷ y ∷ 9 ∷ []) (7 ∷ 7 ∷ 7 ∷ []) []

-- a run to the end leaves these values
abbrev ended : List ℕ → RunAnswer
ended values = leaves (Ok None) values

-- quotient and remainder, each in turn: by 7; by 0; by more than the dividend; in place of the dividend; in place of the divisor
pub divisions :
    (divided 0x0E 2 200 7 ≡ ended (200 ∷ 7 ∷ 28 ∷ []))
    × (divided 0x0F 2 200 7 ≡ ended (200 ∷ 7 ∷ 4 ∷ []))
    × (divided 0x0E 2 200 0 ≡ ended (200 ∷ 0 ∷ 255 ∷ []))
    × (divided 0x0F 2 200 0 ≡ ended (200 ∷ 0 ∷ 200 ∷ []))
    × (divided 0x0E 2 7 200 ≡ ended (7 ∷ 200 ∷ 0 ∷ []))
    × (divided 0x0F 2 7 200 ≡ ended (7 ∷ 200 ∷ 7 ∷ []))
    × (divided 0x0E 0 200 7 ≡ ended (28 ∷ 7 ∷ 9 ∷ []))
    × (divided 0x0F 0 200 7 ≡ ended (4 ∷ 7 ∷ 9 ∷ []))
    × (divided 0x0E 1 200 7 ≡ ended (200 ∷ 28 ∷ 9 ∷ []))
    × (divided 0x0F 1 200 7 ≡ ended (200 ∷ 4 ∷ 9 ∷ []))
unfolding run_answer run_admission decode header_of within size_ok first_bad arm_by command_at opcode_of command_by half step_of simple_step in_range widths_fit too_many text_of listed words_fit first_great variables_from read_variables run_of run_arm initial over executed computed quotient remainder
divisions = (refl, refl, refl, refl, refl, refl, refl, refl, refl, refl)

-- two variables of 8 bits, of which the first is the parameter; one array of 4; a read into the first at the second, which nothing sets; the end
abbrev begun : List ℕ → RunAnswer
begun ins =
    run_answer (0x01 ∷ 0x02 ∷ 0x08 ∷ 0x08 ∷ 0x01 ∷ 0x01 ∷ 0x04 ∷ 0x00 ∷ 0x09 ∷ 0x00 ∷ 0x00 ∷ 0x01 ∷ 0x00 ∷ []) ins (7 ∷ 7 ∷ []) []

-- what was left in the second variable is the index, and the read's word comes after it; the leftover missing; the leftover and the read's word too great
pub beginnings :
    (begun (3 ∷ 2 ∷ 77 ∷ []) ≡ leaves (Ok None) (77 ∷ 2 ∷ []))
    × (begun (3 ∷ 4 ∷ 77 ∷ []) ≡ leaves (Ok (Some (stop_at 0 (Whole.Natural 4) Above))) (3 ∷ 4 ∷ []))
    × (begun (3 ∷ 255 ∷ 77 ∷ []) ≡ leaves (Ok (Some (stop_at 0 (Whole.Negative 1) Below))) (3 ∷ 255 ∷ []))
    × (begun (3 ∷ 77 ∷ []) ≡ leaves (Err (Refusal.InputCount 2)) (7 ∷ 7 ∷ []))
    × (begun (3 ∷ 256 ∷ 77 ∷ []) ≡ leaves (Err (Refusal.Input 1)) (7 ∷ 7 ∷ []))
    × (begun (3 ∷ 2 ∷ 256 ∷ []) ≡ leaves (Err (Refusal.Input 2)) (7 ∷ 7 ∷ []))
unfolding run_answer run_admission decode header_of within size_ok first_bad arm_by command_at opcode_of command_by half step_of simple_step in_range widths_fit too_many text_of listed words_fit first_great variables_from read_variables run_of run_arm initial over executed index_of lies signed
beginnings = (refl, refl, refl, refl, refl, refl)
