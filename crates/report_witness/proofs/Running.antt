-- What is said of the witness, from what the parts answered. Assumes nothing.
use Rattle.std.specs.Prelude.{Result, Ok, Err}
use mathlib.Core.Path.{◌≡◌, refl, sym, ap, ◌∙◌}
use mathlib.Core.List.{List}
use Prim.Native.Nat.{ℕ}
use lib.ListN.{take}
use Rattle.routine_header.specs.declared.Header.{Header}
use Rattle.routine_faults.specs.Inputs.{input_count}
use Rattle.routine_faults.specs.declared.Counts.{Counts}
use Rattle.routine.specs.Routine.{Arm}
use Rattle.routine.specs.Access.{ifs_before}
use Rattle.run_inputs.specs.Inputs.{words_fit}
use Rattle.run_inputs.specs.declared.TooGreat.{TooGreat}
use Rattle.run_state.specs.Run.{run_of}
use Rattle.run_state.specs.Course.{course}
use Rattle.run_state.specs.declared.Course.{Course}
use Rattle.run_state.specs.declared.Landing.{Landing}
use Rattle.report_witness.specs.Lead.{decisions_of, inputs_of}
use Rattle.report_witness.specs.Witness.{by_course, witness_of}
use Rattle.report_witness.specs.declared.Lead.{Lead}
use Rattle.report_witness.specs.declared.Refusal.{Refusal}

module _ (bs : List ℕ) (l : Lead) (h : Header) (a : Arm) (k : Counts) (n : ℕ) (is : n ≡ input_count h k) where
  words_are : (x : Result (Unit {0}) TooGreat) → words_fit bs (take n l.inputs) h a ≡ x → words_fit bs (inputs_of l h k) h a ≡ x
  words_are x e = ap (λ (m : ℕ). words_fit bs (take m l.inputs) h a) (sym is) ∙ e

  pub run-refused : (word : TooGreat) → words_fit bs (take n l.inputs) h a ≡ Err word → Err (Refusal.Input word.0) ≡ witness_of bs l h a k
  unfolding witness_of
  run-refused word e = rw (words_are (Err word) e) refl

  pub run_settled : words_fit bs (take n l.inputs) h a ≡ Ok tt
      → (x : Course) → x ≡ course (decisions_of l k) l.target.access (ifs_before a l.target.access) (run_of bs (take n l.inputs) h a).events
      → (v : Result Landing Refusal) → v ≡ by_course bs h l.target x → v ≡ witness_of bs l h a k
  unfolding witness_of
  run_settled e x goes v by =
      rw (words_are (Ok tt) e)
      (by ∙ ap (by_course bs h l.target) (goes ∙ ap (λ (m : ℕ). course (decisions_of l k) l.target.access (ifs_before a l.target.access) (run_of bs (take m l.inputs) h a).events) is))
