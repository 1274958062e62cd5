-- What is returned, and what is written into `answer`, whose other entries are left alone.
use Rattle.std.specs.Prelude.{ℕ, ◌≡◌, List, [], ◌∷◌, Bool, Option, Result, Ok, Err}
use Rattle.std.proofs.lemmas.List.Edits.{sets}
use Rattle.routine.specs.declared.Accepted.{Accepted}
use Rattle.routine.specs.declared.Refusal as routine
use Rattle.run_state.specs.declared.Stop.{Stop}
use Rattle.run.specs.declared.Refusal as run
use Rattle.lead.specs.declared.Refusal as lead
use Rattle.translation_meaning.specs.declared.Size.{Size}
use Rattle.translation.specs.declared.Refusal as translation
use Rattle.proof_check.specs.declared.Tally.{Tally}
use Rattle.proof.specs.declared.Refusal as proof
use Rattle.report_witness.specs.declared.Refusal as witness
use Rattle.report_judgement.specs.declared.Finding.{Finding}
use Rattle.report_judgement.specs.declared.Refusal as report
use Rattle.refusals.specs.Table.{routine_row, run_row, lead_row, translation_row, proof_row, witness_row, report_row}
use Rattle.refusals.specs.declared.Row.{Row}
use Rattle.capi_answer.specs.Entry.{accepted_of, ran_of, sizes_of, tally_of, judged_of, alike_of}

-- the number returned, and the answer
pub record Reply : Type 0 where
  pub code : ℕ
  pub answer : List ℕ

-- done: 0, and the answer's first entries
abbrev pub done : (entries ans : List ℕ) → Reply
done entries ans = record { code = 0; answer = sets ans 0 entries }

-- refused: the number, and the place as the answer's first entry
abbrev pub refused : Row → (ans : List ℕ) → Reply
refused row ans = record { code = row.number; answer = sets ans 0 (row.place ∷ []) }

-- what a call gives: entries that tell what it found, or the row of its refusal
abbrev pub replied : {A E : Type 0} → (entries : A → List ℕ) → (row_of : E → Row) → Result A E → (ans : List ℕ) → Reply
replied entries row_of (Ok told) ans = done (entries told) ans
replied entries row_of (Err refusal) ans = refused (row_of refusal) ans

-- what checking a routine gives
abbrev pub check_fills : Result Accepted routine.Refusal → (ans : List ℕ) → Reply
check_fills = replied accepted_of routine_row

-- what a run gives
abbrev pub run_fills : Result (Option Stop) run.Refusal → (ans : List ℕ) → Reply
run_fills = replied ran_of run_row

-- what a translation gives
abbrev pub translate_fills : Result Size translation.Refusal → (ans : List ℕ) → Reply
translate_fills = replied sizes_of translation_row

-- what is told of a translation's space
abbrev pub space_fills : Result Size lead.Refusal → (ans : List ℕ) → Reply
space_fills = replied sizes_of lead_row

-- what checking a proof gives; 254, no number of document 01, where the buffers do not hold what is asked
abbrev pub prove_fills : Result Tally proof.Refusal → (ans : List ℕ) → Reply
prove_fills (Ok tally) ans = done (tally_of tally) ans
prove_fills (Err (proof.Refusal.Proof refusal)) ans = refused (proof_row refusal) ans
prove_fills (Err proof.Refusal.Unfit) ans = record { code = 254; answer = ans }

-- what judging a report gives
abbrev pub judge_fills : Result Finding report.Refusal → (ans : List ℕ) → Reply
judge_fills = replied judged_of report_row

-- what comparing two reports gives
abbrev pub alike_fills : Result Bool witness.Refusal → (ans : List ℕ) → Reply
alike_fills = replied alike_of witness_row

-- the reply is the number r, and the answer became ans₁
pub record Fills (reply : Reply) (ans₁ : List ℕ) (r : ℕ) : Type 0 where
  pub equal : ◌≡◌ {A = Reply} (record { code = r; answer = ans₁ }) reply
