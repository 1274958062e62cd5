-- The judging of a report: 1 to 8, the lead and the witness, then 16 and the proof.
use Rattle.std.specs.Prelude.{ℕ, List, Result, Ok, Err}
use Rattle.routine_header.specs.Header.{array_size}
use Rattle.routine_header.specs.declared.Header.{Header}
use Rattle.routine_faults.specs.declared.Counts.{Counts}
use Rattle.routine.specs.Routine.{Arm}
use Rattle.routine.specs.Decode.{Decoded, rejected, routine, decode}
use Rattle.run_state.specs.declared.Landing.{Landing}
use Rattle.lead.specs.declared.Refusal as lead
use Rattle.lead.specs.declared.Target.{Target}
use Rattle.report_witness.specs.Lead.{proof_at, decisions_of, opened}
use Rattle.report_witness.specs.Witness.{witness_of}
use Rattle.report_witness.specs.declared.Refusal as witness
use Rattle.report_witness.specs.declared.Lead.{Lead}
use Rattle.translation_meaning.specs.Translation.{translation_of}
use Rattle.proof_check.specs.declared.Tally.{Tally}
use Rattle.report_judgement.specs.Proof.{Room, proved_by}
use Rattle.report_judgement.specs.declared.Refusal.{Refusal}
use Rattle.report_judgement.specs.declared.Finding.{Finding}

-- what was found, with the steps closed and the hints read
abbrev pub finding : List ℕ → Header → Target → Landing → Tally → Finding
finding bs h t landing tally =
    record {
      access = t.access;
      side = t.side;
      array = landing.array;
      size = array_size bs h landing.array;
      index = landing.index;
      steps = tally.steps;
      hints = tally.hints;
    }

-- the answer
abbrev pub by_proof : List ℕ → Header → Target → Landing → Result Tally Refusal → Result Finding Refusal
by_proof bs h t landing (Err refusal) = Err refusal
by_proof bs h t landing (Ok tally) = Ok (finding bs h t landing tally)

-- the witness of a lead, then 16 and the proof
abbrev pub by_witness : (bs r : List ℕ) → Room → Header → Arm → Counts → Lead → Result Landing witness.Refusal → Result Finding Refusal
by_witness bs r m h a k l (Err refusal) = Err (Refusal.Witness refusal)
by_witness bs r m h a k l (Ok landing) =
    by_proof bs h l.target landing (proved_by r (proof_at h k) 0 m h k (translation_of bs l.target (decisions_of l k) h a))

-- 11 and 12, then the witness
abbrev pub by_opened : (bs r : List ℕ) → Room → Header → Arm → Counts → Result Lead witness.Refusal → Result Finding Refusal
by_opened bs r m h a k (Err refusal) = Err (Refusal.Witness refusal)
by_opened bs r m h a k (Ok l) = by_witness bs r m h a k l (witness_of bs l h a k)

-- 1 to 8, then the lead
abbrev pub by_routine : (bs r : List ℕ) → Room → Decoded → Result Finding Refusal
by_routine bs r m (rejected refusal) = Err (Refusal.Witness (witness.Refusal.Lead (lead.Refusal.Routine refusal)))
by_routine bs r m (routine h a k) = by_opened bs r m h a k (opened r h k)

-- what `judge` answers to a report on a routine
unfoldable pub judgement : (bs r : List ℕ) → Room → Result Finding Refusal
judgement bs r m = by_routine bs r m (decode bs)
