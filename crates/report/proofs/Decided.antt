-- What is said of a report, from what the parts answered. Assumes nothing.
use Rattle.std.specs.Prelude.{Result, Ok, Err}
use mathlib.Core.Path.{◌≡◌, refl}
use mathlib.Core.List.{List}
use Prim.Native.Nat.{ℕ}
use Rattle.routine_header.specs.declared.Header.{Header}
use Rattle.routine_faults.specs.declared.Counts.{Counts}
use Rattle.routine.specs.Decode.{commands_in, checked}
use Rattle.routine.specs.Inner.Known.{IsRoutineWith}
use Rattle.routine.specs.declared.Accepted.{Accepted}
use Rattle.routine.specs.declared.Refusal as declared
use Rattle.routine.proofs.Decoded.{accepted, refused_by_lem, commands_are}
use Rattle.run_state.specs.declared.Landing.{Landing}
use Rattle.lead.specs.declared.Refusal as lead
use Rattle.report_witness.specs.Lead.{proof_at, decisions_of, opened}
use Rattle.report_witness.specs.Witness.{witness_of}
use Rattle.report_witness.specs.declared.Refusal as witness
use Rattle.report_witness.specs.declared.Lead.{Lead}
use Rattle.translation_meaning.specs.Translation.{translation_of}
use Rattle.report_judgement.specs.Proof.{Room, proved_by}
use Rattle.proof_check.specs.declared.Tally.{Tally}
use Rattle.report_judgement.specs.declared.Refusal.{Refusal}
use Rattle.report_judgement.specs.Judging.{finding, by_opened, judgement}
use Rattle.report_judgement.specs.declared.Finding.{Finding}

-- ---- what `check` of routine answered

pub counted : (bs : List ℕ) (a : Accepted) → checked bs ≡ Ok a → IsRoutineWith bs a.header a.counts
counted bs a e = let y = accepted bs a.header a.counts (checked bs) refl e in record { commands = y.arm; decodes = y.decodes }

-- ---- the witness, then the proof

module _ (bs r : List ℕ) (h : Header) (k : Counts) (m : Room) (l : Lead) where
  -- what is answered
  abbrev Answer : Result Finding Refusal → Type 0
  Answer j = j ≡ by_opened bs r m h (commands_in bs) k (Ok l)

  pub lead_refused : (refusal : witness.Refusal) → witness_of bs l h (commands_in bs) k ≡ Err refusal → Answer (Err (Refusal.Witness refusal))
  lead_refused refusal e = rw e refl

  module _ (landing : Landing) (e : witness_of bs l h (commands_in bs) k ≡ Ok landing) (from : ℕ) (at : from ≡ proof_at h k) where
    abbrev Proves : Result Tally Refusal → Type 0
    Proves p = p ≡ proved_by r from 0 m h k (translation_of bs l.target (decisions_of l k) h (commands_in bs))

    pub unproved : (refusal : Refusal) → Proves (Err refusal) → Answer (Err refusal)
    unproved refusal p = rw (e, ← at, ← p) refl

    pub lead_proved : (tally : Tally) → Proves (Ok tally) → Answer (Ok (finding bs h l.target landing tally))
    lead_proved tally p = rw (e, ← at, ← p) refl

-- ---- the whole

module _ (bs r : List ℕ) (m : Room) where
  pub no_routine : (refusal : declared.Refusal) → checked bs ≡ Err refusal
      → Err (Refusal.Witness (witness.Refusal.Lead (lead.Refusal.Routine refusal))) ≡ judgement bs r m
  unfolding judgement
  no_routine refusal e = rw (refused_by_lem bs refusal (checked bs) refl e) refl

  pub decided : (a : Accepted) → checked bs ≡ Ok a → (j : Result Finding Refusal)
      → j ≡ by_opened bs r m a.header (commands_in bs) a.counts (opened r a.header a.counts) → j ≡ judgement bs r m
  unfolding judgement
  decided a e j by = let y = accepted bs a.header a.counts (checked bs) refl e in rw (y.decodes, ← commands_are bs a.header y.arm a.counts y.decodes) by
