-- The claim of a report, proved: 16, then the proof.
use Rattle.std.specs.Prelude.{ℕ, ◌+◌, List, leb, Result, Ok, Err}
use Rattle.slices.specs.Guard.{unless}
use Rattle.slices.specs.declared.Buffer.{Buffer}
use Rattle.routine_header.specs.declared.Header.{Header}
use Rattle.routine_faults.specs.declared.Counts.{Counts}
use Rattle.translation_command.specs.Command.{Encoding}
use Rattle.translation_meaning.specs.Translation.{clauses_of_all, translation_size}
use Rattle.proof_check.specs.State.{Limits}
use Rattle.proof_check.specs.Check.{check_proof}
use Rattle.proof_check.specs.declared.Tally.{Tally}
use Rattle.proof_check.specs.declared.Refusal as proof
use Rattle.report_judgement.specs.declared.Refusal.{Refusal}

-- how many entries of each buffer are lent and used
pub record Room : Type 0 where
  pub words : ℕ
  pub starts : ℕ
  pub marks : ℕ
  pub values : ℕ
  pub trail : ℕ

-- a verdict on the proof
abbrev pub by_verdict : Result Tally proof.Refusal → Result Tally Refusal
by_verdict (Ok tally) = Ok tally
by_verdict (Err refusal) = Err (Refusal.Proof refusal)

-- what the proof has room for, and what is added to its offsets
abbrev pub limits_in : (base : ℕ) → Room → Encoding → Limits
limits_in base m x = record { variables = (translation_size x).variables; words = m.words; starts = m.starts; base = base }

-- 16, then the proof from an offset of the bytes on, whose places are offsets plus a base, over the clauses of the translation x
unfoldable pub proved_by : (r : List ℕ) → (from base : ℕ) → Room → Header → Counts → Encoding → Result Tally Refusal
unfolding unless
proved_by r from base m h k x =
    unless (leb (translation_size x).words m.words) (Err (Refusal.TooSmall Buffer.Words))
    (unless (leb (translation_size x).clauses m.starts) (Err (Refusal.TooSmall Buffer.Starts))
    (unless (leb ((translation_size x).variables + 1) m.marks) (Err (Refusal.TooSmall Buffer.Marks))
    (unless (leb h.variables m.values) (Err (Refusal.TooSmall Buffer.Values))
    (unless (leb k.ifs m.trail) (Err (Refusal.TooSmall Buffer.Trail))
    (by_verdict (check_proof (clauses_of_all x) (limits_in base m x) r from).verdict)))))
