-- The lead of a report: access, side, a decision for each if, the witness's inputs of four bytes each. The proof begins after it.
use Rattle.std.specs.Prelude.{ℕ, zero, suc, ◌+◌, ◌*◌, ◌-◌, List, [], ◌∷◌, ◌++◌, length, take, drop, replicate, leb, Result, Ok, Err}
use Rattle.slices.specs.Bytes.{entry, word}
use Rattle.slices.specs.Guard.{unless}
use Rattle.routine_header.specs.declared.Header.{Header}
use Rattle.routine_faults.specs.declared.Counts.{Counts}
use Rattle.routine_faults.specs.Inputs.{input_count}
use Rattle.lead.specs.Lead.{target_of, admitted_lead}
use Rattle.lead.specs.declared.Refusal as lead
use Rattle.report_witness.specs.declared.Lead.{Lead}
use Rattle.report_witness.specs.declared.Refusal.{Refusal}

-- where the proof begins
abbrev pub proof_at : Header → Counts → ℕ
proof_at h k = 2 + k.ifs + 4 * input_count h k

-- n words from an offset on
unfoldable pub words_from : List ℕ → (at n : ℕ) → List ℕ
words_from r at zero = []
words_from r at (suc n) = word r at ∷ words_from r (at + 4) n

-- an array of n entries that begins with a list, and then has zeros
abbrev pub padded : (n : ℕ) → List ℕ → List ℕ
padded n xs = xs ++ replicate (n - length xs) 0

-- the lead in the bytes of a report: byte 0 is the access and byte 1 the side, then come a byte for each if and a word for each input
abbrev pub lead_in : List ℕ → Header → Counts → Lead
lead_in r h k =
    record {
      target = target_of (entry r 0) (entry r 1);
      decisions = padded 32 (take k.ifs (drop 2 r));
      inputs = padded 96 (words_from r (2 + k.ifs) (input_count h k));
    }

-- the decisions of a lead, without the zeros after them
abbrev pub decisions_of : Lead → Counts → List ℕ
decisions_of l k = take k.ifs l.decisions

-- the inputs of a lead, without the zeros after them
abbrev pub inputs_of : Lead → Header → Counts → List ℕ
inputs_of l h k = take (input_count h k) l.inputs

-- what 12 says of a lead
abbrev pub by_admitted : Lead → Result (Unit {0}) lead.Refusal → Result Lead Refusal
by_admitted l (Err refusal) = Err (Refusal.Lead refusal)
by_admitted l (Ok passes) = Ok l

-- 11: the report is over 16,777,216, or the lead is cut short; then 12
unfoldable pub opened : List ℕ → Header → Counts → Result Lead Refusal
unfolding unless
opened r h k =
    unless (leb (length r) 16777216) (Err (Refusal.Cut (length r)))
    (unless (leb (proof_at h k) (length r)) (Err (Refusal.Cut (length r)))
    (by_admitted (lead_in r h k) (admitted_lead (lead_in r h k).target (decisions_of (lead_in r h k) k) k)))
