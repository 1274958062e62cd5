-- What a lead has that was read from a report. Assumes nothing.
use Rattle.std.specs.Prelude.{Result, Ok, Err}
use mathlib.Core.Path.{◌≡◌, refl, ap, sym, ◌∙◌}
use mathlib.Core.List.{List}
use mathlib.Core.Bool.{Bool, true, false, cond}
use Prim.Native.Nat.{ℕ, ◌+◌, ◌-◌, ◌≤◌, ◌<◌}
use native.Mathlib.Omega.{arith}
use lib.ListN.{length, take, drop, replicate, length-drop, length-append, length-replicate}
use lib.Seq.{take_at, length-take-le}
use lib.Dec.{leb}
use borrow.Author.Tests.{le-leb, lt-leb, leb-true}
use Rattle.routine_header.specs.declared.Header.{Header}
use Rattle.routine_faults.specs.Inputs.{input_count}
use Rattle.routine_faults.specs.declared.Counts.{Counts}
use Rattle.routine_faults.proofs.Fine.{fine}
use Rattle.routine.specs.Decode.{IsRoutine}
use Rattle.routine.specs.Inner.Known.{IsRoutineWith}
use Rattle.routine.proofs.Decoded.{decoded}
use Rattle.routine.proofs.Counting.{few-ifs, few-accesses}
use Rattle.lead.specs.Lead.{admitted_lead}
use Rattle.lead.specs.declared.Refusal as lead
use Rattle.report_witness.specs.Lead.{proof_at, words_from, lead_in, decisions_of, inputs_of, by_admitted, opened}
use Rattle.report_witness.specs.Inner.LeadFits.{LeadFits}
use Rattle.report_witness.specs.declared.Lead.{Lead}
use Rattle.report_witness.specs.declared.Refusal.{Refusal}
use Rattle.report_witness.proofs.Padding.{words-length}

-- ---- a routine's lead fits the arrays

module _ (bs : List ℕ) (h : Header) (k : Counts) (i : IsRoutineWith bs h k) where
  pub fits : LeadFits h k
  fits =
      let f = fine bs h (decoded bs h i.commands k i.decodes).header in
      record {
        decisions = few-ifs bs h i.commands k i.decodes;
        inputs = omega (arith, f.few, few-accesses bs h i.commands k i.decodes);
      }

  -- the arrays of a lead, as the code holds them, are not shorter
  module _ (l : Lead) where
    pub decisions_held : length l.decisions ≡ 32 → k.ifs ≤ length l.decisions
    decisions_held e = omega (arith, fits.decisions, e)

    pub inputs_held : length l.inputs ≡ 96 → input_count h k ≤ length l.inputs
    inputs_held e = omega (arith, fits.inputs, e)

  pub counted_routine : IsRoutine bs h
  counted_routine = record { commands = i.commands; counts = k; decodes = i.decodes }

-- ---- the lead's decisions and inputs are the report's

-- the decisions are its bytes from 2 on
pub decisions_are : (r : List ℕ) (h : Header) (k : Counts) → proof_at h k ≤ length r → decisions_of (lead_in r h k) k ≡ take k.ifs (drop 2 r)
decisions_are r h k long =
    take_at (take k.ifs (drop 2 r)) _ k.ifs (length-take-le k.ifs (drop 2 r) (omega (arith, length-drop 2 r)))

-- the inputs are its words after them
pub inputs_are : (r : List ℕ) (h : Header) (k : Counts) → inputs_of (lead_in r h k) h k ≡ words_from r (2 + k.ifs) (input_count h k)
inputs_are r h k = take_at (words_from r (2 + k.ifs) (input_count h k)) _ (input_count h k) (words-length r (2 + k.ifs) (input_count h k))

-- there are as many as the routine takes
pub inputs_counted : (r : List ℕ) (h : Header) (k : Counts) → length (inputs_of (lead_in r h k) h k) ≡ input_count h k
inputs_counted r h k = ap length (inputs_are r h k) ∙ words-length r (2 + k.ifs) (input_count h k)

-- ---- what `open` answers

-- the array of the decisions has room for them
pub decisions-room : (r : List ℕ) (h : Header) (k : Counts) → k.ifs ≤ 32 → (l : Lead) → l ≡ lead_in r h k → k.ifs ≤ length l.decisions
decisions-room r h k few l is =
    let xs : List ℕ = take k.ifs (drop 2 r) in
    rw is (omega (arith, length-append xs (replicate (32 - length xs) 0), length-replicate {A = ℕ} (32 - length xs) 0))

module _ (r : List ℕ) (h : Header) (k : Counts) where
  pub too_long : 16777216 < length r → Err (Refusal.Cut (length r)) ≡ opened r h k
  unfolding opened
  too_long l = rw (lt-leb _ _ l) refl

  module _ (short : length r ≤ 16777216) where
    pub cut_short : length r < proof_at h k → Err (Refusal.Cut (length r)) ≡ opened r h k
    unfolding opened
    cut_short l = rw (le-leb _ _ short, lt-leb _ _ l) refl

    -- what 12 says, once 11 is past
    pub opened_by : proof_at h k ≤ length r → (l : Lead) → l ≡ lead_in r h k → (x : Result (Unit {0}) lead.Refusal) → x ≡ admitted_lead l.target (decisions_of l k) k
        → by_admitted l x ≡ opened r h k
    unfolding opened
    opened_by long l is x by = rw (le-leb _ _ short, le-leb _ _ long, by, is) refl

-- ---- a lead that was let through

-- what it has
pub record Lets (r : List ℕ) (h : Header) (k : Counts) (l : Lead) : Type 0 where
  pub short : length r ≤ 16777216
  pub long : proof_at h k ≤ length r
  pub lead : l ≡ lead_in r h k
  pub admits : admitted_lead (lead_in r h k).target (decisions_of (lead_in r h k) k) k ≡ Ok tt

module _ (r : List ℕ) (h : Header) (k : Counts) (l : Lead) where
  abbrev by : Bool → Bool → Result (Unit {0}) lead.Refusal → Result Lead Refusal
  by b c x = cond b (cond c (by_admitted (lead_in r h k) x) (Err (Refusal.Cut (length r)))) (Err (Refusal.Cut (length r)))

  let_by : (b c : Bool) (x : Result (Unit {0}) lead.Refusal) → leb (length r) 16777216 ≡ b → leb (proof_at h k) (length r) ≡ c
      → admitted_lead (lead_in r h k).target (decisions_of (lead_in r h k) k) k ≡ x → by b c x ≡ Ok l → Lets r h k l
  let_by true true (Ok tt) p q s e =
      let same : lead_in r h k ≡ l = cc in
      record { short = leb-true _ _ p; long = leb-true _ _ q; lead = sym same; admits = s }
  let_by true true (Err refusal) p q s e = let z : ◌≡◌ {A = ℕ} 0 1 = cc in absurd (omega arith)
  let_by true false x p q s e = let z : ◌≡◌ {A = ℕ} 0 1 = cc in absurd (omega arith)
  let_by false c x p q s e = let z : ◌≡◌ {A = ℕ} 0 1 = cc in absurd (omega arith)

  pub lets : opened r h k ≡ Ok l → Lets r h k l
  unfolding opened
  lets w =
      let_by (leb (length r) 16777216) (leb (proof_at h k) (length r)) (admitted_lead (lead_in r h k).target (decisions_of (lead_in r h k) k) k) refl refl refl w
