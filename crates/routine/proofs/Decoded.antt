-- What `check` accepted was decoded, and its commands stand after the header and take all the bytes. Assumes nothing.
use mathlib.Core.Path.{◌≡◌, refl, sym, ap, subst, ◌∙◌}
use mathlib.Core.List.{List}
use mathlib.Core.Bool.{Bool, true, false, ◌&&◌}
use Prim.Native.Nat.{ℕ, ◌≤◌}
use native.Mathlib.Omega.{arith}
use lib.ListN.{length}
use lib.Dec.{leb, eqb}
use borrow.Author.Tests.{eqb-true, leb-true}
use Rattle.slices.specs.Guard.{unless}
use Rattle.routine_header.specs.Header.{header_of, first_command}
use Rattle.routine.specs.Routine.{Arm, Parsed, refused, parsed, arm}
use Rattle.routine.specs.Decode.{Decoded, rejected, routine, no_counts, decode_arm, decode_head, decode, commands_of, commands_in, check_answer, checked}
use Rattle.routine.specs.Inner.Stands.{Stands}
use Rattle.routine_header.specs.declared.Header.{Header}
use Rattle.routine_faults.specs.declared.Counts.{Counts}
use Rattle.routine.specs.declared.Refusal.{Refusal}
use Rattle.routine.specs.declared.Accepted.{Accepted as Answered}
use Rattle.std.specs.Prelude.{Result, Ok, Err}
use Rattle.routine_command.specs.declared.Mark.{Mark}

pub record Whole (bs : List ℕ) (h : Header) (a : Arm) (k : Counts) : Type 0 where
  pub short : length bs ≤ 4096
  pub header : header_of bs ≡ Ok h
  pub stands : Stands bs h 0 Mark.End (first_command h) no_counts a (length bs) k

module _ (bs : List ℕ) where
  abbrev Of_decoded : Decoded → Type 0
  Of_decoded (rejected refusal) = Unit {0}
  Of_decoded (routine h a k) = Whole bs h a k

  of_end : (h : Header) (a : Arm) (end : ℕ) (k : Counts) → length bs ≤ 4096 → header_of bs ≡ Ok h → Stands bs h 0 Mark.End (first_command h) no_counts a end k
      → (b : Bool) → eqb end (length bs) ≡ b → Of_decoded (unless b (rejected (Refusal.Trailing end)) (routine h a k))
  unfolding unless
  of_end h a end k l w s true e = record { short = l; header = w; stands = subst (λ (n : ℕ). Stands bs h 0 Mark.End (first_command h) no_counts a n k) (eqb-true _ _ e) s }
  of_end h a end k l w s false e = tt

  of_arm : (h : Header) → length bs ≤ 4096 → header_of bs ≡ Ok h → (p : Parsed Arm) → arm bs h 0 Mark.End (first_command h) no_counts ≡ p → Of_decoded (decode_arm bs h p)
  of_arm h l w (refused fault place) e = tt
  of_arm h l w (parsed a end k) e = of_end h a end k l w (record { reads = e }) (eqb end (length bs)) refl

  of_head : length bs ≤ 4096 → (x : Result Header ℕ) → header_of bs ≡ x → Of_decoded (decode_head bs x)
  of_head l (Err place) e = tt
  of_head l (Ok h) e = of_arm h l e (arm bs h 0 Mark.End (first_command h) no_counts) refl

  of_decode : (b c : Bool) → leb 1 (length bs) ≡ b → leb (length bs) 4096 ≡ c → Of_decoded (unless (b && c) (rejected Refusal.Length) (decode_head bs (header_of bs)))
  unfolding unless
  of_decode true true e f = of_head (leb-true _ _ f) (header_of bs) refl
  of_decode true false e f = tt
  of_decode false c e f = tt

  pub decoded : (h : Header) (a : Arm) (k : Counts) → decode bs ≡ routine h a k → Whole bs h a k
  unfolding decode
  decoded h a k e = subst Of_decoded e (of_decode (leb 1 (length bs)) (leb (length bs) 4096) refl refl)

  -- the commands that were decoded are those that the bytes have
  pub commands_are : (h : Header) (a : Arm) (k : Counts) → decode bs ≡ routine h a k → commands_in bs ≡ a
  unfolding commands_in
  commands_are h a k e = ap commands_of e

  -- what `check` accepted was decoded
  pub record Accepted (h : Header) (k : Counts) : Type 0 where
    pub arm : Arm
    pub decodes : decode bs ≡ routine h arm k

  of_answer : (h : Header) (k : Counts) (d : Decoded) → decode bs ≡ d → check_answer d ≡ Ok (record { header = h; counts = k }) → Accepted h k
  of_answer h k (rejected refusal) e f = let z : ◌≡◌ {A = ℕ} 0 1 = cc in absurd (omega arith)
  of_answer h k (routine h₁ a k₁) e f =
      let z : ◌≡◌ {A = Answered} (record { header = h₁; counts = k₁ }) (record { header = h; counts = k }) = cc in
      let x : h₁ ≡ h = ap (λ (a : Answered). a.header) z in
      let y : k₁ ≡ k = ap (λ (a : Answered). a.counts) z in
      record { arm = a; decodes = e ∙ ap (λ (z : Header). routine z a k₁) x ∙ ap (λ (z : Counts). routine h a z) y }

  pub accepted : (h : Header) (k : Counts) (r : Result Answered Refusal) → r ≡ checked bs → r ≡ Ok (record { header = h; counts = k }) → Accepted h k
  unfolding checked
  accepted h k r e f = of_answer h k (decode bs) refl (sym e ∙ f)

  -- what `check` refused was rejected
  of_refused : (refusal : Refusal) (d : Decoded) → check_answer d ≡ Err refusal → d ≡ rejected refusal
  of_refused refusal (rejected refusal₁) f = cc
  of_refused refusal (routine h a k) f = let z : ◌≡◌ {A = ℕ} 0 1 = cc in absurd (omega arith)

  pub refused_by_lem : (refusal : Refusal) (r : Result Answered Refusal) → r ≡ checked bs → r ≡ Err refusal → decode bs ≡ rejected refusal
  unfolding checked
  refused_by_lem refusal r e f = of_refused refusal (decode bs) (sym e ∙ f)
