-- An arm that stands in the bytes: the bytes from its start to its end are those of its commands, and these are good. Assumes nothing.
use mathlib.Core.Path.{◌≡◌, refl, sym, ◌∙◌}
use mathlib.Core.List.{List, ◌∷◌, ◌++◌, append_assoc}
use mathlib.Core.Bool.{Bool, true, false}
use Prim.Native.Nat.{ℕ, ◌+◌, ◌≤◌}
use native.Mathlib.Omega.{arith}
use lib.ListN.{length, drop}
use Rattle.routine_command.specs.Command.{simple_size, command_at}
use Rattle.routine_faults.specs.Step.{counts_after, same_mark, step_of, accesses, counts_after_if}
use Rattle.routine.specs.Routine.{Arm, done, plain, if_else, refused, parsed, arm_step, arm}
use Rattle.routine.specs.Inner.Stands.{Stands}
use Rattle.routine_rendering.specs.Syntax.{Text, no_more, simple, if_text, Syntax}
use Rattle.routine_rendering.specs.Render.{simple_bytes, text_bytes}
use Rattle.routine_rendering.specs.WellFormed.{AllGood, depth, ifs, one_read, one_write, reads, writes, access_count}
use Rattle.routine_rendering.specs.Exactly.{AreBytes}
use Rattle.routine_header.specs.declared.Header.{Header}
use Rattle.routine_faults.specs.declared.Counts.{Counts}
use Rattle.routine_command.specs.declared.Conversion.{Conversion}
use Rattle.routine_command.specs.declared.Operation.{Operation}
use Rattle.routine_command.specs.declared.Simple.{Simple}
use Rattle.routine_command.specs.declared.Condition.{Condition}
use Rattle.routine_command.specs.declared.Command.{Command}
use Rattle.routine_faults.specs.declared.Fault.{Fault}
use Rattle.routine.proofs.Arms.{unroll}
use Rattle.routine.proofs.Views.{PlainAt, ForkAt, induction}
use Rattle.routine.proofs.Counting.{same-ifs}
use Rattle.routine_rendering.proofs.Commands.{mark_byte, simple-there, if_there, close_there}
use Rattle.routine_faults.proofs.Tests.{mark_is}
use Rattle.routine_rendering.proofs.Operands.{Same, good, good_if}
use Rattle.routine_command.specs.declared.Mark.{Mark}

-- the commands of an arm without their offsets and counts
unfoldable pub text : Arm → Text
text done = no_more
text (plain at c k rest) = simple c (text rest)
text (if_else at c k first second rest) = if_text c (text first) (text second) (text rest)

-- a command adds to the counts
pub counts-after : (c : Simple Conversion Operation) (k : Counts) → ((counts_after c k).reads ≡ k.reads + one_read c) × ((counts_after c k).writes ≡ k.writes + one_write c)
counts-after (Simple.Set d x) k = (omega arith, omega arith)
counts-after (Simple.Convert op d s) k = (omega arith, omega arith)
counts-after (Simple.Compute op d s t) k = (omega arith, omega arith)
counts-after (Simple.Read d a i) k = (omega arith, omega arith)
counts-after (Simple.Write a i s) k = (omega arith, omega arith)

-- the arm a of p stands from `at` to `end` inside n ifs
pub record Written (bs : List ℕ) (p : Syntax) (n : ℕ) (close : Mark) (at : ℕ) (k : Counts) (a : Arm) (end : ℕ) (k₁ : Counts) : Type 0 where
  pub bytes : drop at bs ≡ text_bytes (text a) ++ (mark_byte close ∷ drop end bs)
  pub good : AllGood p (text a)
  pub deep : n + depth (text a) ≤ 8
  pub counted : k₁.ifs ≡ k.ifs + ifs (text a)
  pub accessed : accesses k₁ ≡ accesses k + access_count (text a)

module _ (bs : List ℕ) (h : Header) (n : ℕ) (close : Mark) (at : ℕ) (k : Counts) where
  -- an arm ends by its own mark
  own_mark : (mark : Mark) (a : Arm) (end : ℕ) (k₁ : Counts) → command_at bs at ≡ Command.Close mark → Stands bs h n close at k a end k₁ → mark ≡ close
  unfolding step_of
  own_mark mark a end k₁ e s = by (same_mark mark close) refl
    where
      by : (b : Bool) → same_mark mark close ≡ b → mark ≡ close
      by true q = mark_is _ _ q
      by false q =
          let u : arm_step (arm bs h) n close at k (step_of bs h n close (Command.Close mark) k) ≡ parsed a end k₁ = rw e at (sym (unroll bs h n close at k) ∙ s.reads) in
          let v : refused Fault.Misplaced at ≡ parsed a end k₁ = rw q at u in
          let z : ◌≡◌ {A = ℕ} 0 1 = cc in absurd (omega arith)

module _ (bs : List ℕ) (f : AreBytes bs) (h : Header) (p : Syntax) (same : Same bs h p) where
  abbrev Says : (n : ℕ) (close : Mark) (at : ℕ) → Counts → Arm → ℕ → Counts → Type 0
  Says n close at k a end k₁ = n ≤ 8 → Stands bs h n close at k a end k₁ → Written bs p n close at k a end k₁

  on-done : (n : ℕ) (close : Mark) (at : ℕ) (k : Counts) (mark : Mark) → command_at bs at ≡ Command.Close mark → at + 1 ≤ length bs → Says n close at k done (at + 1) k
  unfolding text text_bytes depth ifs reads writes
  on-done n close at k mark e l d s = record {
    bytes = rw (own_mark bs h n close at k mark done (at + 1) k e s) at (close_there bs at mark e l);
    good = tt;
    deep = omega arith;
    counted = omega arith;
    accessed = omega arith;
  }

  on-plain : (n : ℕ) (close : Mark) (at : ℕ) (k : Counts) (c : Simple Conversion Operation) (rest : Arm) (end : ℕ) (k₁ : Counts) → PlainAt bs h n close at k c rest end k₁
      → Says n close (at + simple_size c) (counts_after c k) rest end k₁ → Says n close at k (plain at c k rest) end k₁
  unfolding text text_bytes depth ifs reads writes
  on-plain n close at k c rest end k₁ v go d s =
      let w = go d v.stands in
      let b = simple-there bs at f c v.command v.room in
      record {
        bytes = rw (append_assoc (simple_bytes c) (text_bytes (text rest)) (mark_byte close ∷ drop end bs), ← w.bytes) b.0;
        good = (good bs h p same c v.sound, w.good);
        deep = w.deep;
        counted = w.counted ∙ rw (same-ifs c k);
        accessed = omega (arith, w.accessed, counts-after c k);
      }

  on_fork : (n : ℕ) (close : Mark) (at : ℕ) (k : Counts) (c : Condition) (first second rest : Arm) (end : ℕ) (k₁ : Counts)
      → (v : ForkAt bs h n close at k c first second rest end k₁)
      → Says (n + 1) Mark.Else (at + 4) (counts_after_if k) first v.else v.k₂ → Says (n + 1) Mark.EndIf v.else v.k₂ second v.next v.k₃
      → Says n close v.next v.k₃ rest end k₁ → Says n close at k (if_else at c k first second rest) end k₁
  unfolding text text_bytes depth ifs reads writes
  on_fork n close at k c first second rest end k₁ v go₁ go₂ go₃ d s =
      let sh = v.shallow in
      let w₁ = go₁ (omega arith) v.stands-first in
      let w₂ = go₂ (omega arith) v.stands-second in
      let w₃ = go₃ d v.stands in
      record {
        bytes =
            rw (
              append_assoc (text_bytes (text first)) (12 ∷ text_bytes (text second) ++ (13 ∷ text_bytes (text rest))) (mark_byte close ∷ drop end bs),
              append_assoc (text_bytes (text second)) (13 ∷ text_bytes (text rest)) (mark_byte close ∷ drop end bs),
              ← w₃.bytes,
              ← w₂.bytes,
              ← w₁.bytes,
            )
            (if_there bs at c v.command v.room);
        good = (good_if bs h p same c v.sound, w₁.good, w₂.good, w₃.good);
        deep = omega (arith, w₁.deep, w₂.deep, w₃.deep);
        counted = omega (arith, w₁.counted, w₂.counted, w₃.counted);
        accessed = omega (arith, w₁.accessed, w₂.accessed, w₃.accessed);
      }

  pub written : (a : Arm) (n : ℕ) (close : Mark) (at : ℕ) (k : Counts) (end : ℕ) (k₁ : Counts) → Stands bs h n close at k a end k₁ → n ≤ 8
      → Written bs p n close at k a end k₁
  written a n close at k end k₁ s d = induction bs h Says on-done on-plain on_fork a n close at k end k₁ s d s
