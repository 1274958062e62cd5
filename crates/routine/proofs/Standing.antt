-- What the command at an offset tells where some arm stands, and where the arms of an if lie. Assumes nothing.
use mathlib.Core.Path.{◌≡◌}
use mathlib.Core.List.{List}
use mathlib.Core.Bool.{false}
use Prim.Native.Nat.{ℕ, ◌+◌, ◌*◌, ◌-◌, ◌≤◌, ◌<◌}
use native.Mathlib.Omega.{arith}
use lib.ListN.{length}
use Rattle.routine_header.specs.declared.Header.{Header}
use Rattle.routine_command.specs.Command.{simple_size, command_at}
use Rattle.routine_faults.specs.Step.{too_many, counts_after_if}
use Rattle.routine_faults.specs.Inner.Sound.{Sound, SoundIf}
use Rattle.routine_command.specs.declared.Condition.{Condition}
use Rattle.routine_faults.specs.declared.Counts.{Counts}
use Rattle.routine_command.specs.declared.Conversion.{Conversion}
use Rattle.routine_command.specs.declared.Operation.{Operation}
use Rattle.routine_command.specs.declared.Simple.{Simple}
use Rattle.routine_command.specs.declared.Command.{Command}
use Rattle.routine.specs.Routine.{Arm}
use Rattle.routine.specs.Inner.Stands.{SomeArm, SomeIf}
use Rattle.routine.specs.Inner.Passes.{Passes}
use Rattle.routine.specs.declared.Passed.{Passed}
use Rattle.routine.proofs.Views.{onward, by_missing, by_close, by_simple, by_if, ByIf}
use Rattle.routine_command.specs.declared.Mark.{Mark}

-- the two arms of an if
abbrev pub arms_of : {bs : List ℕ} {h : Header} {depth : ℕ} {close : Mark} {at : ℕ} {k : Counts} {c : Condition} {a : Arm} {end : ℕ} {k₁ : Counts}
    → ByIf bs h depth close at k c a end k₁ → SomeIf bs h depth at (counts_after_if k)
arms_of v =
    let f = v.known in
    record {
      shallow = f.shallow;
      first = v.first;
      else = f.else;
      between = f.k₂;
      second = v.second;
      end = f.next;
      after = f.k₃;
      stands-first = f.stands-first;
      stands-second = f.stands-second;
    }

module _ (bs : List ℕ) (h : Header) (depth : ℕ) (close : Mark) (at : ℕ) (k : Counts) (w : SomeArm bs h depth close at k) (r : Command Mark Conversion Operation) (is : r ≡ command_at bs at) where
  pub not_missing : r ≡ Command.Missing → ⊥
  not_missing q = by_missing bs h depth close at k w.arm w.end w.after r is w.stands q

  pub close_room : (m : Mark) → r ≡ Command.Close m → at + 1 ≤ length bs
  close_room m q = (by_close bs h depth close at k w.arm w.end w.after r is w.stands m q).room

  -- operands, counts and room of a command that is no if
  pub simple_known : (c : Simple Conversion Operation) → r ≡ Command.Simple c → Sound bs h c × (too_many c k ≡ false) × (at + simple_size c ≤ length bs)
  simple_known c q =
      let v = (by_simple bs h depth close at k w.arm w.end w.after r is w.stands c q).known in
      (v.sound, v.few, v.room)

  -- arms, number and operands of an if
  pub some_if : (c : Condition) → r ≡ Command.If c → SomeIf bs h depth at (counts_after_if k) × (k.ifs < 32) × SoundIf bs h c
  some_if c q =
      let v = by_if bs h depth close at k w.arm w.end w.after r is w.stands c q in
      (arms_of v, v.known.few, v.known.sound)

-- where the else lies
pub else-room : (bs : List ℕ) (h : Header) (depth at : ℕ) (k : Counts) (i : SomeIf bs h depth at (counts_after_if k)) → (at + 4 < i.else) × (i.else ≤ length bs)
else-room bs h depth at k i = onward bs h (depth + 1) Mark.Else (at + 4) (counts_after_if k) i.first i.else i.between i.stands-first

-- the bytes left fall from an if to its second arm
pub second_falls : (n at next else t : ℕ) → 2 * (n - at) ≡ t → at + 4 < else → else ≤ n → next ≡ else → 2 * (n - next) + 1 < t
second_falls n at next else t e l u q = omega arith

-- where an if ends
pub if_ends : {bs : List ℕ} {h : Header} {depth : ℕ} {close : Mark} {at : ℕ} {k : Counts} {c : Condition} {a : Arm} {end : ℕ} {k₁ : Counts}
    (v : ByIf bs h depth close at k c a end k₁) → (at < v.known.next) × (v.known.next ≤ length bs)
if_ends {bs} {h} {depth} {at = at} {k} v =
    let f = v.known in
    let p = onward bs h (depth + 1) Mark.Else (at + 4) (counts_after_if k) v.first f.else f.k₂ f.stands-first in
    let q = onward bs h (depth + 1) Mark.EndIf f.else f.k₂ v.second f.next f.k₃ f.stands-second in
    (omega arith, omega arith)

-- ---- the arms of an if, each as an arm that stands

module _ (bs : List ℕ) (h : Header) (depth at : ℕ) (k : Counts) (i : SomeIf bs h depth at (counts_after_if k)) where
  pub second_at : (next : ℕ) (k₁ : Counts) → next ≡ i.else → k₁ ≡ i.between → SomeArm bs h (depth + 1) Mark.EndIf next k₁
  second_at next k₁ p q = rw (p, q) (record { arm = i.second; end = i.end; after = i.after; stands = i.stands-second })

  module _ (inside : Counts) (e : inside ≡ counts_after_if k) where
    pub first-arm : SomeArm bs h (depth + 1) Mark.Else (at + 4) inside
    first-arm = rw e (record { arm = i.first; end = i.else; after = i.between; stands = i.stands-first })

    -- after the first arm was passed
    pub passed_to : (p : Passed) → Passes bs h (depth + 1) Mark.Else (at + 4) inside p → (p.next ≡ i.else) × (p.counts ≡ i.between)
    passed_to p x = x.tells i.first i.else i.between (rw e i.stands-first)

    pub second-passed : (p : Passed) → Passes bs h (depth + 1) Mark.Else (at + 4) inside p → SomeArm bs h (depth + 1) Mark.EndIf p.next p.counts
    second-passed p x = let y = passed_to p x in second_at p.next p.counts y.0 y.1
