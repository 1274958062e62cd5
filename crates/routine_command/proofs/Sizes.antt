-- Laws of a command at an offset. Assumes nothing.
use mathlib.Core.Path.{◌≡◌, refl, sym, ◌∙◌}
use mathlib.Core.List.{List}
use mathlib.Core.Bool.{Bool, true, false, cond}
use Rattle.std.specs.Prelude.{Option, Some, None}
use Prim.Native.Nat.{ℕ, ◌+◌, ◌≤◌, ◌<◌, ◌-◌}
use native.Mathlib.Omega.{arith}
use lib.ListN.{length}
use lib.Dec.{lit<, leb}
use borrow.Author.Tests.{le-leb, lt-leb, ne_eqb}
use Rattle.slices.specs.Bytes.{entry, word}
use Rattle.routine_command.specs.Command.{command_size, simple_size, size_by_op, opcode_of, opcode_size, command_with, command_from, command_by, command_of, command_at}
use Rattle.routine_command.specs.declared.Conversion.{Conversion}
use Rattle.routine_command.specs.declared.Operation.{Operation}
use Rattle.routine_command.specs.declared.Mark.{Mark}
use Rattle.routine_command.specs.declared.Opcode.{Opcode}
use Rattle.routine_command.specs.declared.Simple.{Simple}
use Rattle.routine_command.specs.declared.Command.{Command}

pub simple-size : {C O : Type 0} → (c : Simple C O) → 0 < simple_size c
simple-size (Simple.Set d k) = lit< tt
simple-size (Simple.Convert op d s) = lit< tt
simple-size (Simple.Compute op d s t) = lit< tt
simple-size (Simple.Read d a i) = lit< tt
simple-size (Simple.Write a i s) = lit< tt

-- a command takes at least a byte
pub size-pos : {M C O : Type 0} → (c : Command M C O) → 0 < command_size c
size-pos Command.Missing = lit< tt
size-pos (Command.Close m) = lit< tt
size-pos (Command.If c) = lit< tt
size-pos (Command.Simple c) = simple-size c

-- it is whole
pub whole : (bs : List ℕ) (at : ℕ) (r : Command Mark Conversion Operation) → r ≡ command_of bs at → command_size r ≤ length bs - at → r ≡ command_at bs at
unfolding command_at
whole bs at r e h = rw (← e) (simp (le-leb _ _ h))

-- it is cut short
pub cut : (bs : List ℕ) (at : ℕ) → length bs - at < command_size (command_of bs at) → Command.Missing ≡ command_at bs at
unfolding command_at
cut bs at h = simp (lt-leb _ _ h)

-- ---- by the command's byte alone

size_with : (o : Opcode) (a b c k : ℕ) → command_size (command_with o a b c k) ≡ opcode_size o
size_with (Opcode.Close mark) a b c k = refl
size_with Opcode.Set a b c k = refl
size_with (Opcode.Convert op) a b c k = refl
size_with (Opcode.Compute op) a b c k = refl
size_with Opcode.Read a b c k = refl
size_with Opcode.Write a b c k = refl
size_with Opcode.If a b c k = refl

same_size : (o : Option Opcode) (a b c k : ℕ) → command_size (command_from o a b c k) ≡ command_size (command_from o 0 0 0 0)
same_size None a b c k = refl
same_size (Some o) a b c k = size_with o a b c k ∙ sym (size_with o 0 0 0 0)

-- the operands do not matter
pub size_by : (op a b c k : ℕ) → command_size (command_by op a b c k) ≡ size_by_op op
unfolding command_by
size_by op a b c k = same_size (opcode_of op) a b c k

-- so a command's size is that of its byte
pub size_at : (bs : List ℕ) (at : ℕ) → command_size (command_of bs at) ≡ size_by_op (entry bs at)
size_at bs at = size_by (entry bs at) (entry bs (at + 1)) (entry bs (at + 2)) (entry bs (at + 3)) (word bs (at + 2))

-- bytes from 0x10 on are unknown
pub unknown_byte : (op a b c k : ℕ) → 16 ≤ op → Command.Missing ≡ command_by op a b c k
unfolding command_by opcode_of
unknown_byte op a b c k l =
    simp (
      ne_eqb op 0 (omega arith),
      ne_eqb op 1 (omega arith),
      ne_eqb op 2 (omega arith),
      ne_eqb op 3 (omega arith),
      ne_eqb op 4 (omega arith),
      ne_eqb op 5 (omega arith),
      ne_eqb op 6 (omega arith),
      ne_eqb op 7 (omega arith),
      ne_eqb op 8 (omega arith),
      ne_eqb op 9 (omega arith),
      ne_eqb op 10 (omega arith),
      ne_eqb op 11 (omega arith),
      ne_eqb op 12 (omega arith),
      ne_eqb op 13 (omega arith),
      ne_eqb op 14 (omega arith),
      ne_eqb op 15 (omega arith),
    )

-- ---- by the opcode of the byte that stands there

module _ (bs : List ℕ) (at : ℕ) where
  pub unknown : opcode_of (entry bs at) ≡ None → Command.Missing ≡ command_at bs at
  unfolding command_at command_by
  unknown e = rw e (go Command.Missing (leb 1 (length bs - at)))
    where
      go : (r : Command Mark Conversion Operation) (b : Bool) → r ≡ cond b r r
      go r true = refl
      go r false = refl

  module _ (o : Opcode) (e : opcode_of (entry bs at) ≡ Some o) where
    pub size_there : command_size (command_of bs at) ≡ opcode_size o
    unfolding command_by
    size_there = rw e (size_with o (entry bs (at + 1)) (entry bs (at + 2)) (entry bs (at + 3)) (word bs (at + 2)))

    pub there : opcode_size o ≤ length bs - at → command_with o (entry bs (at + 1)) (entry bs (at + 2)) (entry bs (at + 3)) (word bs (at + 2)) ≡ command_at bs at
    unfolding command_by
    there l = whole bs at _ (rw e) (omega (arith, size_with o (entry bs (at + 1)) (entry bs (at + 2)) (entry bs (at + 3)) (word bs (at + 2))))

-- a command that is there is the one whose byte stands there
pub not_cut : (bs : List ℕ) (at : ℕ) (r : Command Mark Conversion Operation) → command_at bs at ≡ r → (r ≡ Command.Missing → ⊥) → command_of bs at ≡ r
unfolding command_at
not_cut bs at r e f = go (leb (command_size (command_of bs at)) (length bs - at)) e
  where
    go : (b : Bool) → cond b (command_of bs at) Command.Missing ≡ r → command_of bs at ≡ r
    go true q = q
    go false q = absurd (f (sym q))
