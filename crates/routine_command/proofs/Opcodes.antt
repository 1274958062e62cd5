-- The byte of an opcode. Assumes nothing.
use mathlib.Core.Path.{◌≡◌, refl, subst}
use mathlib.Core.Logic.{◌↔◌}
use mathlib.Core.Bool.{Bool, true, false, cond}
use Rattle.std.specs.Prelude.{Option, Some, None}
use Prim.Native.Nat.{ℕ}
use lib.Dec.{eqb}
use borrow.Author.Tests.{eqb-true}
use Rattle.routine_command.specs.Command.{opcode_of}
use Rattle.routine_command.specs.declared.Conversion.{Conversion}
use Rattle.routine_command.specs.declared.Operation.{Operation}
use Rattle.routine_command.specs.declared.Mark.{Mark}
use Rattle.routine_command.specs.declared.Opcode.{Opcode}

-- what holds of both answers of a test holds of its answer
pub by_test : {A : Type 0} (P : A → Type 0) (t : Bool) (x y : A) → (t ≡ true → P x) → P y → P (cond t x y)
by_test P true x y p q = p refl
by_test P false x y p q = q

-- the byte of an opcode
abbrev pub opcode_byte : Opcode → ℕ
opcode_byte (Opcode.Close Mark.End) = 0x00
opcode_byte Opcode.Set = 0x01
opcode_byte (Opcode.Convert Conversion.Copy) = 0x02
opcode_byte (Opcode.Compute Operation.Add) = 0x03
opcode_byte (Opcode.Compute Operation.Subtract) = 0x04
opcode_byte (Opcode.Compute Operation.Multiply) = 0x05
opcode_byte (Opcode.Convert Conversion.Cut) = 0x06
opcode_byte (Opcode.Convert Conversion.ZeroExtend) = 0x07
opcode_byte (Opcode.Convert Conversion.SignExtend) = 0x08
opcode_byte Opcode.Read = 0x09
opcode_byte Opcode.Write = 0x0A
opcode_byte Opcode.If = 0x0B
opcode_byte (Opcode.Close Mark.Else) = 0x0C
opcode_byte (Opcode.Close Mark.EndIf) = 0x0D
opcode_byte (Opcode.Compute Operation.Quotient) = 0x0E
opcode_byte (Opcode.Compute Operation.Remainder) = 0x0F

-- the byte `op` is that of the opcode that it stands for, if it stands for one
module _ (op : ℕ) where
  abbrev pub Stands : Option Opcode → Type 0
  Stands None = Unit {0}
  Stands (Some o) = op ≡ opcode_byte o

  pub stands : Stands (opcode_of op)
  unfolding opcode_of
  stands =
      by_test Stands (eqb op 0) _ _ (eqb-true op 0)
      (by_test Stands (eqb op 1) _ _ (eqb-true op 1)
      (by_test Stands (eqb op 2) _ _ (eqb-true op 2)
      (by_test Stands (eqb op 3) _ _ (eqb-true op 3)
      (by_test Stands (eqb op 4) _ _ (eqb-true op 4)
      (by_test Stands (eqb op 5) _ _ (eqb-true op 5)
      (by_test Stands (eqb op 6) _ _ (eqb-true op 6)
      (by_test Stands (eqb op 7) _ _ (eqb-true op 7)
      (by_test Stands (eqb op 8) _ _ (eqb-true op 8)
      (by_test Stands (eqb op 9) _ _ (eqb-true op 9)
      (by_test Stands (eqb op 10) _ _ (eqb-true op 10)
      (by_test Stands (eqb op 11) _ _ (eqb-true op 11)
      (by_test Stands (eqb op 12) _ _ (eqb-true op 12)
      (by_test Stands (eqb op 13) _ _ (eqb-true op 13)
      (by_test Stands (eqb op 14) _ _ (eqb-true op 14)
      (by_test Stands (eqb op 15) _ _ (eqb-true op 15) tt)))))))))))))))

  pub has_byte : (o : Opcode) → opcode_of op ≡ Some o → op ≡ opcode_byte o
  has_byte o e = subst Stands e stands

  -- it stands for one conversion at most
  pub converts_alone : (a k : Conversion) → opcode_of op ≡ Some (Opcode.Convert a) → (Some a ≡ Some k) ↔ (opcode_of op ≡ Some (Opcode.Convert k))
  converts_alone a k is = (λ e. cc, λ e. cc)

  -- and for none where it is none of the four bytes
  pub converts_not : (op ≡ 2 → ⊥) → (op ≡ 6 → ⊥) → (op ≡ 7 → ⊥) → (op ≡ 8 → ⊥) → (k : Conversion)
      → (◌≡◌ {A = Option Conversion} None (Some k)) ↔ (opcode_of op ≡ Some (Opcode.Convert k))
  converts_not a b c d k = (λ e. cc, λ e. absurd (other k (has_byte (Opcode.Convert k) e)))
    where
      other : (k : Conversion) → op ≡ opcode_byte (Opcode.Convert k) → ⊥
      other Conversion.Copy = a
      other Conversion.Cut = b
      other Conversion.ZeroExtend = c
      other Conversion.SignExtend = d
