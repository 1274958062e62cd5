use mathlib.Core.Logic.{inl, inr}
use Rattle.translation_command.specs.Operation.{conversion}
use Rattle.translation_command.proofs.operations.convert.Goals as goal

pub returns-in-Copy : goal.returns-in-Copy
unfolding conversion
returns-in-Copy c =
    elim c.in-Copy.is [
      | inl e ↦ rw e c.extended.ensures
      | inr f ↦ elim f [ inl e ↦ rw e c.extended.ensures | inr e ↦ rw e c.extended.ensures ]
    ]

pub returns-in-SignExtend : goal.returns-in-SignExtend
unfolding conversion
returns-in-SignExtend c = rw c.in-SignExtend.is c.extended-in-SignExtend.ensures
