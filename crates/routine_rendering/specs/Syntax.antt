-- A routine as syntax: no offsets, no counts, no bytes.
use Rattle.std.specs.Prelude.{ℕ, List}
use Rattle.routine_command.specs.declared.Conversion.{Conversion}
use Rattle.routine_command.specs.declared.Operation.{Operation}
use Rattle.routine_command.specs.declared.Simple.{Simple}
use Rattle.routine_command.specs.declared.Condition.{Condition}

-- The commands of an arm: none, a command that is no if and then the rest, or an if with its two arms and then the rest.
pub data Text : Type 0 where
  no_more : Text
  simple : Simple Conversion Operation → (rest : Text) → Text
  if_text : Condition → (first second rest : Text) → Text

-- A routine: the width of each variable, how many of them are parameters, the size of each array, and the commands.
pub record Syntax : Type 0 where
  pub widths : List ℕ
  pub parameters : ℕ
  pub sizes : List ℕ
  pub commands : Text
