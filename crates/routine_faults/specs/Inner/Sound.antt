-- What the rules for headers and operands leave: what a walker over an accepted routine may count on.
use Rattle.std.specs.Prelude.{ℕ, ◌<◌, ◌≤◌, ◌≡◌, true, List, length, eqb}
use Rattle.slices.specs.Bytes.{entry}
use Rattle.routine_header.specs.Header.{first_command, width, array_size}
use Rattle.routine_faults.specs.Step.{in_range, widths_fit, condition_in_range}
use Rattle.routine_header.specs.declared.Header.{Header}
use Rattle.routine_command.specs.declared.Condition.{Condition}
use Rattle.routine_command.specs.declared.Conversion.{Conversion}
use Rattle.routine_command.specs.declared.Operation.{Operation}
use Rattle.routine_command.specs.declared.Simple.{Simple}

-- a command's operands passed 4 and 5
pub record Sound (bs : List ℕ) (h : Header) (c : Simple Conversion Operation) : Type 0 where
  pub ranges : in_range bs h c ≡ true
  pub widths : widths_fit bs c ≡ true

-- an if's relation and operands passed 4 and 5
pub record SoundIf (bs : List ℕ) (h : Header) (c : Condition) : Type 0 where
  pub ranges : condition_in_range h c ≡ true
  pub widths : eqb (width bs c.s) (width bs c.t) ≡ true

-- what an accepted header tells
pub record Fine (bs : List ℕ) (h : Header) : Type 0 where
  pub variables : h.variables ≡ entry bs 1
  pub some : 1 ≤ h.variables
  pub few : h.variables ≤ 32
  pub parameters : h.parameters ≤ h.variables
  pub arrays : h.arrays ≤ 16
  pub whole : first_command h ≤ length bs
  pub widths : (v : ℕ) → v < h.variables → (1 ≤ width bs v) × (width bs v ≤ 32)
  pub sizes : (a : ℕ) → a < h.arrays → (1 ≤ array_size bs h a) × (array_size bs h a ≤ 4096)
