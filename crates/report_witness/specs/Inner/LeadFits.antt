-- What the reader of a lead asks of the routine.
use Rattle.std.specs.Prelude.{◌≤◌}
use Rattle.routine_header.specs.declared.Header.{Header}
use Rattle.routine_faults.specs.Inputs.{input_count}
use Rattle.routine_faults.specs.declared.Counts.{Counts}

-- the decisions and the inputs of a lead fit its arrays
pub record LeadFits (h : Header) (k : Counts) : Type 0 where
  pub decisions : k.ifs ≤ 32
  pub inputs : input_count h k ≤ 96
