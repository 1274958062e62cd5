-- Note 4's law: a variable begins with what the last pick left in it, and that may be any word.
use Rattle.std.specs.Prelude.{ℕ, ◌^◌, ◌<◌, ◌≡◌, List, set, Ok}
use Rattle.slices.specs.Bytes.{entry}
use Rattle.routine.specs.Routine.{Arm}
use Rattle.routine.specs.Decode.{routine, decode}
use Rattle.routine_header.specs.Header.{width}
use Rattle.routine_header.specs.declared.Header.{Header}
use Rattle.routine_faults.specs.Inputs.{given}
use Rattle.routine_faults.specs.declared.Counts.{Counts}
use Rattle.run_inputs.specs.Inputs.{listed}
use Rattle.run_state.specs.State.{initial, value}

-- of a routine: each variable, parameter or not, begins with its own word; and an accepted input list with any other word of its width in that place is
-- accepted too
pub record FromAny (bs : List ℕ) (h : Header) (a : Arm) (k : Counts) : Type 0 where
  pub begins : (ins : List ℕ) (v : ℕ) → v < h.variables → value (initial ins (given h)) v ≡ entry ins v
  pub accepts : (ins : List ℕ) → listed bs ins h a k ≡ Ok tt → (v x : ℕ) → v < h.variables → x < 2 ^ width bs v
      → listed bs (set ins v x) h a k ≡ Ok tt

-- whatever routine the bytes are, its runs begin with any leftovers
pub record AnyLeftovers (bs : List ℕ) : Type 0 where
  pub holds : (h : Header) (a : Arm) (k : Counts) → decode bs ≡ routine h a k → FromAny bs h a k
