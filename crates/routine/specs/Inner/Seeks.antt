-- What finding an access tells: of whatever tree was decoded.
use Rattle.std.specs.Prelude.{ℕ, ◌≡◌, List, Option}
use Rattle.routine.specs.Routine.{Arm}
use Rattle.routine.specs.Decode.{decode, routine}
use Rattle.routine.specs.Access.{access_at}
use Rattle.routine_header.specs.declared.Header.{Header}
use Rattle.routine_faults.specs.declared.Counts.{Counts}
use Rattle.routine.specs.declared.Access.{Access}

-- the access of number n
pub record Seeks (bs : List ℕ) (h : Header) (n : ℕ) (r : Option Access) : Type 0 where
  pub tells : (a : Arm) (k : Counts) → decode bs ≡ routine h a k → r ≡ access_at a n
