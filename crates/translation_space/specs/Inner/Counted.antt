-- What the counting of a translation that was let in tells.
use Rattle.std.specs.Prelude.{ℕ, ◌≡◌, List}
use Rattle.routine_header.specs.declared.Header.{Header}
use Rattle.routine_faults.specs.declared.Counts.{Counts}
use Rattle.routine.specs.Routine.{Arm}
use Rattle.routine.specs.Decode.{routine, decode}
use Rattle.lead.specs.declared.Target.{Target}
use Rattle.translation_meaning.specs.Translation.{translation_of, translation_size}
use Rattle.translation_meaning.specs.declared.Size.{Size}

-- the counts, of whatever was decoded
pub record ClaimCounted (bs : List ℕ) (h : Header) (t : Target) (ds : List ℕ) (r : Size) : Type 0 where
  pub size : (a : Arm) (k : Counts) → decode bs ≡ routine h a k → r ≡ translation_size (translation_of bs t ds h a)
