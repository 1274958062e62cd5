-- That an arm stands at an offset of the bytes of an accepted routine: what a walker over the same bytes asks and tells.
use Rattle.std.specs.Prelude.{ℕ, ◌+◌, ◌<◌, ◌≡◌, List}
use Rattle.routine.specs.Routine.{Arm, parsed, arm}
use Rattle.routine_header.specs.declared.Header.{Header}
use Rattle.routine_faults.specs.declared.Counts.{Counts}
use Rattle.routine_command.specs.declared.Mark.{Mark}

-- the arm a, inside `depth` ifs and ended by the mark `close`, stands from `at` up to `end`; the counts before it are k, and after it k₁
pub record Stands (bs : List ℕ) (h : Header) (depth : ℕ) (close : Mark) (at : ℕ) (k : Counts) (a : Arm) (end : ℕ) (k₁ : Counts) : Type 0 where
  pub reads : arm bs h depth close at k ≡ parsed a end k₁

-- some arm stands from `at` on
pub record SomeArm (bs : List ℕ) (h : Header) (depth : ℕ) (close : Mark) (at : ℕ) (k : Counts) : Type 0 where
  pub arm : Arm
  pub end : ℕ
  pub after : Counts
  pub stands : Stands bs h depth close at k arm end after

-- two arms stand after the if at `at`, the counts before them being k
pub record SomeIf (bs : List ℕ) (h : Header) (depth at : ℕ) (k : Counts) : Type 0 where
  pub shallow : depth < 8
  pub first : Arm
  pub else : ℕ
  pub between : Counts
  pub second : Arm
  pub end : ℕ
  pub after : Counts
  pub stands-first : Stands bs h (depth + 1) Mark.Else (at + 4) k first else between
  pub stands-second : Stands bs h (depth + 1) Mark.EndIf else between second end after
