-- A run goes the way of the decisions as far as they matter, and comes to an access.
use Rattle.std.specs.Prelude.{ℕ, ◌≡◌, List, [], ◌∷◌, ◌++◌, Bool, true, ◌&&◌}
use Rattle.bitvec.specs.declared.Whole.{Whole}
use Rattle.run_state.specs.Run.{Event, took, came}
use Rattle.run_state.specs.Course.{keeps}

-- at every if that the run comes to and that stands before the access, before which `before` ifs stand, it takes the decided arm, if one is decided
unfoldable pub goes_way : (ds : List ℕ) → (before : ℕ) → List Event → Bool
goes_way ds before [] = true
goes_way ds before (took number arm ∷ es) = keeps ds before number arm && goes_way ds before es
goes_way ds before (came number array index ∷ es) = goes_way ds before es

-- the run comes to the access, in an array, with an index
pub record Comes (access array : ℕ) (index : Whole) (es : List Event) : Type 0 where
  pub before : List Event
  pub after : List Event
  pub there : es ≡ before ++ came access array index ∷ after

-- the run goes the way, and comes to the access in some array, with some index
pub record Reaches (ds : List ℕ) (access before : ℕ) (es : List Event) : Type 0 where
  pub array : ℕ
  pub index : Whole
  pub goes : goes_way ds before es ≡ true
  pub comes : Comes access array index es
