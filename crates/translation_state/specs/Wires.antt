-- The state of a translation: the literals of the variables' bits, a group of places for each variable, the lowest bit first; the literal of arrival; and
-- the claim, once the named access was come to.
use Rattle.std.specs.Prelude.{ℕ, ◌*◌, List, Bool, Option, Some, is_some}
use Rattle.std.proofs.lemmas.List.Edits.{sets}
use Rattle.routine_header.specs.Header.{width}
use Rattle.routine_header.specs.declared.Header.{Header}
use Rattle.arithmetic.specs.Bits.{Bits, bits_at, tabulate}
use Rattle.translation_state.specs.declared.Claim.{Claim}

-- the places of one variable
abbrev pub variable_places : ℕ
variable_places = 32

-- all places: those of the variables
abbrev pub all_places : Header → ℕ
all_places h = variable_places * h.variables

-- the first place of variable v
abbrev pub place_of : ℕ → ℕ
place_of v = variable_places * v

-- a literal for each bit of each variable, arrival, and the claim
pub record Wires : Type 0 where
  pub lits : List ℕ
  pub arrival : ℕ
  pub claim : Option Claim

-- the bits of variable v: as many places as it is wide
abbrev pub bits_in : (bs lits : List ℕ) → (v : ℕ) → Bits
bits_in bs lits v = bits_at lits (place_of v) (width bs v)

-- other bits for variable v
abbrev pub bits_set : (bs lits : List ℕ) → (v : ℕ) → Bits → List ℕ
bits_set bs lits v f = sets lits (place_of v) (tabulate f (width bs v))

-- the bits of variable v
abbrev pub bits_of : List ℕ → Wires → ℕ → Bits
bits_of bs s v = bits_in bs s.lits v

-- other bits for variable v
abbrev pub with_bits : List ℕ → Wires → ℕ → Bits → Wires
with_bits bs s v f = record { lits = bits_set bs s.lits v f; arrival = s.arrival; claim = s.claim }

-- another arrival
abbrev pub arriving : Wires → (arrival : ℕ) → Wires
arriving s arrival = record { lits = s.lits; arrival = arrival; claim = s.claim }

-- the named access was come to: arrival there, and the literal of the side
abbrev pub claiming : Wires → (side : ℕ) → Wires
claiming s side = record { lits = s.lits; arrival = s.arrival; claim = Some (record { arrival = s.arrival; side = side }) }

-- the claim was made, so that the translation is over
abbrev pub is_made : Option Claim → Bool
is_made c = is_some c
