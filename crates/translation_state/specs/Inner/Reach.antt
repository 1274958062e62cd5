-- The wires, from the lent literals and what is carried beside them.
use Rattle.std.specs.Prelude.{ℕ, List}
use Rattle.translation_state.specs.declared.Reach.{Reach}
use Rattle.translation_state.specs.Wires.{Wires}

-- the wires, from the lent literals and what is carried beside them
abbrev pub wires_of : (lits : List ℕ) → Reach → Wires
wires_of lits s = record { lits = lits; arrival = s.arrival; claim = s.claim }

-- another arrival, beside the literals
abbrev pub reaching : Reach → (arrival : ℕ) → Reach
reaching s arrival = record { arrival = arrival; claim = s.claim }
