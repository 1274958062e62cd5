-- The translation of a routine, whole: its netlist, the claim, and the clauses.
use Rattle.std.specs.Prelude.{ℕ, zero, suc, ◌+◌, List, [], ◌∷◌, ◌++◌, length, replicate, Option, None, Some}
use Rattle.routine_header.specs.Header.{width}
use Rattle.routine.specs.Routine.{Arm}
use Rattle.routine_header.specs.declared.Header.{Header}
use Rattle.cnf.specs.Clause.{Clause, flatten}
use Rattle.routine_faults.specs.Inputs.{given}
use Rattle.netlist.specs.Literal.{opp}
use Rattle.netlist.specs.declared.Node.{Node}
use Rattle.netlist.specs.declared.Node.TheVariants.{One}
use Rattle.netlist.specs.Node.{netlist_clauses}
use Rattle.arithmetic.specs.Input.{inputs, in_bit}
use Rattle.translation_state.specs.Wires.{Wires, all_places, bits_set}
use Rattle.translation_command.specs.Command.{Encoding, nodes_then}
use Rattle.translation_meaning.specs.Walk.{encode_arm}
use Rattle.translation_state.specs.declared.Claim.{Claim}
use Rattle.translation_meaning.specs.declared.Size.{Size}
use Rattle.lead.specs.declared.Target.{Target}

-- what the first n variables of the routine begin with: their bits take the next variables of the clauses, those of variable 0 first
unfoldable pub given_nodes : List ℕ → (n : ℕ) → List Node
given_nodes bs zero = []
given_nodes bs (suc p) = given_nodes bs p ++ inputs p (width bs p)

-- their literals, in so many places; 3 stands where no bit is
unfoldable pub given_lits : List ℕ → (places n : ℕ) → List ℕ
given_lits bs m zero = replicate m 3
given_lits bs m (suc p) = bits_set bs (given_lits bs m p) p (in_bit (2 + length (given_nodes bs p)))

-- the beginning: arrival is 2, and there is no claim yet
unfoldable pub initial_wires : List ℕ → Header → Wires
initial_wires bs h = record { lits = given_lits bs (all_places h) (given h); arrival = 2; claim = None }

-- variable 1 is true, then come the bits of all variables, parameters or not, then the commands
unfoldable pub translation_of : List ℕ → Target → (ds : List ℕ) → Header → Arm → Encoding
translation_of bs t ds h a =
    nodes_then (One ∷ given_nodes bs (given h))
    (encode_arm bs h t ds a (2 + length (given_nodes bs (given h))) (initial_wires bs h))

-- the last two clauses: {arrival}, {-side literal}
abbrev pub last_clauses : Option Claim → List Clause
last_clauses None = []
last_clauses (Some made) = (made.arrival ∷ []) ∷ (opp made.side ∷ []) ∷ []

-- the clauses of a translation
unfoldable pub clauses_of_all : Encoding → List Clause
clauses_of_all x = netlist_clauses 1 x.nodes ++ last_clauses x.wires.claim

-- the counts of clauses, words and variables
abbrev pub translation_size : Encoding → Size
translation_size x = record { clauses = length (clauses_of_all x); words = length (flatten (clauses_of_all x)); variables = length x.nodes }
