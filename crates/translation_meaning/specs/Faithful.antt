-- Demand 2: what the translation of an accepted claim says of every run.
use Rattle.std.specs.Prelude.{ℕ, ◌+◌, ◌≡◌, ◌↔◌, List, true, length, Some, Ok}
use Rattle.slices.specs.Bytes.{entry}
use Rattle.bitvec.specs.declared.Whole.{Whole}
use Rattle.routine_header.specs.Header.{array_size}
use Rattle.routine.specs.Routine.{Arm}
use Rattle.routine.specs.Access.{ifs_before}
use Rattle.routine_header.specs.declared.Header.{Header}
use Rattle.routine_faults.specs.declared.Counts.{Counts}
use Rattle.run_inputs.specs.Inputs.{listed}
use Rattle.run_state.specs.Side.{is_on}
use Rattle.run_state.specs.State.{lies}
use Rattle.run_state.specs.Run.{run_of}
use Rattle.run_state.specs.Goes.{goes_way, Comes, Reaches}
use Rattle.arithmetic.specs.Input.{bits_of_word}
use Rattle.netlist.specs.Node.{netlist_clauses}
use Rattle.cnf.specs.Meaning.{Assign, lit, sat}
use Rattle.netlist.specs.Meaning.{Inputs, Extends, Agree}
use Rattle.translation_command.specs.Command.{Encoding}
use Rattle.translation_meaning.specs.Translation.{translation_of}
use Rattle.lead.specs.Lead.{translates, claim_admission}
use Rattle.lead.specs.declared.Target.{Target}

-- the bits of an input list: word n, bit j
abbrev pub bits_of_list : List ℕ → Inputs
bits_of_list ins n = bits_of_word (entry ins n)

-- the assignment extends the input list and satisfies the clauses before the last two
pub record Solves (ins : List ℕ) (x : Encoding) (ρ : Assign) : Type 0 where
  pub satisfies : sat ρ (netlist_clauses 1 x.nodes) ≡ true
  pub extends : Extends (bits_of_list ins) ρ 1 x.nodes

-- For each accepted input list just one assignment, on the variables, extends it and satisfies the clauses before the last two. There the arrival literal
-- is true exactly when the run goes the way of the decisions and comes to the named access, and then the side literal exactly when the index lies on the side.
pub record Faithful (bs : List ℕ) (t : Target) (ds : List ℕ) (h : Header) (a : Arm) (k : Counts) : Type 0 where
  pub arrival : ℕ
  pub side : ℕ
  pub claims : (translation_of bs t ds h a).wires.claim ≡ Some (record { arrival = arrival; side = side })
  pub solution : (ins : List ℕ) → listed bs ins h a k ≡ Ok tt → Assign
  pub solves : (ins : List ℕ) (e : listed bs ins h a k ≡ Ok tt) → Solves ins (translation_of bs t ds h a) (solution ins e)
  pub only : (ins : List ℕ) → listed bs ins h a k ≡ Ok tt → (ρ σ : Assign) → Solves ins (translation_of bs t ds h a) ρ → Solves ins (translation_of bs t ds h a) σ
      → Agree ρ σ (1 + length (translation_of bs t ds h a).nodes)
  pub arrives : (ins : List ℕ) → listed bs ins h a k ≡ Ok tt → (ρ : Assign) → Solves ins (translation_of bs t ds h a) ρ
      → (lit ρ arrival ≡ true) ↔ Reaches ds t.access (ifs_before a t.access) (run_of bs ins h a).events
  pub lies : (ins : List ℕ) → listed bs ins h a k ≡ Ok tt → (ρ : Assign) → Solves ins (translation_of bs t ds h a) ρ
      → goes_way ds (ifs_before a t.access) (run_of bs ins h a).events ≡ true → (array : ℕ) (index : Whole) → Comes t.access array index (run_of bs ins h a).events
      → (lit ρ side ≡ true) ↔ (is_on t.side (lies (array_size bs h array) index) ≡ true)

-- The translation of every claim that is admitted is faithful, whether or not it fits in the buffers. An accepted input list has a word for every
-- variable, parameter or not, and so this is said of runs from any leftovers (note 4).
pub record Demand2 (bs : List ℕ) (t : Target) (ds : List ℕ) : Type 0 where
  pub holds : (h : Header) (a : Arm) (k : Counts) → claim_admission bs t ds ≡ translates h a k → Faithful bs t ds h a k
