-- The translation of a command that is no if.
use Rattle.std.specs.Prelude.{ℕ, ◌+◌, List, [], ◌++◌, cond, length, eqb}
use Rattle.routine_header.specs.Header.{width, array_size}
use Rattle.routine_command.specs.Command.{touches}
use Rattle.routine_faults.specs.Step.{accesses}
use Rattle.routine_faults.specs.Inputs.{input_number}
use Rattle.routine_header.specs.declared.Header.{Header}
use Rattle.routine_faults.specs.declared.Counts.{Counts}
use Rattle.routine_command.specs.declared.Conversion.{Conversion}
use Rattle.routine_command.specs.declared.Operation.{Operation}
use Rattle.routine_command.specs.declared.Simple.{Simple}
use Rattle.routine_command.specs.declared.Touch.{Touch}
use Rattle.netlist.specs.declared.Node.{Node}
use Rattle.arithmetic.specs.Extend.{const_bit}
use Rattle.arithmetic.specs.Input.{inputs, in_bit}
use Rattle.lead.specs.declared.Target.{Target}
use Rattle.arithmetic.specs.Circuit.{Predicate, Number}
use Rattle.translation_access.specs.Index.{passing, claim}
use Rattle.translation_state.specs.Wires.{Wires, bits_of, with_bits, arriving, claiming}
use Rattle.translation_command.specs.Operation.{conversion, computation}

-- the encoding of some commands: the nodes that it makes, and the wires that it leaves
pub record Encoding : Type 0 where
  pub nodes : List Node
  pub wires : Wires

-- these nodes first
abbrev pub nodes_then : List Node → Encoding → Encoding
nodes_then ns x = record { nodes = ns ++ x.nodes; wires = x.wires }

-- no nodes
abbrev pub still : Wires → Encoding
still s = record { nodes = []; wires = s }

-- the named access makes the claim
abbrev pub claimed : List ℕ → Header → Target → (g array i : ℕ) → Wires → Encoding
claimed bs h t g array i s =
    let x : Predicate = claim t.side g (bits_of bs s i) (array_size bs h array) (width bs i) in
    record { nodes = x.nodes; wires = claiming s x.lit }

-- another access leaves another arrival
abbrev pub passed : List ℕ → Header → (g array i : ℕ) → Wires → Encoding
passed bs h g array i s =
    let x : Predicate = passing g (bits_of bs s i) (array_size bs h array) (width bs i) s.arrival in
    record { nodes = x.nodes; wires = arriving s x.lit }

-- an access, of the number that the counts before it give; after one that is not named goes on
abbrev pub access : List ℕ → Header → Target → (g array i : ℕ) → Counts → Wires → (ℕ → Wires → Encoding) → Encoding
access bs h t g array i k s go =
    let x : Encoding = passed bs h g array i s in
    cond (eqb (accesses k) t.access) (claimed bs h t g array i s) (nodes_then x.nodes (go (g + length x.nodes) x.wires))

-- the bits of a read take the next variables: they are those of the input word of its number
abbrev pub read_into : List ℕ → Header → (d : ℕ) → Counts → (g : ℕ) → Wires → Encoding
read_into bs h d k g s = record { nodes = inputs (input_number h k) (width bs d); wires = with_bits bs s d (in_bit g) }

-- what a command touches comes first
abbrev pub access_first : List ℕ → Header → Target → (g : ℕ) → Touch → Counts → Wires → (ℕ → Wires → Encoding) → Encoding
access_first bs h t g Touch.Nothing k s go = go g s
access_first bs h t g (Touch.Reads d array i) k s go = access bs h t g array i k s go
access_first bs h t g (Touch.Writes array i) k s go = access bs h t g array i k s go

-- the bits that a command gives to a variable, the next variable of the netlist being g; a write gives none
abbrev pub bits_given : List ℕ → Header → Simple Conversion Operation → Counts → (g : ℕ) → Wires → Encoding
bits_given bs h (Simple.Set d c) k g s = still (with_bits bs s d (const_bit c))
bits_given bs h (Simple.Convert op d a) k g s = still (with_bits bs s d (conversion op (bits_of bs s a) (width bs a)))
bits_given bs h (Simple.Compute op d a b) k g s =
    let x : Number = computation op g (bits_of bs s a) (bits_of bs s b) (width bs d) in
    record { nodes = x.nodes; wires = with_bits bs s d x.bits }
bits_given bs h (Simple.Read d array i) k g s = read_into bs h d k g s
bits_given bs h (Simple.Write array i a) k g s = still s

-- a command that is no if, the next variable being g
unfoldable pub simple : List ℕ → Header → Target → (g : ℕ) → Simple Conversion Operation → Counts → Wires → Encoding
simple bs h t g c k s = access_first bs h t g (touches c) k s (bits_given bs h c k)
