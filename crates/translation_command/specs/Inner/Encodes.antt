-- What encoding a command and the end of an if tells.
use Rattle.std.specs.Prelude.{ℕ, ◌≡◌, List, cond, eqb}
use Rattle.routine_header.specs.declared.Header.{Header}
use Rattle.routine_faults.specs.Step.{accesses}
use Rattle.routine_faults.specs.declared.Counts.{Counts}
use Rattle.netlist.specs.Inner.Emit.{Emitted}
use Rattle.netlist.specs.declared.Net.{Net}
use Rattle.translation_state.specs.Wires.{Wires}
use Rattle.translation_state.specs.Inner.Reach.{wires_of}
use Rattle.translation_command.specs.Command.{Encoding, claimed, passed}
use Rattle.lead.specs.declared.Target.{Target}
use Rattle.translation_command.specs.declared.Encoded.{Encoded}

-- the buffers w and u became w₁ and u₁ by the encoding x, and the literals became l₁
pub record Encodes (w u : List ℕ) (n : Net) (x : Encoding) (w₁ u₁ l₁ : List ℕ) (r : Encoded) : Type 0 where
  pub emitted : Emitted w u n x.nodes w₁ u₁ r.net
  pub wires : wires_of l₁ r.reach ≡ x.wires

-- an access by itself
abbrev pub access_of : List ℕ → Header → Target → (g array i : ℕ) → Counts → Wires → Encoding
access_of bs h t g array i k s = cond (eqb (accesses k) t.access) (claimed bs h t g array i s) (passed bs h g array i s)
