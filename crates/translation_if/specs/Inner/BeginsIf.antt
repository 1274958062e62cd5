-- What beginning an if tells.
use Rattle.std.specs.Prelude.{ℕ, ◌+◌, ◌≡◌, List, ◌++◌, length}
use Rattle.routine_command.specs.declared.Condition.{Condition}
use Rattle.netlist.specs.Inner.Emit.{Emitted}
use Rattle.netlist.specs.declared.Net.{Net}
use Rattle.translation_state.specs.Wires.{Wires}
use Rattle.translation_if.specs.If.{Arrivals, condition_of, arrivals}
use Rattle.translation_if.specs.declared.IfBegun.{IfBegun}

-- the arrivals after the condition
abbrev pub arrivals_at : (bs : List ℕ) → (g : ℕ) → Condition → (d : ℕ) → Wires → Arrivals
arrivals_at bs g c d s = arrivals d (g + length (condition_of bs g c s).nodes) s.arrival (condition_of bs g c s).lit

-- the condition c of an if, and the arrivals of its arms; d is the decision
pub record BeginsIf (bs w u : List ℕ) (n : Net) (c : Condition) (d : ℕ) (s : Wires) (w₁ u₁ : List ℕ) (r : IfBegun) : Type 0 where
  pub emitted : Emitted w u n ((condition_of bs n.next c s).nodes ++ (arrivals_at bs n.next c d s).nodes) w₁ u₁ r.net
  pub condition : r.condition ≡ (condition_of bs n.next c s).lit
  pub first : r.first ≡ (arrivals_at bs n.next c d s).first
  pub second : r.second ≡ (arrivals_at bs n.next c d s).second
