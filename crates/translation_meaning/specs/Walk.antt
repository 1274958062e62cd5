-- The translation of an arm: commands one after the other, and ifs, whose arms are joined.
use Rattle.std.specs.Prelude.{ℕ, ◌+◌, List, ◌++◌, cond, length}
use Rattle.slices.specs.Bytes.{entry}
use Rattle.routine_header.specs.declared.Header.{Header}
use Rattle.routine_command.specs.declared.Condition.{Condition}
use Rattle.routine.specs.Routine.{Arm, done, plain, if_else}
use Rattle.arithmetic.specs.Circuit.{Predicate}
use Rattle.translation_state.specs.Wires.{Wires, arriving, is_made}
use Rattle.translation_command.specs.Command.{Encoding, nodes_then, still, simple}
use Rattle.translation_if.specs.If.{Arrivals, condition_of, arrivals, join_arms}
use Rattle.lead.specs.declared.Target.{Target}

-- goes on after an encoding whose first variable is g, unless the claim was made in it
abbrev pub encode_on : (g : ℕ) → Encoding → (ℕ → Wires → Encoding) → Encoding
encode_on g x go = cond (is_made x.wires.claim) x (nodes_then x.nodes (go (g + length x.nodes) x.wires))

-- an if: its condition and the arms' arrivals, the first arm, the else from the bits at the if, and the end; d is the decision
abbrev pub encode_if : List ℕ → Header → (d g : ℕ) → Condition → Wires → (first second : ℕ → Wires → Encoding) → Encoding
encode_if bs h d g c s first second =
    let x : Predicate = condition_of bs g c s in
    let g₁ : ℕ = g + length x.nodes in
    let a : Arrivals = arrivals d g₁ s.arrival x.lit in
    let g₂ : ℕ = g₁ + length a.nodes in
    nodes_then (x.nodes ++ a.nodes)
    (encode_on g₂ (first g₂ (arriving s a.first)) (λ g₃ y.
    encode_on g₃ (second g₃ (arriving s a.second)) (λ g₄ z.
    join_arms bs h g₄ x.lit y z)))

-- an arm, from the next variable g and the wires s on
unfoldable pub encode_arm : List ℕ → Header → Target → (ds : List ℕ) → Arm → (g : ℕ) → Wires → Encoding
encode_arm bs h t ds done g s = still s
encode_arm bs h t ds (plain at c k rest) g s = encode_on g (simple bs h t g c k s) (encode_arm bs h t ds rest)
encode_arm bs h t ds (if_else at c k first second rest) g s =
    encode_on g (encode_if bs h (entry ds k.ifs) g c s (encode_arm bs h t ds first) (encode_arm bs h t ds second)) (encode_arm bs h t ds rest)
