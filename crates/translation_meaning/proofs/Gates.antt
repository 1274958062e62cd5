-- The gates of arrival: what their literals say, by the models of the nodes that make them. Assumes nothing.
use mathlib.Core.Path.{◌≡◌, refl, sym, ap, ap₂, subst, ◌∙◌}
use mathlib.Core.List.{List, [], ◌∷◌, ◌++◌}
use mathlib.Core.Bool.{Bool, true, false, cond, not, ◌&&◌, ◌||◌}
use Prim.Native.Nat.{ℕ, ◌+◌}
use native.Mathlib.Nat.{add_assoc}
use native.Mathlib.Numerals.{add-one}
use lib.ListN.{length, length-append}
use lib.Dec.{eqb}
use Rattle.routine_header.specs.declared.Header.{Header}
use Rattle.netlist.specs.Literal.{opp, pos}
use Rattle.netlist.specs.declared.Node.{Node}
use Rattle.netlist.specs.declared.Node.TheVariants.{And}
use Rattle.cnf.specs.Meaning.{Assign, lit}
use Rattle.netlist.specs.Meaning.{Inputs}
use Rattle.netlist.specs.Inner.Value.{node_val}
use Rattle.netlist.proofs.Literals.{lit-pos, lit-neg, lit-opp, lit_false}
use Rattle.netlist.proofs.Truth.{Models, models_append}
use Rattle.arithmetic.specs.Bits.{Bits}
use Rattle.comparison.specs.Access.{above}
use Rattle.translation_access.specs.Index.{top, passing}
use Rattle.translation_state.specs.Wires.{Wires}
use Rattle.translation_if.specs.If.{arm_arrival, arrivals, join_groups, join_arms}

module _ (ins : Inputs) (ρ : Assign) where
  -- three encodings one after the other
  pub models_three : (g : ℕ) (a b c : List Node) → Models ins ρ g ((a ++ b) ++ c)
      → Models ins ρ g a × Models ins ρ (g + length a) b × Models ins ρ (g + length a + length b) c
  models_three g a b c m =
      let p = models_append ins ρ g (a ++ b) c m in
      let q = models_append ins ρ g a b p.0 in
      let e : g + length (a ++ b) ≡ g + length a + length b = ap (λ (n : ℕ). g + n) (length-append a b) ∙ sym (add_assoc g (length a) (length b)) in
      (q.0, q.1, subst (λ (n : ℕ). Models ins ρ n c) e p.1)

  -- arrival after an access that is not the named one: arrived, not below and not above
  pub access-lit : (g : ℕ) (a : Bits) (size w arrival : ℕ) → Models ins ρ g (passing g a size w arrival).nodes
      → lit ρ (passing g a size w arrival).lit ≡ (lit ρ arrival && (not (lit ρ (top a w)) && not (lit ρ (above g a size w).lit)))
  unfolding passing node_val
  access-lit g a size w arrival m =
      let v : ℕ = g + length (above g a size w).nodes in
      let p = models_append ins ρ g (above g a size w).nodes (And (opp (top a w)) (opp (above g a size w).lit) ∷ And arrival (pos v) ∷ []) m in
      let q : ρ v ≡ (not (lit ρ (top a w)) && not (lit ρ (above g a size w).lit)) =
      p.1.0 ∙ ap₂ (λ (x y : Bool). x && y) (lit-opp ρ (top a w)) (lit-opp ρ (above g a size w).lit) in
      lit-pos ρ (v + 1) ∙ ap ρ (add-one v) ∙ p.1.1.0 ∙ ap (λ (x : Bool). lit ρ arrival && x) (lit-pos ρ v ∙ q)

  -- the gates of an access come first, and then what is above
  pub access-above : (g : ℕ) (a : Bits) (size w arrival : ℕ) → Models ins ρ g (passing g a size w arrival).nodes → Models ins ρ g (above g a size w).nodes
  unfolding passing
  access-above g a size w arrival m = (models_append ins ρ g (above g a size w).nodes _ m).0

  module _ (o : ρ 1 ≡ true) where
    -- the arrival of one arm
    arm-lit : (other : Bool) (g arrival c : ℕ) → Models ins ρ g (arm_arrival other g arrival c).nodes
        → lit ρ (arm_arrival other g arrival c).lit ≡ cond other false (lit ρ arrival && lit ρ c)
    unfolding node_val
    arm-lit true g arrival c m = lit_false ρ o
    arm-lit false g arrival c m = lit-pos ρ g ∙ m.0

    module _ (d g arrival c : ℕ) (m : Models ins ρ g (arrivals d g arrival c).nodes) where
      -- the first arm is come to where the condition holds, unless the else was decided
      pub first-lit : lit ρ (arrivals d g arrival c).first ≡ cond (eqb d 1) false (lit ρ arrival && lit ρ c)
      first-lit = arm-lit (eqb d 1) g arrival c (models_append ins ρ g (arm_arrival (eqb d 1) g arrival c).nodes _ m).0

      -- the else where it does not, unless the first arm was decided
      pub else-lit : lit ρ (arrivals d g arrival c).second ≡ cond (eqb d 0) false (lit ρ arrival && not (lit ρ c))
      else-lit =
          arm-lit (eqb d 0) (g + length (arm_arrival (eqb d 1) g arrival c).nodes) arrival (opp c) (models_append ins ρ g (arm_arrival (eqb d 1) g arrival c).nodes _ m).1
          ∙ ap (λ (x : Bool). cond (eqb d 0) false (lit ρ arrival && x)) (lit-opp ρ c)

  neither : (a b : Bool) → not (not a && not b) ≡ (a || b)
  neither true b = refl
  neither false true = refl
  neither false false = refl

  module _ (bs : List ℕ) (h : Header) (g c : ℕ) (x y : Wires) where
    -- an if is left where one of its arms is
    pub joined_lit : Models ins ρ g (join_arms bs h g c x y).nodes → lit ρ (join_arms bs h g c x y).wires.arrival ≡ (lit ρ x.arrival || lit ρ y.arrival)
    unfolding join_arms node_val
    joined_lit m =
        let v : ℕ = g + length (join_groups bs g c x.lits y.lits h.variables).nodes in
        let p = models_append ins ρ g (join_groups bs g c x.lits y.lits h.variables).nodes (And (opp x.arrival) (opp y.arrival) ∷ []) m in
        lit-neg ρ v ∙ ap not (p.1.0 ∙ ap₂ (λ (a b : Bool). a && b) (lit-opp ρ x.arrival) (lit-opp ρ y.arrival))
        ∙ neither (lit ρ x.arrival) (lit ρ y.arrival)

    pub joined_gates : Models ins ρ g (join_arms bs h g c x y).nodes → Models ins ρ g (join_groups bs g c x.lits y.lits h.variables).nodes
    unfolding join_arms
    joined_gates m = (models_append ins ρ g (join_groups bs g c x.lits y.lits h.variables).nodes (And (opp x.arrival) (opp y.arrival) ∷ []) m).0
