-- An access: above, in and arrival, one after the other. Assumes nothing.
use mathlib.Core.List.{List, [], ◌++◌, ◌∷◌}
use mathlib.Core.Path.{◌∙◌, ◌≡◌, ap, subst}
use Prim.Native.Nat.{◌*◌, ◌+◌, ℕ}
use native.Mathlib.Omega.{arith}
use lib.ListN.{length}
use Rattle.arithmetic.specs.Bits.{Bits}
use Rattle.arithmetic.specs.Inner.Results.{Decides}
use Rattle.arithmetic.specs.declared.Test.{Test}
use Rattle.comparison.proofs.Access.{above-short}
use Rattle.comparison.specs.Access.{above}
use Rattle.translation_access.specs.Index.{passing, top}
use Rattle.netlist.proofs.Emitting.{emitted_then, ready-after}
use Rattle.netlist.specs.Inner.Emit.{Emitted, Ready}
use Rattle.netlist.specs.Literal.{opp, pos}
use Rattle.netlist.specs.declared.Net.{Net}
use Rattle.netlist.specs.declared.Node.{Node}
use Rattle.netlist.specs.declared.Node.TheVariants.{And}

module _ {w u w₁ u₁ : List ℕ} {n : Net} {o : Test} (a : Bits) (size v : ℕ) (p : Decides w u n (above n.next a size v) w₁ u₁ o) where
  pub access_made : {w₂ u₂ w₃ u₃ : List ℕ} {n₂ : Net} {r : Test} (arrival x y z : ℕ) → x ≡ opp (top a v) → y ≡ opp o.lit → z ≡ 2 * o.net.next
      → Emitted w₁ u₁ o.net (And x y ∷ []) w₂ u₂ n₂ → Emitted w₂ u₂ n₂ (And arrival z ∷ []) w₃ u₃ r.net → r.lit ≡ z + 2
      → Decides w u n (passing n.next a size v arrival) w₃ u₃ r
  unfolding passing
  access_made {w₃ = w₃} {u₃} {r = t} arrival x y z e f d q r h =
      let f₁ = f ∙ ap opp p.lit in
      let d₁ : z ≡ pos (n.next + length (above n.next a size v).nodes) = d ∙ ap pos p.emitted.next in record {
        emitted = subst (λ (ns : List Node). Emitted w u n ((above n.next a size v).nodes ++ ns) w₃ u₃ t.net) (λ i. And (e i) (f₁ i) ∷ And arrival (d₁ i) ∷ [])
            (emitted_then p.emitted (emitted_then q r));
        lit = h ∙ (omega (arith, d₁));
      }

  pub access-ready : Ready n (3 * v + 2) → Ready o.net 2
  access-ready r = ready-after 2 p.emitted r (omega (arith, above-short n.next a size v))
