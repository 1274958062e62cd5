-- Indexes at accesses: what an access makes of arrival, and the literal of the side at the named one, the next variable being g.
use Rattle.std.specs.Prelude.{cond, [], ◌++◌, ◌∷◌, ◌+◌, ◌-◌, ℕ, eqb, length}
use Rattle.arithmetic.specs.Bits.{Bits}
use Rattle.arithmetic.specs.Circuit.{Predicate, never}
use Rattle.comparison.specs.Access.{above}
use Rattle.netlist.specs.Literal.{opp, pos}
use Rattle.netlist.specs.declared.Node.TheVariants.{And}

-- the highest bit
abbrev pub top : Bits → (w : ℕ) → ℕ
top a w = a (w - 1)

-- an access that is not the named one, index a against a size: above, then in = AND(-top bit,-above), then arrival = AND(arrival,in)
unfoldable pub passing : (g : ℕ) → (a : Bits) → (size w arrival : ℕ) → Predicate
passing g a size w arrival =
    let x : Predicate = above g a size w in
    let v : ℕ = g + length x.nodes in
    record { nodes = x.nodes ++ (And (opp (top a w)) (opp x.lit) ∷ And arrival (pos v) ∷ []); lit = pos (v + 1) }

-- the literal of the side at the named access: the top bit for side 0, above for side 1
unfoldable pub claim : (side g : ℕ) → (a : Bits) → (size w : ℕ) → Predicate
claim side g a size w =
    cond (eqb side 0) (record { nodes = []; lit = top a w })
    (cond (eqb side 1) (above g a size w)
    never)
