-- The ten relations by their numbers: =, ≠, <u, ≤u, >u, ≥u, <s, ≤s, >s, ≥s.
use Rattle.std.specs.Prelude.{cond, ℕ, eqb}
use Rattle.arithmetic.specs.Bits.{Bits}
use Rattle.arithmetic.specs.Circuit.{Predicate, never, opposite}
use Rattle.comparison.specs.Compare.{at_least_signed, below, below_signed, same_number}

-- relation r; there are no others
unfoldable pub relation : ℕ → ℕ → Bits → Bits → ℕ → Predicate
relation r g a b w =
    cond (eqb r 0) (same_number g a b w)
    (cond (eqb r 1) (opposite (same_number g a b w))
    (cond (eqb r 2) (below g a b w)
    (cond (eqb r 3) (opposite (below g b a w))
    (cond (eqb r 4) (below g b a w)
    (cond (eqb r 5) (opposite (below g a b w))
    (cond (eqb r 6) (below_signed g a b w)
    (cond (eqb r 7) (opposite (below_signed g b a w))
    (cond (eqb r 8) (below_signed g b a w)
    (cond (eqb r 9) (at_least_signed g a b w)
    never)))))))))
