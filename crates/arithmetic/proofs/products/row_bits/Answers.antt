use mathlib.Core.Bool.{cond}
use mathlib.Core.Path.{◌≡◌, ◌∙◌, ap}
use Prim.Native.Nat.{◌*◌, ◌+◌, ◌-◌}
use native.Mathlib.Omega.{arith}
use lib.Dec.{ltb}
use Rattle.arithmetic.proofs.Laws.{tabulate_cong}
use Rattle.arithmetic.specs.Bits.{places}
use Rattle.arithmetic.proofs.products.row_bits.Goals as goal

pub returns : goal.returns
returns c =
    c.rising.ensures
    ∙ tabulate_cong _ _ places (λ j. let e : 2 * c.args.g + 2 * (j - c.args.k) ≡ 2 * (c.args.g + (j - c.args.k)) = omega arith in ap (cond (ltb j c.args.k) 3) e)
