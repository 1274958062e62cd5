use mathlib.Core.Path.{refl}
use native.Mathlib.Omega.{arith}
use lib.ListN.{length, take}
use Rattle.arithmetic.proofs.Laws.{sized-bits}
use Rattle.arithmetic.proofs.Product.{added_written}
use Rattle.arithmetic.specs.Bits.{lit_at}
use Rattle.arithmetic.proofs.products.write_added.Goals as goal

pub returns : goal.returns
returns c =
    let w = length c.args.s.now in
    added_written c.args.first (lit_at c.args.s.now) (lit_at c.args.acc.now) (lit_at (take w c.row_bits-bits.result)) c.args.t w c.args.k
    c.write_row.ensures (rw c.requires.acc_len at c.write_sum.ensures) refl refl refl
    (sized-bits _ c.row_bits-bits.ensures w (omega (arith, c.requires.k_in_bounds.1)))
