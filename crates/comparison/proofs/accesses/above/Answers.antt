use mathlib.Core.Path.{ap, refl}
use native.Mathlib.Omega.{arith}
use lib.ListN.{length, take}
use borrow.Author.Tests.{le-ltb, lt-ltb}
use Rattle.arithmetic.proofs.Laws.{sized-bits}
use Rattle.arithmetic.specs.Bits.{lit_at}
use Rattle.arithmetic.specs.Circuit.{opposite}
use Rattle.arithmetic.specs.Extend.{const_bit}
use Rattle.comparison.proofs.Compare.{decides_as, signed_cong}
use Rattle.netlist.proofs.Emitting.{emitted-none}
use Rattle.comparison.proofs.accesses.above.Goals as goal

pub returns-then-high-gt0 : goal.returns-then-high-gt0
returns-then-high-gt0 c = simp (lt-ltb _ _ c.if-high-gt0.true) (record { emitted = emitted-none _ _ _; lit = refl })

pub returns : goal.returns
returns c =
    let w = length c.args.index.now in
    simp (le-ltb _ _ c.if-high-gt0.false)
    (decides_as (ap opposite (signed_cong c.args.n.next (lit_at c.args.index.now) (lit_at (take w c.const_bits-bits.result)) (const_bit c.args.size) w (sized-bits _ c.const_bits-bits.ensures w (omega (arith, c.requires.index_nonzero))))) c.at_least_signed.ensures)
