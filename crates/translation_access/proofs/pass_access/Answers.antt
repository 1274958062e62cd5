use mathlib.Core.Path.{refl}
use native.Mathlib.Omega.{arith}
use lib.ListN.{length}
use Rattle.arithmetic.specs.Bits.{lit_at}
use Rattle.translation_access.proofs.Accessing.{access_made, access-ready}
use Rattle.netlist.proofs.Emitting.{ready-after, ready_weaken}
use Rattle.translation_access.proofs.pass_access.Goals as goal

pub overflow_mul-inside : goal.overflow_mul-inside
overflow_mul-inside c = omega (arith, (access-ready (lit_at c.args.index.now) c.args.size (length c.args.index.now) c.above-up.ensures c.requires.ready).next)

pub overflow_add-lit : goal.overflow_add-lit
overflow_add-lit c = omega (arith, (access-ready (lit_at c.args.index.now) c.args.size (length c.args.index.now) c.above-up.ensures c.requires.ready).next)

pub emit-n1-requires : goal.emit-n1-requires
emit-n1-requires c = ready_weaken (omega arith) (access-ready (lit_at c.args.index.now) c.args.size (length c.args.index.now) c.above-up.ensures c.requires.ready)

pub emit-n2-requires : goal.emit-n2-requires
emit-n2-requires c = ready-after 1 c.emit-n1.ensures (access-ready (lit_at c.args.index.now) c.args.size (length c.args.index.now) c.above-up.ensures c.requires.ready) (omega arith)

pub returns : goal.returns
returns c =
    access_made (lit_at c.args.index.now) c.args.size (length c.args.index.now) c.above-up.ensures c.args.arrival _ _ _ c.opposite-not_top.ensures c.opposite-not_above.ensures refl c.emit-n1.ensures c.emit-n2.ensures refl
