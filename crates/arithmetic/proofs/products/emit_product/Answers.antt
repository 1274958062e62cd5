use mathlib.Core.Path.{◌∙◌, sym}
use Prim.Native.Nat.{◌*◌}
use native.Mathlib.Omega.{arith}
use lib.ListN.{length}
use Rattle.cnf.proofs.Appending.{lent_of}
use Rattle.netlist.proofs.Emitting.{emitted_counted, emitted-written, ready-clauses, ready_weaken}
use Rattle.netlist.proofs.Nodes.{sized-few, sized-short}
use Rattle.arithmetic.proofs.Product.{last-there, product-bits, product-short, product-sized, take_all}
use Rattle.arithmetic.specs.Bits.{lit_at}
use Rattle.arithmetic.proofs.products.emit_product.Goals as goal

pub counted-net-requires : goal.counted-net-requires
counted-net-requires c =
    let z = product-sized c.args.n.next (lit_at c.args.s.now) (lit_at c.args.t.now) (length c.args.s.now) in
    record { ready = ready_weaken (product-short (length c.args.s.now)) c.requires.ready; clauses_bound = (sized-few z, sized-short z) }

pub overflow_sub-net : goal.overflow_sub-net
overflow_sub-net c = omega (arith, c.counted-net.ensures.next, last-there (length c.args.s.now) c.requires.s_nonzero.0)

pub sum_bits-bits-requires : goal.sum_bits-bits-requires
sum_bits-bits-requires c = omega (arith, c.counted-net.ensures.next, c.requires.ready.next, product-short (length c.args.s.now))

pub write_product-requires : goal.write_product-requires
write_product-requires c =
    let w = length c.args.s.now in
    let z = product-sized c.args.n.next (lit_at c.args.s.now) (lit_at c.args.t.now) w in
    rw (← take_all 3 14 w, ← take_all 10 56 w) (record { lent = lent_of _ _ _ _ (ready-clauses (4 * w * w) c.requires.ready (omega (arith, sized-few z, product-short w)) (omega (arith, sized-short z, product-short w))) (sym c.fits.ensures ∙ c.if-fits.true); s_bound = omega (arith, take_all 1 3 w, product-short w, c.requires.ready.next); t_len = c.requires.t_len; s_len_bound = c.requires.s_nonzero.1 })

pub returns-then-fits : goal.returns-then-fits
returns-then-fits c =
    record {
      emitted = emitted-written c.write_product.ensures c.counted-net.ensures (product-sized _ _ _ _);
      bits = c.sum_bits-bits.ensures ∙ product-bits c.args.n.next _ (length c.args.s.now) c.requires.s_nonzero.0 c.counted-net.ensures.next;
    }

pub returns : goal.returns
returns c =
    record {
      emitted = emitted_counted _ _ (sym c.fits.ensures ∙ c.if-fits.false) c.counted-net.ensures (product-sized _ _ _ _);
      bits = c.sum_bits-bits.ensures ∙ product-bits c.args.n.next _ (length c.args.s.now) c.requires.s_nonzero.0 c.counted-net.ensures.next;
    }
