use mathlib.Core.Path.{◌≡◌, ◌∙◌, ap, refl}
use Prim.Native.Nat.{ℕ, ◌+◌, ◌-◌}
use native.Mathlib.Numerals.{add-one}
use native.Mathlib.Omega.{arith}
use lib.ListN.{get_or-replicate, length, take}
use Rattle.cnf.proofs.Appending.{lent-kept, lent-within, written_none}
use Rattle.netlist.specs.Node.{netlist_clauses}
use Rattle.arithmetic.proofs.Laws.{sized-bits, sized-length}
use Rattle.arithmetic.proofs.Product.{rows_written, start_is, take_more, take_within}
use Rattle.arithmetic.proofs.Values.{tabulate_ext}
use Rattle.arithmetic.specs.Adder.{sum_bit}
use Rattle.arithmetic.specs.Bits.{lit_at, places, tabulate}
use Rattle.arithmetic.specs.Inner.Rows.{rows_take}
use Rattle.arithmetic.specs.Product.{row_start, rows}
use Rattle.arithmetic.proofs.products.write_product.Goals as goal

pub loop-k-init : goal.loop-k-init
unfolding rows rows_take netlist_clauses
loop-k-init c =
    (written_none _ _ _ _, omega arith, omega arith, omega arith, tabulate_ext _ _ places refl (λ i h. get_or-replicate places i 3 0 h))

pub write_added-requires : goal.write_added-requires
write_added-requires c =
    let w = length c.args.s.now in record { lent = lent-kept c.loop-k.invariant.0 (lent-within c.requires.lent (omega (arith, c.loop-k.invariant.1, take_within 10 56 w c.loop-k.k c.loop-k-test.true)) (omega (arith, c.loop-k.invariant.2, take_within 3 14 w c.loop-k.k c.loop-k-test.true))); s_bound = omega (arith, c.loop-k.invariant.3, c.requires.s_bound, take_within 1 3 w c.loop-k.k c.loop-k-test.true); acc_len = sized-length _ c.loop-k.invariant.4 w (omega (arith, c.requires.s_len_bound)); k_in_bounds = (omega arith, c.requires.s_len_bound) }

pub overflow_add-g : goal.overflow_add-g
overflow_add-g c = omega (arith, c.loop-k.invariant.3, c.requires.s_bound, take_within 1 3 (length c.args.s.now) c.loop-k.k c.loop-k-test.true)

pub sum_bits-acc-requires : goal.sum_bits-acc-requires
sum_bits-acc-requires c = omega (arith, c.loop-k.invariant.3, c.requires.s_bound, take_within 1 3 (length c.args.s.now) c.loop-k.k c.loop-k-test.true)

pub overflow_add-i-in-loop-k : goal.overflow_add-i-in-loop-k
overflow_add-i-in-loop-k c = omega (arith, c.loop-k.invariant.1, c.requires.lent.word_count, take_within 10 56 (length c.args.s.now) c.loop-k.k c.loop-k-test.true)

pub overflow_add-j-in-loop-k : goal.overflow_add-j-in-loop-k
overflow_add-j-in-loop-k c = omega (arith, c.loop-k.invariant.2, c.requires.lent.count, take_within 3 14 (length c.args.s.now) c.loop-k.k c.loop-k-test.true)

pub overflow_add-g-in-loop-k-2 : goal.overflow_add-g-in-loop-k-2
overflow_add-g-in-loop-k-2 c = omega (arith, c.loop-k.invariant.3, c.requires.s_bound, take_within 1 3 (length c.args.s.now) c.loop-k.k c.loop-k-test.true)

pub loop-k-preserved : goal.loop-k-preserved
loop-k-preserved c =
    let w = length c.args.s.now in
    let e : c.loop-k.g + (w - c.loop-k.k) ≡ row_start c.args.first w c.loop-k.k + (w - c.loop-k.k) = omega (arith, c.loop-k.invariant.3, start_is c.args.first w c.loop-k.k) in (
      rows_written c.args.first c.loop-k.g (lit_at c.args.s.now) (lit_at c.args.t.now) (lit_at (take w c.loop-k.acc)) w c.loop-k.k c.loop-k.invariant.0 c.write_added.ensures c.loop-k.invariant.1 c.loop-k.invariant.2 c.loop-k.invariant.3
          (sized-bits _ c.loop-k.invariant.4 w (omega (arith, c.requires.s_len_bound))),
      omega (arith, c.loop-k.invariant.1, take_more 10 56 w c.loop-k.k),
      omega (arith, c.loop-k.invariant.2, take_more 3 14 w c.loop-k.k),
      omega (arith, c.loop-k.invariant.3, take_more 1 3 w c.loop-k.k),
      rw (add-one c.loop-k.k) (c.sum_bits-acc.ensures ∙ ap (λ (z : ℕ). tabulate (sum_bit z) places) e),
    )
