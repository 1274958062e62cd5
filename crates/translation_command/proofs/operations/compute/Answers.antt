use native.Mathlib.Omega.{arith}
use lib.ListN.{length}
use Rattle.netlist.proofs.Emitting.{ready_weaken}
use Rattle.translation_command.specs.Operation.{computation}
use Rattle.translation_command.proofs.Commanding.{division_few, square_few}
use Rattle.translation_command.proofs.operations.compute.Goals as goal

pub emit_product-requires : goal.emit_product-requires
emit_product-requires c = record { ready = ready_weaken (square_few (length c.args.a.now) c.requires.a_nonzero.1) c.requires.ready; t_len = c.requires.b_len; s_nonzero = (c.requires.a_nonzero.0, omega (arith, c.requires.a_nonzero.1)) }

pub quotient_bits-bits-requires : goal.quotient_bits-bits-requires
quotient_bits-bits-requires c =
    (omega (arith, c.requires.ready.next, division_few (length c.args.a.now) c.requires.a_nonzero.1), omega (arith, c.requires.a_nonzero.1))

pub emit_division-net-requires : goal.emit_division-net-requires
emit_division-net-requires c = record { ready = ready_weaken (division_few (length c.args.a.now) c.requires.a_nonzero.1) c.requires.ready; d_len = c.requires.b_len; s_len_bound = omega (arith, c.requires.a_nonzero.1) }

pub remainder_bits-bits-requires : goal.remainder_bits-bits-requires
remainder_bits-bits-requires c =
    (omega (arith, c.requires.ready.next, division_few (length c.args.a.now) c.requires.a_nonzero.1), c.requires.a_nonzero.0, omega (arith, c.requires.a_nonzero.1))

pub emit_division-net-requires-in-Remainder : goal.emit_division-net-requires-in-Remainder
emit_division-net-requires-in-Remainder c = record { ready = ready_weaken (division_few (length c.args.a.now) c.requires.a_nonzero.1) c.requires.ready; d_len = c.requires.b_len; s_len_bound = omega (arith, c.requires.a_nonzero.1) }

pub returns-in-Add : goal.returns-in-Add
unfolding computation
returns-in-Add c = rw c.in-Add.is (record { emitted = c.emit_sum-net.ensures; bits = c.sum_bits-bits.ensures })

pub returns-in-Subtract : goal.returns-in-Subtract
unfolding computation
returns-in-Subtract c = rw c.in-Subtract.is (record { emitted = c.emit_difference-net.ensures; bits = c.sum_bits-bits-in-Subtract.ensures })

pub returns-in-Multiply : goal.returns-in-Multiply
unfolding computation
returns-in-Multiply c = rw c.in-Multiply.is c.emit_product.ensures

pub returns-in-Quotient : goal.returns-in-Quotient
unfolding computation
returns-in-Quotient c = rw c.in-Quotient.is (record { emitted = c.emit_division-net.ensures; bits = c.quotient_bits-bits.ensures })

pub returns-in-Remainder : goal.returns-in-Remainder
unfolding computation
returns-in-Remainder c = rw c.in-Remainder.is (record { emitted = c.emit_division-net-in-Remainder.ensures; bits = c.remainder_bits-bits.ensures })
