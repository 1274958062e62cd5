use mathlib.Core.Path.{sym, ◌∙◌}
use native.Mathlib.Omega.{arith}
use Rattle.routine_faults.proofs.Fine.{compute_fine}
use Rattle.netlist.proofs.Emitting.{ready_weaken}
use Rattle.arithmetic.proofs.Laws.{sized-length, table_length}
use Rattle.translation_state.proofs.Ranges.{part-bits, part_end, part_length, ranged_as, storable, stored}
use Rattle.translation_command.specs.Operation.{computation}
use Rattle.translation_command.proofs.Commanding.{makes_number}
use Rattle.translation_command.proofs.commands.encode_compute.Goals as goal

pub slice_bounds-compute-end : goal.slice_bounds-compute-end
slice_bounds-compute-end c =
    let f = compute_fine c.args.bytes.now c.args.h c.args.op c.args.d c.args.a c.args.b c.requires.sound.0 in
    part_end c.args.bytes.now c.args.h c.args.a _ _ c.requires.sound.1 f.1 c.place_of-x.ensures (c.width_of-w.ensures ∙ f.3) c.args.lits.now c.requires.lits_len

pub slice_bounds-compute-end-2 : goal.slice_bounds-compute-end-2
slice_bounds-compute-end-2 c =
    let f = compute_fine c.args.bytes.now c.args.h c.args.op c.args.d c.args.a c.args.b c.requires.sound.0 in
    part_end c.args.bytes.now c.args.h c.args.b _ _ c.requires.sound.1 f.2 c.place_of-y.ensures (c.width_of-w.ensures ∙ f.4) c.args.lits.now c.requires.lits_len

pub compute-r-requires : goal.compute-r-requires
compute-r-requires c =
    let f = compute_fine c.args.bytes.now c.args.h c.args.op c.args.d c.args.a c.args.b c.requires.sound.0 in
    let x = part_length c.args.bytes.now c.args.h c.args.a _ _ c.requires.sound.1 f.1 c.place_of-x.ensures (c.width_of-w.ensures ∙ f.3) c.args.lits.now c.requires.lits_len in
    let y = part_length c.args.bytes.now c.args.h c.args.b _ _ c.requires.sound.1 f.2 c.place_of-y.ensures (c.width_of-w.ensures ∙ f.4) c.args.lits.now c.requires.lits_len in
    let r = ranged_as c.args.bytes.now c.args.h c.args.a _ _ c.requires.sound.1 f.1 c.place_of-x.ensures (c.width_of-w.ensures ∙ f.3) in
    record { ready = ready_weaken (omega arith) c.requires.ready; b_len = y ∙ sym x; a_nonzero = (omega (arith, x, r.0), omega (arith, x, r.1)) }

pub slice_bounds-bits-end : goal.slice_bounds-bits-end
slice_bounds-bits-end c =
    let f = compute_fine c.args.bytes.now c.args.h c.args.op c.args.d c.args.a c.args.b c.requires.sound.0 in
    omega (arith, table_length _ c.compute-r.ensures.bits, ranged_as c.args.bytes.now c.args.h c.args.d _ _ c.requires.sound.1 f.0 c.place_of.ensures c.width_of-w.ensures)

pub slice_bounds-store_bits-end : goal.slice_bounds-store_bits-end
slice_bounds-store_bits-end c =
    let f = compute_fine c.args.bytes.now c.args.h c.args.op c.args.d c.args.a c.args.b c.requires.sound.0 in
    sym (sized-length _ c.compute-r.ensures.bits _ (omega (arith, ranged_as c.args.bytes.now c.args.h c.args.d _ _ c.requires.sound.1 f.0 c.place_of.ensures c.width_of-w.ensures)))

pub store_bits-requires : goal.store_bits-requires
store_bits-requires c =
    let f = compute_fine c.args.bytes.now c.args.h c.args.op c.args.d c.args.a c.args.b c.requires.sound.0 in
    storable c.args.bytes.now c.args.h c.args.d _ _ c.requires.sound.1 f.0 c.place_of.ensures c.width_of-w.ensures c.args.lits.now c.requires.lits_len _ c.compute-r.ensures.bits

pub returns : goal.returns
returns c =
    let f = compute_fine c.args.bytes.now c.args.h c.args.op c.args.d c.args.a c.args.b c.requires.sound.0 in
    let x = part-bits c.args.bytes.now c.args.h c.args.a _ _ c.requires.sound.1 f.1 c.place_of-x.ensures (c.width_of-w.ensures ∙ f.3) c.args.lits.now c.requires.lits_len in
    let y = part-bits c.args.bytes.now c.args.h c.args.b _ _ c.requires.sound.1 f.2 c.place_of-y.ensures (c.width_of-w.ensures ∙ f.4) c.args.lits.now c.requires.lits_len in
    let n = part_length c.args.bytes.now c.args.h c.args.a _ _ c.requires.sound.1 f.1 c.place_of-x.ensures (c.width_of-w.ensures ∙ f.3) c.args.lits.now c.requires.lits_len ∙ c.width_of-w.ensures in
    let m = makes_number (λ i. computation c.args.op c.args.n.next (x i) (y i) (n i)) c.compute-r.ensures in
    record { emitted = m.emitted; lits_after = stored c.args.bytes.now c.args.h c.args.d _ _ c.requires.sound.1 f.0 c.place_of.ensures c.width_of-w.ensures c.args.lits.now c.requires.lits_len _ m.bits _ c.store_bits.ensures }
