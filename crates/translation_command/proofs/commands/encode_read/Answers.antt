use mathlib.Core.Path.{sym, ap, ◌∙◌}
use native.Mathlib.Omega.{arith}
use Rattle.routine_faults.proofs.Fine.{read_fine}
use Rattle.netlist.specs.Inner.Emit.{Ready}
use Rattle.netlist.proofs.Emitting.{ready-after, ready_weaken}
use Rattle.arithmetic.proofs.Laws.{sized-length, table_length}
use Rattle.translation_state.proofs.Ranges.{ranged, ranged_as, storable, stored}
use Rattle.translation_command.proofs.Commanding.{access-few, read-claimed, read_goes, makes_as, read_makes}
use Rattle.translation_state.specs.Wires.{Wires, is_made}
use Rattle.translation_state.specs.Inner.Reach.{wires_of}
use Rattle.translation_command.proofs.commands.encode_read.Goals as goal

pub encode_access-m-requires : goal.encode_access-m-requires
encode_access-m-requires c =
    let f = read_fine c.args.bytes.now c.args.h c.args.d c.args.array c.args.i c.requires.sound.0 in
    record { ready = c.requires.ready; lits_len = c.requires.lits_len; i_lt_variables = (f.2, c.requires.sound.1) }

pub returns-then-is_made : goal.returns-then-is_made
returns-then-is_made c =
    makes_as (read-claimed c.args.bytes.now c.args.h c.args.t c.args.n.next c.args.array c.args.i c.args.k (wires_of c.args.lits.now c.args.s) c.args.d c.requires.sound.2
    (ap (λ (z : Wires). is_made z.claim) (sym c.encode_access-m.ensures.wires) ∙ sym c.is_made.ensures ∙ c.if-is_made.true)) c.encode_access-m.ensures

pub input_bits-bits-requires : goal.input_bits-bits-requires
input_bits-bits-requires c =
    let room : Ready c.encode_access-m.result.net 32 =
    let f = read_fine c.args.bytes.now c.args.h c.args.d c.args.array c.args.i c.requires.sound.0 in
    let x = ranged c.args.bytes.now c.args.h c.args.i c.requires.sound.1 f.2 in
    ready-after 32 c.encode_access-m.ensures.emitted c.requires.ready (omega (arith, access-few c.args.bytes.now c.args.h c.args.t c.args.n.next c.args.array c.args.i c.args.k (wires_of c.args.lits.now c.args.s) x.few))
    in omega (arith, room.next)

pub take_inputs-net-requires : goal.take_inputs-net-requires
take_inputs-net-requires c =
    let room : Ready c.encode_access-m.result.net 32 =
    let f = read_fine c.args.bytes.now c.args.h c.args.d c.args.array c.args.i c.requires.sound.0 in
    let x = ranged c.args.bytes.now c.args.h c.args.i c.requires.sound.1 f.2 in
    ready-after 32 c.encode_access-m.ensures.emitted c.requires.ready (omega (arith, access-few c.args.bytes.now c.args.h c.args.t c.args.n.next c.args.array c.args.i c.args.k (wires_of c.args.lits.now c.args.s) x.few))
    in let f = read_fine c.args.bytes.now c.args.h c.args.d c.args.array c.args.i c.requires.sound.0 in
    let y = ranged c.args.bytes.now c.args.h c.args.d c.requires.sound.1 f.0 in ready_weaken (omega (arith, y.few, c.width_of-w.ensures)) room

pub slice_bounds-bits-end : goal.slice_bounds-bits-end
slice_bounds-bits-end c =
    let f = read_fine c.args.bytes.now c.args.h c.args.d c.args.array c.args.i c.requires.sound.0 in
    omega (arith, table_length _ c.input_bits-bits.ensures, ranged_as c.args.bytes.now c.args.h c.args.d _ _ c.requires.sound.1 f.0 c.place_of.ensures c.width_of-w.ensures)

pub slice_bounds-store_bits-end : goal.slice_bounds-store_bits-end
slice_bounds-store_bits-end c =
    let f = read_fine c.args.bytes.now c.args.h c.args.d c.args.array c.args.i c.requires.sound.0 in
    sym (sized-length _ c.input_bits-bits.ensures _ (omega (arith, ranged_as c.args.bytes.now c.args.h c.args.d _ _ c.requires.sound.1 f.0 c.place_of.ensures c.width_of-w.ensures)))

pub store_bits-requires : goal.store_bits-requires
store_bits-requires c =
    let f = read_fine c.args.bytes.now c.args.h c.args.d c.args.array c.args.i c.requires.sound.0 in
    storable c.args.bytes.now c.args.h c.args.d _ _ c.requires.sound.1 f.0 c.place_of.ensures c.width_of-w.ensures c.args.lits.now c.requires.lits_len _ c.input_bits-bits.ensures

pub returns : goal.returns
returns c =
    let f = read_fine c.args.bytes.now c.args.h c.args.d c.args.array c.args.i c.requires.sound.0 in
    makes_as (read_goes c.args.bytes.now c.args.h c.args.t c.args.n.next c.args.array c.args.i c.args.k (wires_of c.args.lits.now c.args.s) c.args.d
    (ap (λ (z : Wires). is_made z.claim) (sym c.encode_access-m.ensures.wires) ∙ sym c.is_made.ensures ∙ c.if-is_made.false))
    (read_makes c.args.bytes.now c.args.h c.args.d c.args.k c.encode_access-m.ensures _ c.width_of-w.ensures _ c.take_inputs-net.ensures _
    (stored c.args.bytes.now c.args.h c.args.d _ _ c.requires.sound.1 f.0 c.place_of.ensures c.width_of-w.ensures c.args.lits.now c.requires.lits_len _ c.input_bits-bits.ensures _ c.store_bits.ensures))
