use mathlib.Core.Path.{sym, ◌∙◌}
use native.Mathlib.Omega.{arith}
use Rattle.routine_faults.proofs.Fine.{convert_fine}
use Rattle.arithmetic.specs.Bits.{places, tabulate}
use Rattle.arithmetic.proofs.Laws.{sized-length, table_length}
use Rattle.translation_state.proofs.Ranges.{part-bits, part_end, part_length, ranged_as, storable, stored}
use Rattle.translation_command.specs.Operation.{conversion}
use Rattle.translation_command.proofs.commands.encode_convert.Goals as goal

pub slice_bounds-convert-end : goal.slice_bounds-convert-end
slice_bounds-convert-end c =
    let f = convert_fine c.args.bytes.now c.args.h c.args.op c.args.d c.args.a c.requires.sound.0 in
    part_end c.args.bytes.now c.args.h c.args.a _ _ c.requires.sound.1 f.1 c.place_of-from.ensures c.width_of.ensures c.args.lits.now c.requires.lits_len

pub convert-bits-requires : goal.convert-bits-requires
convert-bits-requires c =
    let f = convert_fine c.args.bytes.now c.args.h c.args.op c.args.d c.args.a c.requires.sound.0 in
    let n = part_length c.args.bytes.now c.args.h c.args.a _ _ c.requires.sound.1 f.1 c.place_of-from.ensures c.width_of.ensures c.args.lits.now c.requires.lits_len in
    let r = ranged_as c.args.bytes.now c.args.h c.args.a _ _ c.requires.sound.1 f.1 c.place_of-from.ensures c.width_of.ensures in
    (omega (arith, n, r), omega (arith, n, r))

pub slice_bounds-bits-end : goal.slice_bounds-bits-end
slice_bounds-bits-end c =
    let f = convert_fine c.args.bytes.now c.args.h c.args.op c.args.d c.args.a c.requires.sound.0 in
    omega (arith, table_length _ c.convert-bits.ensures, ranged_as c.args.bytes.now c.args.h c.args.d _ _ c.requires.sound.1 f.0 c.place_of.ensures c.width_of-w.ensures)

pub slice_bounds-store_bits-end : goal.slice_bounds-store_bits-end
slice_bounds-store_bits-end c =
    let f = convert_fine c.args.bytes.now c.args.h c.args.op c.args.d c.args.a c.requires.sound.0 in
    sym (sized-length _ c.convert-bits.ensures _ (omega (arith, ranged_as c.args.bytes.now c.args.h c.args.d _ _ c.requires.sound.1 f.0 c.place_of.ensures c.width_of-w.ensures)))

pub store_bits-requires : goal.store_bits-requires
store_bits-requires c =
    let f = convert_fine c.args.bytes.now c.args.h c.args.op c.args.d c.args.a c.requires.sound.0 in
    storable c.args.bytes.now c.args.h c.args.d _ _ c.requires.sound.1 f.0 c.place_of.ensures c.width_of-w.ensures c.args.lits.now c.requires.lits_len _ c.convert-bits.ensures

pub returns : goal.returns
returns c =
    let f = convert_fine c.args.bytes.now c.args.h c.args.op c.args.d c.args.a c.requires.sound.0 in
    let b = part-bits c.args.bytes.now c.args.h c.args.a _ _ c.requires.sound.1 f.1 c.place_of-from.ensures c.width_of.ensures c.args.lits.now c.requires.lits_len in
    let n = part_length c.args.bytes.now c.args.h c.args.a _ _ c.requires.sound.1 f.1 c.place_of-from.ensures c.width_of.ensures c.args.lits.now c.requires.lits_len ∙ c.width_of.ensures in
    stored c.args.bytes.now c.args.h c.args.d _ _ c.requires.sound.1 f.0 c.place_of.ensures c.width_of-w.ensures c.args.lits.now c.requires.lits_len _ (c.convert-bits.ensures ∙ (λ i. tabulate (conversion c.args.op (b i) (n i)) places)) _ c.store_bits.ensures
