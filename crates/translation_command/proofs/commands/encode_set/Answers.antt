use mathlib.Core.Path.{sym}
use native.Mathlib.Omega.{arith}
use Rattle.routine_faults.proofs.Fine.{set_fine}
use Rattle.arithmetic.proofs.Laws.{sized-length, table_length}
use Rattle.translation_state.proofs.Ranges.{ranged_as, storable, stored}
use Rattle.translation_command.proofs.commands.encode_set.Goals as goal

pub slice_bounds-bits-end : goal.slice_bounds-bits-end
slice_bounds-bits-end c =
    let f = set_fine c.args.bytes.now c.args.h c.args.d c.args.c c.requires.sound.0 in
    omega (arith, table_length _ c.const_bits-bits.ensures, ranged_as c.args.bytes.now c.args.h c.args.d _ _ c.requires.sound.1 f.0 c.place_of.ensures c.width_of-w.ensures)

pub slice_bounds-store_bits-end : goal.slice_bounds-store_bits-end
slice_bounds-store_bits-end c =
    let f = set_fine c.args.bytes.now c.args.h c.args.d c.args.c c.requires.sound.0 in
    sym (sized-length _ c.const_bits-bits.ensures _ (omega (arith, ranged_as c.args.bytes.now c.args.h c.args.d _ _ c.requires.sound.1 f.0 c.place_of.ensures c.width_of-w.ensures)))

pub store_bits-requires : goal.store_bits-requires
store_bits-requires c =
    let f = set_fine c.args.bytes.now c.args.h c.args.d c.args.c c.requires.sound.0 in
    storable c.args.bytes.now c.args.h c.args.d _ _ c.requires.sound.1 f.0 c.place_of.ensures c.width_of-w.ensures c.args.lits.now c.requires.lits_len _ c.const_bits-bits.ensures

pub returns : goal.returns
returns c =
    let f = set_fine c.args.bytes.now c.args.h c.args.d c.args.c c.requires.sound.0 in
    stored c.args.bytes.now c.args.h c.args.d _ _ c.requires.sound.1 f.0 c.place_of.ensures c.width_of-w.ensures c.args.lits.now c.requires.lits_len _ c.const_bits-bits.ensures _ c.store_bits.ensures
