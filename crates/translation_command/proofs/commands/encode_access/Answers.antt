use Rattle.std.proofs.Common.{Some}
use mathlib.Core.Path.{sym, ◌∙◌}
use native.Mathlib.Omega.{arith}
use Rattle.netlist.proofs.Emitting.{ready_weaken}
use Rattle.translation_state.proofs.Ranges.{part-bits, part_end, part_length, ranged_as}
use Rattle.translation_command.proofs.Commanding.{claim_at, pass_at, makes_as}
use Rattle.translation_state.specs.Inner.Reach.{wires_of, reaching}
use Rattle.translation_command.proofs.commands.encode_access.Goals as goal

pub slice_bounds-claim_access-end : goal.slice_bounds-claim_access-end
slice_bounds-claim_access-end c =
    part_end c.args.bytes.now c.args.h c.args.i _ _ c.requires.i_lt_variables.1 c.requires.i_lt_variables.0 c.place_of-from.ensures c.width_of.ensures c.args.lits.now c.requires.lits_len

pub claim_access-r-requires : goal.claim_access-r-requires
claim_access-r-requires c =
    let n = part_length c.args.bytes.now c.args.h c.args.i _ _ c.requires.i_lt_variables.1 c.requires.i_lt_variables.0 c.place_of-from.ensures c.width_of.ensures c.args.lits.now c.requires.lits_len in
    let r = ranged_as c.args.bytes.now c.args.h c.args.i _ _ c.requires.i_lt_variables.1 c.requires.i_lt_variables.0 c.place_of-from.ensures c.width_of.ensures in
    record { ready = ready_weaken (omega (arith, n, r)) c.requires.ready; index_nonzero = (omega (arith, n, r), omega (arith, n, r)) }

pub returns-then-accesses_of-from : goal.returns-then-accesses_of-from
returns-then-accesses_of-from c =
    let x = part-bits c.args.bytes.now c.args.h c.args.i _ _ c.requires.i_lt_variables.1 c.requires.i_lt_variables.0 c.place_of-from.ensures c.width_of.ensures c.args.lits.now c.requires.lits_len in
    let n = part_length c.args.bytes.now c.args.h c.args.i _ _ c.requires.i_lt_variables.1 c.requires.i_lt_variables.0 c.place_of-from.ensures c.width_of.ensures c.args.lits.now c.requires.lits_len ∙ c.width_of.ensures in
    makes_as (claim_at c.args.bytes.now c.args.h c.args.t c.args.n.next c.args.array c.args.i c.args.k (wires_of c.args.lits.now c.args.s) _ _ _ x c.size_of_array-size.ensures n
    (sym c.accesses_of.ensures ∙ c.if-accesses_of-from.true ∙ c.from.ensures))
    (record { emitted = c.claim_access-r.ensures.emitted; wires = λ j. record { lits = c.args.lits.now; arrival = c.args.s.arrival; claim = Some (record { arrival = c.args.s.arrival; side = c.claim_access-r.ensures.lit j }) } })

pub slice_bounds-pass_access-end : goal.slice_bounds-pass_access-end
slice_bounds-pass_access-end c =
    part_end c.args.bytes.now c.args.h c.args.i _ _ c.requires.i_lt_variables.1 c.requires.i_lt_variables.0 c.place_of-from.ensures c.width_of.ensures c.args.lits.now c.requires.lits_len

pub pass_access-r-requires : goal.pass_access-r-requires
pass_access-r-requires c =
    let n = part_length c.args.bytes.now c.args.h c.args.i _ _ c.requires.i_lt_variables.1 c.requires.i_lt_variables.0 c.place_of-from.ensures c.width_of.ensures c.args.lits.now c.requires.lits_len in
    let r = ranged_as c.args.bytes.now c.args.h c.args.i _ _ c.requires.i_lt_variables.1 c.requires.i_lt_variables.0 c.place_of-from.ensures c.width_of.ensures in
    record { ready = ready_weaken (omega (arith, n, r)) c.requires.ready; index_nonzero = (omega (arith, n, r), omega (arith, n, r)) }

pub returns : goal.returns
returns c =
    let x = part-bits c.args.bytes.now c.args.h c.args.i _ _ c.requires.i_lt_variables.1 c.requires.i_lt_variables.0 c.place_of-from.ensures c.width_of.ensures c.args.lits.now c.requires.lits_len in
    let n = part_length c.args.bytes.now c.args.h c.args.i _ _ c.requires.i_lt_variables.1 c.requires.i_lt_variables.0 c.place_of-from.ensures c.width_of.ensures c.args.lits.now c.requires.lits_len ∙ c.width_of.ensures in
    makes_as (pass_at c.args.bytes.now c.args.h c.args.t c.args.n.next c.args.array c.args.i c.args.k (wires_of c.args.lits.now c.args.s) _ _ _ x c.size_of_array-size.ensures n
    (λ q. c.if-accesses_of-from.false (c.accesses_of.ensures ∙ q ∙ sym c.from.ensures)))
    (record { emitted = c.pass_access-r.ensures.emitted; wires = λ i. wires_of c.args.lits.now ((c.with_arrival-reach.ensures ∙ (λ j. reaching c.args.s (c.pass_access-r.ensures.lit j))) i) })
