use mathlib.Core.Path.{ap, ◌∙◌}
use mathlib.Core.List.{[]}
use native.Mathlib.Omega.{arith}
use lib.ListN.{length}
use Rattle.netlist.proofs.Emitting.{emitted-none, ready_weaken}
use Rattle.translation_meaning.specs.Translation.{given_nodes, given_lits}
use Rattle.translation_state.proofs.Ranges.{ranged, stored}
use Rattle.translation_walk.proofs.Variables.{given_ready, given_made, given_wired, given-length}
use Rattle.translation_walk.proofs.beginning.begin_variables.Goals as goal

pub loop-p-init : goal.loop-p-init
unfolding given_nodes given_lits
loop-p-init c = ((λ w u. emitted-none w u _), c.requires.lits_len.1)

pub input_bits-bits-requires : goal.input_bits-bits-requires
input_bits-bits-requires c =
    omega (arith, (given_ready c.requires.fine (omega (arith, c.given_of-count.ensures, c.loop-p.auto.p-end)) (c.loop-p.invariant.0 [] []) c.requires.ready.0).next)

pub take_inputs-net-requires : goal.take_inputs-net-requires
take_inputs-net-requires c =
    let r = ranged c.args.bytes.now c.args.h c.loop-p.p c.requires.fine (omega (arith, c.given_of-count.ensures, c.loop-p-test.true)) in
    ready_weaken (omega (arith, r.few, (c.from-w.ensures ∙ c.width_of.ensures)))
    (given_ready c.requires.fine (omega (arith, c.given_of-count.ensures, c.loop-p.auto.p-end)) (c.loop-p.invariant.0 [] []) c.requires.ready.0)

pub loop-p-preserved : goal.loop-p-preserved
loop-p-preserved c = (
  given_made c.args.bytes.now c.args.n c.loop-p.net _ c.loop-p.p _ (c.from-w.ensures ∙ c.width_of.ensures) c.loop-p.invariant.0 c.take_inputs-net.ensures,
  given_wired c.args.bytes.now c.args.n c.loop-p.net _ c.loop-p.p _ (c.from-w.ensures ∙ c.width_of.ensures) c.loop-p.invariant.0 c.take_inputs-net.ensures _ c.requires.ready.1 _ _ c.loop-p.invariant.1
      (stored c.args.bytes.now c.args.h c.loop-p.p _ _ c.requires.fine (omega (arith, c.given_of-count.ensures, c.loop-p-test.true)) c.place_of.ensures (c.from-w.ensures ∙ c.width_of.ensures) c.loop-p.lits (ap length c.loop-p.invariant.1 ∙ given-length c.args.bytes.now _ c.loop-p.p ∙ c.requires.lits_len.0) _ c.input_bits-bits.ensures _ c.store_bits.ensures),
)
