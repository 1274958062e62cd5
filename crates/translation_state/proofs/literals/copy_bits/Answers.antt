use mathlib.Core.Path.{refl, ◌∙◌}
use Prim.Native.Nat.{ℕ}
use native.Mathlib.Omega.{arith}
use lib.ListN.{length-set, get_or}
use lib.Seq.{ext_get_or}
use Rattle.arithmetic.proofs.Laws.{filled_turn}
use Rattle.translation_state.proofs.literals.copy_bits.Goals as goal

pub loop-j-init : goal.loop-j-init
loop-j-init c = (refl, λ k h. absurd (omega arith))

pub loop-j-preserved : goal.loop-j-preserved
loop-j-preserved c = (
  length-set _ _ _ ∙ c.loop-j.invariant.0,
  filled_turn c.loop-j.to (λ (k : ℕ). get_or c.args.from.now k 0) c.loop-j.j _ (omega (arith, c.loop-j.invariant.0, c.requires)) refl c.loop-j.invariant.1,
)

pub returns : goal.returns
returns c = ext_get_or 0 _ _ (c.loop-j.invariant.0 ∙ c.requires) (λ i h. c.loop-j.invariant.1 i (omega (arith, c.loop-j.invariant.0, c.requires)))
