use mathlib.Core.Path.{◌≡◌, refl}
use native.Mathlib.Omega.{arith}
use lib.ListN.{length, take}
use Rattle.arithmetic.proofs.Adder.{last_carry}
use Rattle.division.proofs.Division.{step-written}
use Rattle.arithmetic.proofs.Laws.{sized-bits, sized-length}
use Rattle.arithmetic.specs.Bits.{lit_at}
use Rattle.division.proofs.write_step.Goals as goal

pub returns : goal.returns
returns c =
    let v = length c.args.r.now in
    let x : length (take v c.sum_bits-difference.result) ≡ v = sized-length _ c.sum_bits-difference.ensures v (omega (arith, c.requires.r_nonzero)) in
    step-written c.args.first (lit_at c.args.r.now) (lit_at c.args.d.now) (lit_at (take v c.sum_bits-difference.result)) _ v
    c.write_sum.ensures c.write_choice.ensures x refl refl refl
    (last_carry c.args.first 2 v _ (omega (arith, c.requires.r_nonzero)) refl) (sized-bits _ c.sum_bits-difference.ensures v (omega (arith, c.requires.r_nonzero)))
