use Rattle.std.proofs.Common.{◌∙◌, ◌≡◌, ◌*◌, ◌+◌, ◌-◌, ap, arith, suc}
use Rattle.division.proofs.Division.{one_more, quotient-lit}
use Rattle.arithmetic.proofs.Extend.{extend-above}
use Rattle.arithmetic.proofs.Laws.{upper_none, upper_turn}
use Rattle.arithmetic.specs.Bits.{places}
use Rattle.division.specs.Division.{quotient_bit}
use Rattle.arithmetic.specs.Extend.{extend}
use Rattle.division.proofs.quotient_bits.Goals as goal

pub loop-j-init : goal.loop-j-init
loop-j-init c =
    let z : c.args.w - c.args.w ≡ 0 = omega arith in
    (upper_none (extend (quotient_bit c.args.g c.args.w) c.args.w 3) c.args.w places (λ j h. extend-above (quotient_bit c.args.g c.args.w) c.args.w 3 j h), rw z (omega arith))

pub loop-j-preserved : goal.loop-j-preserved
loop-j-preserved c =
    let w = c.args.w in
    let k : c.loop-j.j ≡ suc (c.loop-j.j - 1) = omega (arith, c.loop-j-test.true) in
    let turns : w - (c.loop-j.j - 1) ≡ w - c.loop-j.j + 1 = omega (arith, c.loop-j.auto.j) in
    let place : w - 1 - (w - c.loop-j.j) ≡ c.loop-j.j - 1 = omega (arith, c.loop-j.auto.j) in (
      upper_turn _ (c.loop-j.j - 1) _ (rw k at c.loop-j.invariant.0) (omega (arith, c.requires.1, c.loop-j.auto.j))
          (c.loop-j.invariant.1 ∙ quotient-lit c.args.g w (w - c.loop-j.j) (omega arith) ∙ ap (extend (quotient_bit c.args.g w) w 3) place),
      rw turns (omega (arith, c.loop-j.invariant.1, one_more (4 * suc w) (w - c.loop-j.j))),
    )
