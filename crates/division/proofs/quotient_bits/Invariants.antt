use mathlib.Core.Path.{◌≡◌}
use Prim.Native.Nat.{◌*◌, ◌+◌, ◌-◌, suc}
use Rattle.arithmetic.proofs.Laws.{upper}
use Rattle.arithmetic.specs.Bits.{places, tabulate}
use Rattle.division.specs.Division.{quotient_bit, step_start}
use Rattle.arithmetic.specs.Extend.{extend}
use Rattle.division.proofs.quotient_bits.Given as goal

abbrev pub invariant-loop-j : goal.invariant-loop-j
invariant-loop-j l =
    (l.r ≡ tabulate (upper (extend (quotient_bit l.g l.w) l.w 3) l.j) places) × (l.x ≡ 2 * (step_start l.g (suc l.w) (l.w - l.j) + 3 * l.w + 2))
