use Rattle.std.proofs.Common.{sym, mod-eq_of_lt, arith, pow_pos}
use Rattle.bitvec.proofs.Powers.{one_shifted}
use Rattle.bitvec.proofs.word.reduced.Goals as goal

-- `reduced` is the remainder: at 32 bits nothing is cut off, and below the divisor is 2 to the w.
pub nonzero_rem-result : goal.nonzero_rem-result
nonzero_rem-result c =
    rw (one_shifted c.args.w (omega arith)) (pow_pos c.args.w)

pub returns-then-w-eq32 : goal.returns-then-w-eq32
returns-then-w-eq32 c = rw c.if-w-eq32.true (sym (mod-eq_of_lt c.ranges.n.fits))

pub returns-else-w-eq32 : goal.returns-else-w-eq32
returns-else-w-eq32 c = rw (one_shifted c.args.w (omega arith))
