use Rattle.std.proofs.Common.{◌≡◌, ◌<◌, ◌/◌, ◌^◌, ℕ, get_or}
use Rattle.arithmetic.specs.Extend.{const_bit}
use Rattle.arithmetic.proofs.constants.const_bits.Given as goal

abbrev pub invariant-loop-bit : goal.invariant-loop-bit
invariant-loop-bit l =
    (l.x ≡ l.c / 2 ^ l.bit-index) × ((i : ℕ) → i < l.bit-index → get_or l.bit-items i 0 ≡ const_bit l.c i)
