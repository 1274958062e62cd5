use Rattle.std.proofs.Common.{◌≡◌, ◌<◌, ◌*◌, ◌+◌, ℕ, get_or}
use Rattle.arithmetic.proofs.extensions.rising.Given as goal

abbrev pub invariant-loop-bit : goal.invariant-loop-bit
invariant-loop-bit l =
    (l.x ≡ l.l + l.d * l.bit-index) × ((i : ℕ) → i < l.bit-index → get_or l.bit-items i 0 ≡ l.l + l.d * i)
