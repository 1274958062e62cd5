-- What was copied stands there.
use Rattle.std.proofs.Common.{◌≡◌, ◌<◌, ℕ, get_or, length}
use Rattle.translation_state.proofs.literals.copy_bits.Given as goal

abbrev pub invariant-loop-j : goal.invariant-loop-j
invariant-loop-j l = (length l.to ≡ length l.initial.to) × ((k : ℕ) → k < l.j → get_or l.to k 0 ≡ get_or l.from k 0)
