use Rattle.std.proofs.Common.{◌≡◌, ℕ, Bool, ◌<◌, ◌≤◌, ◌+◌, ◌-◌, ◌*◌}
use Rattle.routine_header.specs.Header.{first_bad}
use Rattle.routine_header.proofs.first_bad.Given as goal

abbrev pub invariant-loop : goal.invariant-loop
invariant-loop g l = record {
  near : l.at ≤ l.from + 2 * l.counter;
  same : (P : ℕ → Bool) → ((i : ℕ) (b : Bool) → i < 1000 → goal.F-post g l.ok i b → b ≡ P i) → first_bad P l.step (l.n - l.counter) l.at ≡ first_bad P l.step l.n l.from;
}
