use mathlib.Core.Path.{◌≡◌}
use Prim.Native.Nat.{◌*◌, ◌+◌, ◌-◌, ◌<◌, suc, ℕ}
use lib.ListN.{get_or, length}
use Rattle.cnf.specs.Inner.Append.{Written}
use Rattle.netlist.specs.Node.{netlist_clauses}
use Rattle.arithmetic.specs.Bits.{lit_at, places}
use Rattle.division.specs.Division.{remainder_bit, step_start, division_steps}
use Rattle.division.proofs.write_division.Given as goal

-- `up` has the remainder one place higher; what stands in its first place does not matter
abbrev pub invariant-loop-j : goal.invariant-loop-j
invariant-loop-j l =
    Written l.initial.words l.initial.starts l.at l.start (netlist_clauses l.first (division_steps l.first (lit_at l.s) (lit_at l.d) (length l.s) (length l.s - l.j))) l.words l.starts
    × (l.i ≡ l.at + 72 * suc (length l.s) * (length l.s - l.j)) × (l.k ≡ l.start + 18 * suc (length l.s) * (length l.s - l.j)) × (l.g ≡ step_start l.first (suc (length l.s)) (length l.s - l.j))
    × (length l.up ≡ places) × ((m : ℕ) → 0 < m → m < places → get_or l.up m 0 ≡ remainder_bit l.first (suc (length l.s)) (length l.s - l.j) (m - 1))
