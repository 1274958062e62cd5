use mathlib.Core.Path.{◌≡◌}
use lib.Seq.{sets}
use Rattle.netlist.specs.Inner.Emit.{Emitted}
use Rattle.arithmetic.specs.Bits.{bits_at, tabulate}
use Rattle.arithmetic.specs.Join.{join_bit, joiner}
use Rattle.translation_if.proofs.joins.join_group.Given as goal

abbrev pub invariant-loop-j : goal.invariant-loop-j
invariant-loop-j l =
    Emitted l.initial.words l.initial.starts l.initial.net (joiner l.c (bits_at l.initial.lits l.place l.w) (bits_at l.other l.place l.w) l.j) l.words l.starts l.net
    × (l.lits ≡ sets l.initial.lits l.place (tabulate (join_bit l.initial.net.next l.c (bits_at l.initial.lits l.place l.w) (bits_at l.other l.place l.w)) l.j))
