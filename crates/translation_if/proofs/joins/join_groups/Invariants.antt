use mathlib.Core.Path.{◌≡◌}
use Rattle.netlist.specs.Inner.Emit.{Emitted}
use Rattle.translation_if.specs.If.{join_groups}
use Rattle.translation_if.proofs.joins.join_groups.Given as goal

abbrev pub invariant-loop-v : goal.invariant-loop-v
invariant-loop-v l =
    Emitted l.initial.words l.initial.starts l.initial.net (join_groups l.bytes l.initial.net.next l.c l.initial.lits l.other l.v).nodes l.words l.starts l.net
    × (l.lits ≡ (join_groups l.bytes l.initial.net.next l.c l.initial.lits l.other l.v).lits)
