use mathlib.Core.Path.{refl}
use Rattle.netlist.proofs.Emitting.{emitted-none}
use Rattle.translation_if.proofs.arm_arrival.Goals as goal

pub returns-then-other : goal.returns-then-other
returns-then-other c = rw c.if-other.true (record { emitted = emitted-none _ _ _; lit = refl })
