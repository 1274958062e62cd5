use native.Mathlib.Omega.{arith}
use mathlib.Core.Path.{refl}
use borrow.Author.Tests.{ne_eqb}
use Rattle.netlist.proofs.Emitting.{emitted-none}
use Rattle.translation_access.specs.Index.{claim}
use Rattle.translation_access.proofs.claim_access.Goals as goal

pub returns-in-0 : goal.returns-in-0
unfolding claim
returns-in-0 c = rw c.in-0.is (record { emitted = emitted-none _ _ _; lit = refl })

pub returns-in-1 : goal.returns-in-1
unfolding claim
returns-in-1 c = rw c.in-1.is c.above.ensures

pub returns-in_default : goal.returns-in_default
unfolding claim
returns-in_default c =
    simp (ne_eqb c.args.side 0 (omega arith), ne_eqb c.args.side 1 (omega arith)) (record { emitted = emitted-none _ _ _; lit = refl })
