use native.Mathlib.Omega.{arith}
use Rattle.run_state.proofs.Wholes.{header_fine, commands_stand, begun_going}
use Rattle.run_state.proofs.ways.follow.Goals as goal

-- The run of a whole routine, followed from its first command. Assumes nothing.
pub initial-begun-requires : goal.initial-begun-requires
initial-begun-requires c = let f = header_fine _ _ c.requires in omega (arith, c.given_of.ensures, f.few)

pub follow_arm-requires : goal.follow_arm-requires
follow_arm-requires c =
    rw c.no_counts-nothing_yet.ensures (commands_stand _ _ c.requires _ c.first_command-first.ensures, header_fine _ _ c.requires, begun_going _ _ _ c.initial-begun.ensures)
