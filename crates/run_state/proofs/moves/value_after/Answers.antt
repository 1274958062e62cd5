use Rattle.run_state.proofs.InRange.{convert_operands, compute_operands}
use Rattle.run_state.proofs.moves.value_after.Goals as goal

-- The value that a command gives to its variable. Assumes nothing.

pub converted_in-requires : goal.converted_in-requires
converted_in-requires c =
    let o = convert_operands _ _ c.requires.1 _ c.requires.0 _ _ _ c.in-Convert.is in
    (o.2, o.3, o.4)

pub computed_by-requires : goal.computed_by-requires
computed_by-requires c =
    rw c.width_of.ensures (compute_operands _ _ c.requires.1 _ c.requires.0 _ _ _ _ c.in-Compute.is).3
