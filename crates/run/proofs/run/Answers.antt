use native.Mathlib.Omega.{arith}
use Rattle.run.proofs.Admitting.{answers_run}
use Rattle.run.proofs.run.Goals as goal

pub returns-clause-run_answers : goal.returns-clause-run_answers
returns-clause-run_answers c =
    answers_run _ _ _ _ _ c.in_ok-accepted.ensures _ c.run_to_end-state.ensures (omega arith) (omega arith) _ _ c.hand_out.ensures c.hand_out-2.ensures
