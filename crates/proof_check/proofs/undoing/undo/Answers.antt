use Rattle.std.proofs.Common.{ap, ◌∙◌}
use Rattle.proof_propagation.specs.Inner.Clear.{clear}
use Rattle.proof_check.proofs.Trailing.{trail_undoes}
use Rattle.proof_check.proofs.undoing.undo.Goals as goal

pub returns-then-decided-trail : goal.returns-then-decided-trail
returns-then-decided-trail c =
    trail_undoes _ _ _ _ _ c.args.p c.requires.between.ready.trailed c.requires.runs_for c.if-decided-trail.true c.clear_literals.ensures (c.clear_literals-then-decided-trail.ensures ∙ ap (clear c.clear_literals.new.marks) c.run.ensures.same)
