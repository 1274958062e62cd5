use Rattle.std.proofs.Common.{sym, ◌∙◌}
use Rattle.proof_propagation.proofs.Clearing.{clear-turn, clear-end}
use Rattle.proof_propagation.proofs.clears.clear_literals.Goals as goal

pub loop-l-preserved : goal.loop-l-preserved
loop-l-preserved g c =
    let e = c.in-Some.ensures.some in
    (e.1, c.clear_literal.auto.marks ∙ c.loop-l.invariant.1, clear-turn c.loop-l.marks c.clear_literal.new.marks _ _ _ e.0 c.clear_literal.ensures ∙ c.loop-l.invariant.2)

pub returns : goal.returns
returns g c = sym (clear-end c.loop-l.marks _ c.in_default.ensures.none) ∙ c.loop-l.invariant.2
