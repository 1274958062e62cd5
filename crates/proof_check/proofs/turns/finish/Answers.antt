use Rattle.std.proofs.Common.{Ok, ◌∙◌}
use Rattle.proof_check.proofs.Going.{going-trail, going-row, going_more, going-ended, going-refused}
use Rattle.proof_check.proofs.turns.finish.Goals as goal

pub over_hints-row-requires : goal.over_hints-row-requires
over_hints-row-requires c =
    (going-trail _ _ _ _ _ _ _ _ _ c.loop-next.invariant.0 c.look_ahead-ahead.new.trail c.look_ahead-ahead.auto.trail c.look_ahead-ahead.ensures).between

pub loop-next-preserved : goal.loop-next-preserved
loop-next-preserved c =
    let g = going-row _ _ _ _ _ _ _ _ _ c.loop-next.invariant.0 c.over_hints-row.new.marks c.over_hints-row.new.trail c.over_hints-row.result c.over_hints-row.ensures c.over_hints-row.auto.marks in
    let d = c.turn.ensures c.over_hints-row.new.trail g.between.ready c.over_hints-row.ensures.read c.over_hints-row.ensures.neither in (
      going_more _ _ _ _ _ _ _ _ _ g c.turn.new.starts c.turn.new.marks _ d c.in-Ok-More.next (c.in-Ok-More.is ∙ (λ i. Ok (c.in-Ok-More.field-0-is i))) c.turn.auto.starts c.turn.auto.marks,
      c.turn.auto.starts ∙ c.loop-next.invariant.1,
      c.turn.auto.marks ∙ c.over_hints-row.auto.marks ∙ c.loop-next.invariant.2,
      c.over_hints-row.auto.trail ∙ c.look_ahead-ahead.auto.trail ∙ c.loop-next.invariant.3,
    )

pub returns-in-Ok-Ended : goal.returns-in-Ok-Ended
returns-in-Ok-Ended c =
    let g = going-row _ _ _ _ _ _ _ _ _ c.loop-next.invariant.0 c.over_hints-row.new.marks c.over_hints-row.new.trail c.over_hints-row.result c.over_hints-row.ensures c.over_hints-row.auto.marks in
    let d = c.turn.ensures c.over_hints-row.new.trail g.between.ready c.over_hints-row.ensures.read c.over_hints-row.ensures.neither in
    going-ended _ _ _ _ _ _ _ _ _ g c.turn.new.starts c.turn.new.marks _ d c.in-Ok-Ended.tally (c.in-Ok-Ended.is ∙ (λ i. Ok (c.in-Ok-Ended.field-0-is i)))

pub returns-in-Err : goal.returns-in-Err
returns-in-Err c =
    let g = going-row _ _ _ _ _ _ _ _ _ c.loop-next.invariant.0 c.over_hints-row.new.marks c.over_hints-row.new.trail c.over_hints-row.result c.over_hints-row.ensures c.over_hints-row.auto.marks in
    let d = c.turn.ensures c.over_hints-row.new.trail g.between.ready c.over_hints-row.ensures.read c.over_hints-row.ensures.neither in
    going-refused _ _ _ _ _ _ _ _ _ g c.turn.new.starts c.turn.new.marks _ d c.in-Err.refusal c.in-Err.is
