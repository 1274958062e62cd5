use Rattle.std.proofs.Common.{sym, ◌∙◌}
use Rattle.proof_check.proofs.Hinting.{refuse_over, refuse_far, refuse_late, refuse_neither}
use Rattle.proof_check.proofs.hints.refuse_hint.Goals as goal

pub returns-then-not-is_going : goal.returns-then-not-is_going
returns-then-not-is_going c = λ w s m r _. refuse_over c.args.base w s m r c.args.p c.args.h (sym c.is_going.ensures ∙ c.if-not-is_going.true)

pub returns-then-p-h : goal.returns-then-p-h
returns-then-p-h c = λ w s m r _. refuse_far c.args.base w s m r c.args.p c.args.h (sym c.is_going.ensures ∙ c.if-not-is_going.false) c.if-p-h.true

pub returns-then-is_conflicted : goal.returns-then-is_conflicted
returns-then-is_conflicted c = λ w s m r _. refuse_late c.args.base w s m r c.args.p c.args.h (sym c.is_going.ensures ∙ c.if-not-is_going.false) c.if-p-h.false (sym c.is_conflicted.ensures ∙ c.if-is_conflicted.true)

pub returns : goal.returns
returns c = λ w s m r q. refuse_neither c.args.base w s m r c.args.p c.args.h (sym c.is_going.ensures ∙ c.if-not-is_going.false) c.if-p-h.false (sym c.is_conflicted.ensures ∙ c.if-is_conflicted.false) q
