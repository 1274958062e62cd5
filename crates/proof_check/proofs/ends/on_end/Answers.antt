use Rattle.std.proofs.Common.{sym, ◌∙◌, arith}
use Rattle.proof_check.proofs.Ending.{end_early, end_trailing, end-accepted}
use Rattle.proof_check.proofs.ends.on_end.Goals as goal

pub returns-then-is_going : goal.returns-then-is_going
returns-then-is_going c = λ w s m r _. end_early c.args.base w s m r c.args.p (sym c.is_going.ensures ∙ c.if-is_going.true)

pub returns-then-p-length : goal.returns-then-p-length
returns-then-p-length c = λ w s m r n. end_trailing c.args.base w s m r c.args.p (sym c.is_going.ensures ∙ c.if-is_going.false) (omega arith)

pub returns : goal.returns
returns c = λ w s m r n. end-accepted c.args.base w s m r c.args.p (sym c.is_going.ensures ∙ c.if-is_going.false) (omega arith)
