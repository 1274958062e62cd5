use Rattle.std.proofs.Common.{◌≡◌, Err, sym, ◌∙◌, rules}
use Rattle.proof_check.proofs.Turning.{step_literal, step_close, step-refused, step_end, end-refused, step-unreadable}
use Rattle.proof_check.proofs.turns.turn.Goals as goal

pub returns-in_ok-on_literal-in-Literal : goal.returns-in_ok-on_literal-in-Literal
returns-in_ok-on_literal-in-Literal c =
    λ t ready read _.
    let e = sym read ∙ c.in-Literal.is in
    step_literal _ _ _ _ _ _ _ _ _ _ _ c.in-Literal.l e (c.in_ok-on_literal-in-Literal.ensures _ _ _ ready e)

pub returns-in_err-on_literal-in-Literal : goal.returns-in_err-on_literal-in-Literal
returns-in_err-on_literal-in-Literal c =
    λ t ready read _.
    let e = sym read ∙ c.in-Literal.is in
    let x : c.from_residual.result ≡ Err c.in_err-on_literal-in-Literal.field-0.0 = search rules in
    rw x (step_literal _ _ _ _ _ _ _ _ _ _ _ c.in-Literal.l e (c.in_err-on_literal-in-Literal.ensures _ _ _ ready e))

pub returns-in-Hint : goal.returns-in-Hint
returns-in-Hint c = λ t ready read neither. step-refused _ _ _ _ _ _ _ c.in-Hint.h (sym read ∙ c.in-Hint.is) _ (c.refuse_hint.ensures _ _ _ _ (rw c.in-Hint.is at neither))

pub returns-in_ok-on_close-in-Close : goal.returns-in_ok-on_close-in-Close
returns-in_ok-on_close-in-Close c =
    λ t ready read _.
    let e = sym read ∙ c.in-Close.is in
    step_close _ _ _ _ _ _ _ _ _ _ _ e (c.in_ok-on_close-in-Close.ensures _ _ _ ready e)

pub returns-in_ok-on_end-in-End : goal.returns-in_ok-on_end-in-End
returns-in_ok-on_end-in-End c = λ t ready read _. step_end _ _ _ _ _ _ _ (sym read ∙ c.in-End.is) _ (c.in_ok-on_end-in-End.ensures _ _ _ _ c.proof_len.ensures)

pub returns-in_err-on_close-in-Close : goal.returns-in_err-on_close-in-Close
returns-in_err-on_close-in-Close c =
    λ t ready read _.
    let e = sym read ∙ c.in-Close.is in
    let x : c.from_residual-in_err-on_close-in-Close.result ≡ Err c.in_err-on_close-in-Close.field-0.0 = search rules in
    rw x (step_close _ _ _ _ _ _ _ _ _ _ _ e (c.in_err-on_close-in-Close.ensures _ _ _ ready e))

pub returns-in_err-on_end-in-End : goal.returns-in_err-on_end-in-End
returns-in_err-on_end-in-End c =
    λ t ready read _.
    let x : c.from_residual-in_err-on_end-in-End.result ≡ Err c.in_err-on_end-in-End.field-0.0 = search rules in
    rw x (end-refused _ _ _ _ _ _ _ (sym read ∙ c.in-End.is) _ (c.in_err-on_end-in-End.ensures _ _ _ _ c.proof_len.ensures))

pub returns-in-Unreadable : goal.returns-in-Unreadable
returns-in-Unreadable c = λ t ready read _. step-unreadable _ _ _ _ _ _ _ (sym read ∙ c.in-Unreadable.is)
