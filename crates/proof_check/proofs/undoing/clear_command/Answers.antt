use Rattle.std.proofs.Common.{sym, refl, ◌∙◌}
use Rattle.proof_propagation.specs.Inner.Clear.{clear}
use Rattle.proof_check.specs.Inner.Undo.{touches}
use Rattle.proof_check.proofs.Cleaning.{undo_literal, undo_hint, undo_far}
use Rattle.proof_check.proofs.undoing.clear_command.Goals as goal

pub returns-in-Literal : goal.returns-in-Literal
returns-in-Literal c = undo_literal _ _ _ _ _ _ _ _ c.in-Literal.l (sym c.command-command.ensures ∙ c.in-Literal.is) c.clear_literal.ensures

pub returns-then-i-p : goal.returns-then-i-p
returns-then-i-p c = undo_hint _ _ _ _ _ _ _ _ c.in-Hint.h (sym c.command-command.ensures ∙ c.in-Hint.is) c.if-i-p.true c.clear.ensures

pub returns-else-i-p : goal.returns-else-i-p
returns-else-i-p c = undo_far _ _ _ _ c.args.marks.now _ _ _ c.in-Hint.h (sym c.command-command.ensures ∙ c.in-Hint.is) c.if-i-p.false

pub returns-in-Close : goal.returns-in-Close
unfolding clear touches
returns-in-Close c = rw (← c.command-command.ensures, c.in-Close.is) refl

pub returns-in-End : goal.returns-in-End
unfolding clear touches
returns-in-End c = rw (← c.command-command.ensures, c.in-End.is) refl

pub returns-in-Unreadable : goal.returns-in-Unreadable
unfolding clear touches
returns-in-Unreadable c = rw (← c.command-command.ensures, c.in-Unreadable.is) refl
