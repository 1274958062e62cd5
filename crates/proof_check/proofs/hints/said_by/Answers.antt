use Rattle.std.proofs.Common.{sym, refl, ap, ◌∙◌}
use Rattle.proof_propagation.specs.Hint.{hint_of}
use Rattle.proof_propagation.specs.Inner.Store.{clause_in}
use Rattle.proof_propagation.proofs.Standing.{first-length, first_at}
use Rattle.proof_check.specs.Inner.Held.{state_in}
use Rattle.proof_check.specs.Inner.Rows.{said_by}
use Rattle.proof_check.proofs.Hinting.{said_over, said_late, said_far, said_there}
use Rattle.proof_check.proofs.hints.said_by.Goals as goal

pub returns-then-not-is_going : goal.returns-then-not-is_going
returns-then-not-is_going c =
    let s = state_in c.args.store c.args.starts.now c.args.marks.now c.args.p in
    said_over s c.in-Hint.h (sym c.is_going.ensures ∙ c.if-not-is_going.true) ∙ ap (said_by s) (sym c.in-Hint.is)

pub returns-then-is_conflicted : goal.returns-then-is_conflicted
returns-then-is_conflicted c =
    let s = state_in c.args.store c.args.starts.now c.args.marks.now c.args.p in
    said_late s c.in-Hint.h (sym c.is_going.ensures ∙ c.if-not-is_going.false) (sym c.is_conflicted.ensures ∙ c.if-is_conflicted.true) ∙ ap (said_by s) (sym c.in-Hint.is)

pub returns-then-p-i : goal.returns-then-p-i
returns-then-p-i c =
    let s = state_in c.args.store c.args.starts.now c.args.marks.now c.args.p in
    said_far s c.in-Hint.h (sym c.is_going.ensures ∙ c.if-not-is_going.false) (sym c.is_conflicted.ensures ∙ c.if-is_conflicted.false) (rw first-length c.if-p-i.true) ∙ ap (said_by s) (sym c.in-Hint.is)

pub returns-else-p-i : goal.returns-else-p-i
returns-else-p-i c =
    let s = state_in c.args.store c.args.starts.now c.args.marks.now c.args.p in
    c.scan.ensures
    ∙ ap (hint_of c.args.marks.now) (sym (first_at (clause_in c.args.store c.args.starts.now c.args.p.given) c.args.p.count c.in-Hint.h c.if-p-i.false))
    ∙ said_there s c.in-Hint.h (sym c.is_going.ensures ∙ c.if-not-is_going.false) (sym c.is_conflicted.ensures ∙ c.if-is_conflicted.false) (rw first-length c.if-p-i.false)
    ∙ ap (said_by s) (sym c.in-Hint.is)

pub returns-in-Literal : goal.returns-in-Literal
unfolding said_by
returns-in-Literal c = rw c.in-Literal.is refl

pub returns-in-Close : goal.returns-in-Close
unfolding said_by
returns-in-Close c = rw c.in-Close.is refl

pub returns-in-End : goal.returns-in-End
unfolding said_by
returns-in-End c = rw c.in-End.is refl

pub returns-in-Unreadable : goal.returns-in-Unreadable
unfolding said_by
returns-in-Unreadable c = rw c.in-Unreadable.is refl
