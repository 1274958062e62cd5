use Rattle.std.proofs.Common.{Ok, Err}
use Rattle.std.proofs.lemmas.Result.{err_from_is_err_and}
use borrow.Author.Tests.{eq-eqb, ne_eqb}
use Rattle.slices.specs.Guard.{unless}
use Rattle.routine.proofs.Answers.{commands}
use Rattle.routine.proofs.walks.check_commands.Goals as goal

pub returns-in_err-next : goal.returns-in_err-next
returns-in_err-next c =
    let p = err_from_is_err_and c.from_residual.result c.from_residual.ensures.1 in
    rw (p.1, p.2) (commands _ _ _ _ _ (Err _) c.walk_marked.ensures c.first_command.ensures c.no_counts-nothing_yet.ensures c.in_err-next.was)

pub returns-then-next-bytes : goal.returns-then-next-bytes
unfolding unless
returns-then-next-bytes c =
    rw (eq-eqb _ _ c.if-next-bytes.true) at
    (commands _ _ _ _ _ (Ok _) c.walk_marked.ensures c.first_command.ensures c.no_counts-nothing_yet.ensures c.in_ok-next.was)

pub returns-else-next-bytes : goal.returns-else-next-bytes
unfolding unless
returns-else-next-bytes c =
    rw (ne_eqb _ _ c.if-next-bytes.false) at
    (commands _ _ _ _ _ (Ok _) c.walk_marked.ensures c.first_command.ensures c.no_counts-nothing_yet.ensures c.in_ok-next.was)
