use native.Mathlib.Omega.{arith}
use Rattle.routine.proofs.Flat.{few_if, few-simple, found, never_missing, none_left, seeks}
use Rattle.routine.proofs.seeking.access_at.Goals as goal

pub returns-in-Missing : goal.returns-in-Missing
returns-in-Missing c =
    seeks _ _ _ _ _ _ c.first_command-at.ensures c.no_counts-k.ensures
    (never_missing _ _ _ _ _ _ c.loop-at.invariant _ c.command_at.ensures (omega arith) c.in-Missing.is)

pub counts_after_if-k-requires : goal.counts_after_if-k-requires
counts_after_if-k-requires c =
    few_if _ _ _ _ _ _ c.loop-at.invariant _ c.command_at.ensures (omega arith) _ c.requires c.first_command-at.ensures c.no_counts-k.ensures _ c.in-If.is

pub returns-in-Some : goal.returns-in-Some
returns-in-Some c =
    seeks _ _ _ _ _ _ c.first_command-at.ensures c.no_counts-k.ensures
    (found _ _ _ _ _ _ c.loop-at.invariant _ c.command_at.ensures (omega arith) _
    c.in-Simple.is _ c.access_here.ensures _ c.in-Some.is)

pub counts_after-k-requires : goal.counts_after-k-requires
counts_after-k-requires c =
    few-simple _ _ _ _ _ _ c.loop-at.invariant _ c.command_at.ensures (omega arith) _ c.requires c.first_command-at.ensures c.no_counts-k.ensures _ c.in-Simple.is

pub returns : goal.returns
returns c =
    seeks _ _ _ _ _ _ c.first_command-at.ensures c.no_counts-k.ensures
    (none_left _ _ _ _ _ _ c.loop-at.invariant (omega arith))
