use Rattle.std.proofs.Common.{◌≡◌, ℕ, sym, refl, ◌∙◌, arith}
use Rattle.proof_propagation.specs.declared.Hint.{Hint}
use Rattle.proof_check.proofs.Rowing.{rowing_less, rowing_more, row-takes, row-run, row_conflict, row_unit, row_fits}
use Rattle.proof_check.proofs.rows.over_hints.Goals as goal

differ : Hint.Neither ≡ Hint.Conflict → ⊥
differ e = let y : ◌≡◌ {A = ℕ} 0 1 = cc in omega arith

differ-unit : (l : ℕ) → Hint.Neither ≡ Hint.Unit l → ⊥
differ-unit l e = let y : ◌≡◌ {A = ℕ} 0 1 = cc in omega arith

pub undo-requires-clause-runs_for : goal.undo-requires-clause-runs_for
undo-requires-clause-runs_for c =
    let z = c.loop-store.invariant.0.between.ready in
    let y = row-takes _ _ _ _ _ _ z _ c.command-command.ensures Hint.Conflict differ (sym c.in-Conflict.is ∙ c.said_by.ensures) in
    row-run _ _ _ _ _ _ z _ c.command-command.ensures _ y

pub loop-store-smaller-in-Conflict : goal.loop-store-smaller-in-Conflict
loop-store-smaller-in-Conflict c =
    let z = c.loop-store.invariant.0.between.ready in
    let y = row-takes _ _ _ _ _ _ z _ c.command-command.ensures Hint.Conflict differ (sym c.in-Conflict.is ∙ c.said_by.ensures) in
    rowing_less _ _ _ _ _ _ _ c.loop-store.invariant.0 _ _ _ (row_conflict _ _ _ _ _ _ z _ c.command-command.ensures _ y c.undo.new.marks c.with_hint-q.result refl c.with_hint-q.ensures c.undo.ensures)

pub loop-store-preserved-in-Conflict : goal.loop-store-preserved-in-Conflict
loop-store-preserved-in-Conflict c =
    let z = c.loop-store.invariant.0.between.ready in
    let y = row-takes _ _ _ _ _ _ z _ c.command-command.ensures Hint.Conflict differ (sym c.in-Conflict.is ∙ c.said_by.ensures) in
    let d = row_conflict _ _ _ _ _ _ z _ c.command-command.ensures _ y c.undo.new.marks c.with_hint-q.result refl c.with_hint-q.ensures c.undo.ensures in
    (rowing_more _ _ _ _ _ _ _ c.loop-store.invariant.0 _ _ _ d c.undo.auto.marks, c.undo.auto.marks ∙ c.loop-store.invariant.1, c.loop-store.invariant.2)

pub decide-q-requires : goal.decide-q-requires
decide-q-requires c =
    let z = c.loop-store.invariant.0.between.ready in
    let y = row-takes _ _ _ _ _ _ z _ c.command-command.ensures (Hint.Unit c.in-Unit.l) (differ-unit _) (sym c.in-Unit.is ∙ c.said_by.ensures) in
    (row_fits _ _ _ _ _ _ z _ c.command-command.ensures _ y c.in-Unit.l refl, omega (arith, z.within, z.limit), z.hinted, z.noted)

pub loop-store-smaller : goal.loop-store-smaller
loop-store-smaller c =
    let z = c.loop-store.invariant.0.between.ready in
    let y = row-takes _ _ _ _ _ _ z _ c.command-command.ensures (Hint.Unit c.in-Unit.l) (differ-unit _) (sym c.in-Unit.is ∙ c.said_by.ensures) in
    let e = c.decide-q.ensures in
    rowing_less _ _ _ _ _ _ _ c.loop-store.invariant.0 _ _ _ (row_unit _ _ _ _ _ _ z _ c.command-command.ensures _ y c.decide-q.new.marks c.decide-q.new.trail c.decide-q.result c.in-Unit.l refl e.marks_after e.trail_after e.value)

pub loop-store-preserved : goal.loop-store-preserved
loop-store-preserved c =
    let z = c.loop-store.invariant.0.between.ready in
    let y = row-takes _ _ _ _ _ _ z _ c.command-command.ensures (Hint.Unit c.in-Unit.l) (differ-unit _) (sym c.in-Unit.is ∙ c.said_by.ensures) in
    let e = c.decide-q.ensures in
    let d = row_unit _ _ _ _ _ _ z _ c.command-command.ensures _ y c.decide-q.new.marks c.decide-q.new.trail c.decide-q.result c.in-Unit.l refl e.marks_after e.trail_after e.value in
    (rowing_more _ _ _ _ _ _ _ c.loop-store.invariant.0 _ _ _ d c.decide-q.auto.marks, c.decide-q.auto.marks ∙ c.loop-store.invariant.1, c.decide-q.auto.trail ∙ c.loop-store.invariant.2)
