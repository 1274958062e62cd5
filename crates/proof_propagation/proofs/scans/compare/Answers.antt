use Rattle.std.proofs.Common.{refl, sym, ◌∙◌}
use Rattle.proof_propagation.proofs.Scanning.{scanned_start, fits_parts, scanned_false, scanned_first, scanned_again, scanned_other}
use Rattle.proof_propagation.proofs.scans.compare.Goals as goal

pub loop-l-init : goal.loop-l-init
loop-l-init g c = (c.requires.readable, scanned_start c.args.marks.now _ c.requires.has_marks)

pub is_false-requires : goal.is_false-requires
is_false-requires g c = (fits_parts _ _ _ _ c.loop-l.invariant.1.fits c.in-Some.ensures.some.0).0.1

pub returns-then-found-l : goal.returns-then-found-l
returns-then-found-l g c =
    scanned_other c.args.marks.now _ c.loop-l.found _ _ _ c.loop-l.invariant.1 c.in-Some.ensures.some.0 (sym c.is_false.ensures ∙ c.if-not-is_false.true) c.if-found-eq0.false c.if-found-l.true

pub loop-l-preserved-then-found-eq0 : goal.loop-l-preserved-then-found-eq0
loop-l-preserved-then-found-eq0 g c =
    let e = c.in-Some.ensures.some in
    (e.1, scanned_first c.args.marks.now _ c.loop-l.found _ _ _ c.loop-l.invariant.1 e.0 _ (sym c.is_false.ensures ∙ c.if-not-is_false.true) c.if-found-eq0.true refl)

pub loop-l-preserved-else-found-l : goal.loop-l-preserved-else-found-l
loop-l-preserved-else-found-l g c =
    let e = c.in-Some.ensures.some in
    (e.1, scanned_again c.args.marks.now _ c.loop-l.found _ _ _ c.loop-l.invariant.1 e.0 _ (sym c.is_false.ensures ∙ c.if-not-is_false.true) c.if-found-l.false refl)

pub loop-l-preserved : goal.loop-l-preserved
loop-l-preserved g c =
    let e = c.in-Some.ensures.some in
    (e.1, scanned_false c.args.marks.now _ c.loop-l.found _ _ _ c.loop-l.invariant.1 e.0 _ (sym c.is_false.ensures ∙ c.if-not-is_false.false) refl)
