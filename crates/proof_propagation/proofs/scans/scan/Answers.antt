use Rattle.std.proofs.Common.{length, refl, sym, ap, ◌∙◌, arith}
use Rattle.proof_propagation.proofs.Scanning.{counted_end, fits_parts, counted_false, counted_more}
use Rattle.proof_propagation.proofs.scans.scan.Goals as goal

pub is_false-requires : goal.is_false-requires
is_false-requires g c = (fits_parts _ _ _ _ c.loop-l.invariant.2.fits c.in-Some.ensures.some.0).0.1

pub loop-l-preserved-then-not-is_false : goal.loop-l-preserved-then-not-is_false
loop-l-preserved-then-not-is_false g c =
    let e = c.in-Some.ensures.some in
    (e.1, omega (arith, c.loop-l.invariant.1, ap length e.0), counted_more c.args.marks.now _ c.loop-l.left c.loop-l.found _ _ _ c.loop-l.invariant.2 e.0 _ _ (sym c.is_false.ensures ∙ c.if-not-is_false.true) refl refl)

pub loop-l-preserved : goal.loop-l-preserved
loop-l-preserved g c =
    let e = c.in-Some.ensures.some in
    (e.1, omega (arith, c.loop-l.invariant.1, ap length e.0), counted_false c.args.marks.now _ c.loop-l.left c.loop-l.found _ _ _ c.loop-l.invariant.2 e.0 _ _ (sym c.is_false.ensures ∙ c.if-not-is_false.false) refl refl)

pub returns-then-left-lt2 : goal.returns-then-left-lt2
returns-then-left-lt2 g c =
    c.told.ensures ∙ counted_end c.args.marks.now _ c.loop-l.left c.loop-l.found _ c.loop-l.invariant.2 c.in_default.ensures.none c.if-left-lt2.true
