use mathlib.Core.Path.{sym, ◌∙◌}
use native.Mathlib.Omega.{arith}
use Rattle.run_inputs.proofs.Scan.{scan_start, scan_over, scan_room, read_room, scan_great}
use Rattle.run_inputs.proofs.check_reads.Goals as goal

pub loop-n-init : goal.loop-n-init
loop-n-init c = scan_start _ _ _ _ c.requires _ _ _ c.input_count-end.ensures c.first_command-at.ensures (c.from-n.ensures ∙ c.given_of.ensures)

pub returns-then-not-fits : goal.returns-then-not-fits
returns-then-not-fits c = rw (← (c.from-n.ensures ∙ c.given_of.ensures)) (scan_great _ _ _ _ _ _ _ c.loop-n.invariant (omega arith) _ c.byte_at-op.ensures (c.is_read.ensures.0 c.if-is_read.true) _ c.byte_at.ensures (sym c.fits.ensures ∙ c.if-not-fits.true))

pub loop-n-smaller : goal.loop-n-smaller
loop-n-smaller c =
    let l = scan_room _ _ _ _ _ _ _ c.loop-n.invariant (omega arith) _ c.byte_at-op.ensures in
    omega (arith, l, c.size_by_op-at.ensures)

pub loop-n-smaller-then-is_read : goal.loop-n-smaller-then-is_read
loop-n-smaller-then-is_read c =
    let l = read_room _ _ _ _ _ _ _ c.loop-n.invariant (omega arith) _ c.byte_at-op.ensures (c.is_read.ensures.0 c.if-is_read.true) in
    omega (arith, l)

pub returns : goal.returns
returns c = rw (← (c.from-n.ensures ∙ c.given_of.ensures)) (scan_over _ _ _ _ _ _ _ c.loop-n.invariant (omega arith))
