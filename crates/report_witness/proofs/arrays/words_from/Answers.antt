use mathlib.Core.Path.{refl}
use native.Mathlib.Omega.{arith}
use Rattle.report_witness.specs.Lead.{words_from}
use Rattle.report_witness.proofs.Padding.{words-next}
use Rattle.report_witness.proofs.arrays.words_from.Goals as goal

pub loop-i-init : goal.loop-i-init
unfolding words_from
loop-i-init c = refl

pub loop-i-preserved : goal.loop-i-preserved
loop-i-preserved c = rw c.loop-i.invariant (words-next c.args.report.now c.args.from c.loop-i.i (omega (arith, c.loop-i-test.true, c.requires)) c.word_at.result c.word_at.ensures)
