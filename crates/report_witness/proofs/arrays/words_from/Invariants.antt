use mathlib.Core.Path.{◌≡◌}
use Rattle.report_witness.specs.Lead.{words_from, padded}
use Rattle.report_witness.proofs.arrays.words_from.Given as goal

abbrev pub invariant-loop-i : goal.invariant-loop-i
invariant-loop-i l = l.words ≡ padded 96 (words_from l.report l.from l.i)
