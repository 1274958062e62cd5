use Rattle.std.proofs.Common.{rules}
use Rattle.run_inputs.proofs.Counted.{told}
use Rattle.run_inputs.proofs.check_inputs.Goals as goal

pub returns : goal.returns
returns c =
    told _ _ _ _ _ (rw c.input_count.ensures at c.if-inputs-input_count.false) _ c.check_words.ensures _ (search rules)
