use mathlib.Core.Path.{refl}
use Rattle.arithmetic.proofs.Input.{inputs_taken}
use Rattle.arithmetic.proofs.input_words.take_inputs.Goals as goal

pub returns : goal.returns
returns c = inputs_taken _ _ _ refl refl
