use Rattle.std.proofs.Common.{◌-◌, take, drop, rules, tests, ◌∙◌, ap}
use Rattle.std.proofs.lemmas.Iterator.{YieldsList-from_slice}
use Rattle.std.proofs.lemmas.Iterator.Search.{all_from_yields_List}
use Rattle.proof_propagation.proofs.Standing.{lent_part}
use Rattle.proof_check.specs.Check.{of_variable}
use Rattle.proof.specs.Fit.{literals_fit}
use Rattle.proof.proofs.fits.literals_fit.Goals as goal

pub returns : goal.returns
returns c =
    let xs = take (c.args.to - c.args.from) (drop c.args.from c.args.words.now) in
    all_from_yields_List (of_variable c.args.variables) _ _ _ c.all.ensures.ran (YieldsList-from_slice xs cc) (λ x b q k. search (rules, tests))
    ∙ ap (literals_fit c.args.variables) (lent_part c.args.words.now c.args.from c.args.to c.requires.0)
