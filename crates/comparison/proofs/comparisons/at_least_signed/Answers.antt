use Rattle.comparison.proofs.Compare.{decides_opposite}
use Rattle.comparison.proofs.comparisons.at_least_signed.Goals as goal

pub returns : goal.returns
returns c = decides_opposite c.less_signed.ensures c.turned.ensures
