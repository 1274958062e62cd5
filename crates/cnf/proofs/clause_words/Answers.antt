use Rattle.std.proofs.Common.{arith, rules}
use Rattle.cnf.proofs.Appending.{clause_worded}
use Rattle.cnf.proofs.clause_words.Goals as goal

pub returns : goal.returns
returns g c =
    clause_worded _ _ g.row.N _ _ _ c.copy_from_slice.ensures.after (search rules) (omega arith) c.requires.i_in_bounds
