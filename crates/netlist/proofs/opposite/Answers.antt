use Rattle.netlist.proofs.Literals.{xor_one}
use Rattle.netlist.proofs.opposite.Goals as goal

pub returns : goal.returns
returns c = xor_one c.args.l
