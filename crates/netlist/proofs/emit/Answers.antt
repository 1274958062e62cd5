use mathlib.Core.Path.{◌∙◌, sym}
use Rattle.netlist.proofs.Emitting.{emitted_counted, emitted-written}
use Rattle.netlist.proofs.Nodes.{node_sized}
use Rattle.netlist.proofs.emit.Goals as goal

pub returns-then-fits : goal.returns-then-fits
returns-then-fits c =
    emitted-written c.write.ensures (rw (c.clause_count-clauses.ensures, c.word_count-count.ensures) at c.counted-next.ensures) (node_sized _)

pub returns : goal.returns
returns c =
    emitted_counted _ _ (rw (c.clause_count-clauses.ensures, c.word_count-count.ensures) at (sym c.fits.ensures ∙ c.if-fits.false)) (rw (c.clause_count-clauses.ensures, c.word_count-count.ensures) at c.counted-next.ensures) (node_sized _)
