use mathlib.Core.Path.{◌∙◌, sym}
use lib.ListN.{length}
use Rattle.netlist.proofs.Emitting.{emitted_counted, emitted-written}
use Rattle.comparison.proofs.Compare.{equality-sized, last-same}
use Rattle.comparison.proofs.comparisons.equal.Goals as goal

pub returns-then-fits : goal.returns-then-fits
returns-then-fits c =
    record {
      emitted = emitted-written c.write_equal.ensures c.counted-net.ensures (equality-sized _ _ _ _);
      lit = last-same c.args.n.next (length c.args.a.now) _ c.requires.a_nonzero c.counted-net.ensures.next;
    }

pub returns : goal.returns
returns c =
    record {
      emitted = emitted_counted _ _ (sym c.fits.ensures ∙ c.if-fits.false) c.counted-net.ensures (equality-sized _ _ _ _);
      lit = last-same c.args.n.next (length c.args.a.now) _ c.requires.a_nonzero c.counted-net.ensures.next;
    }
