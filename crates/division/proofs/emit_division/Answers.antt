use mathlib.Core.Path.{◌∙◌, sym}
use Prim.Native.Nat.{◌*◌, suc}
use native.Mathlib.Omega.{arith}
use lib.ListN.{length}
use Rattle.cnf.proofs.Appending.{lent_of}
use Rattle.netlist.proofs.Emitting.{emitted_counted, emitted-written, ready-clauses}
use Rattle.division.proofs.Division.{all_sized, formula}
use Rattle.division.proofs.emit_division.Goals as goal

pub write_division-requires : goal.write_division-requires
write_division-requires c =
    let w = length c.args.s.now in
    rw (← formula 18 w, ← formula 72 w) (record {
      lent = lent_of _ _ _ _ (ready-clauses (4 * suc w * w) c.requires.ready (omega (arith, formula 18 w)) (omega (arith, formula 72 w))) (sym c.fits.ensures ∙ c.if-fits.true);
      s_bound = c.requires.ready.next;
      d_len = c.requires.d_len;
      s_len_bound = c.requires.s_len_bound;
    })

pub returns-then-fits : goal.returns-then-fits
returns-then-fits c = emitted-written c.write_division.ensures c.counted-next.ensures (all_sized _ _ _ _)

pub returns : goal.returns
returns c = emitted_counted _ _ (sym c.fits.ensures ∙ c.if-fits.false) c.counted-next.ensures (all_sized _ _ _ _)
