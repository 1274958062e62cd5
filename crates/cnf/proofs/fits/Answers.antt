use mathlib.Core.Path.{sym}
use borrow.Author.Tests.{le-leb, lt-leb}
use Rattle.cnf.proofs.fits.Goals as goal

pub returns-then-s-count : goal.returns-then-s-count
returns-then-s-count c = sym (rw (le-leb _ _ c.if-s-count.true))

pub returns-else-s-count : goal.returns-else-s-count
returns-else-s-count c = rw (lt-leb _ _ c.if-s-count.false)
