use Rattle.std.proofs.Common.{◌≡◌, Option, Some, None, Ok}
use Rattle.std.specs.Option.{ok_or}
use Rattle.proof.specs.declared.Refusal.{Refusal}
use Prim.Native.Nat.{ℕ, ◌+◌}
use mathlib.Core.Path.{sym, ◌∙◌}
use lib.ListN.{take}
use lib.Seq.{length-take-le}
use Rattle.proof.proofs.Stood.{begins-stood}
use Rattle.proof.proofs.parts.check_parts.Goals as goal

some_of : (x : Option ℕ) (e : Refusal) (u : ℕ) → ok_or x e ≡ Ok u → x ≡ Some u
some_of None e u h = cc
some_of (Some v) e u h = cc

pub check_proof-verdict-requires : goal.check_proof-verdict-requires
check_proof-verdict-requires c =
    begins-stood c.args.words.now c.args.starts.now (take (c.args.variables + 1) c.args.marks.now) c.args.report.now c.args.from c.args.count c.in_ok-used.used c.args.variables c.requires.0 (length-take-le (c.args.variables + 1) c.args.marks.now c.requires.1) c.requires.2 c.requires.3 (sym c.stand.ensures ∙ some_of _ Refusal.Unfit _ (sym c.ok_or.ensures.value ∙ c.in_ok-used.was))
