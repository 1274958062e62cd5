use Rattle.std.proofs.Common.{◌∙◌, ◌≡◌, ◌++◌, ◌+◌, ◌-◌, ◌∷◌, [], add-one, ap, arith, refl, rules, set, sym, take}
use Rattle.std.proofs.Math.Seq.{take_all, take-suc-set}
use Rattle.cnf.proofs.Appending.{length-spaced, put_sets, spaced-more}
use Rattle.cnf.specs.Inner.Append.{spaced}
use Rattle.cnf.proofs.write_starts.Goals as goal

pub loop-start-init : goal.loop-start-init
unfolding spaced
loop-start-init c = (search rules, refl)

pub loop-start-preserved : goal.loop-start-preserved
loop-start-preserved c =
    let e : take (c.loop-start.start-index + 1) (set c.loop-start.start-items c.loop-start.start-index c.loop-start.x) ≡ take c.loop-start.start-index c.loop-start.start-items ++ c.loop-start.x ∷ [] =
    rw add-one (take-suc-set c.loop-start.start-items c.loop-start.start-index c.loop-start.x (omega arith)) in
    (omega arith, e ∙ (λ i. c.loop-start.invariant.1 i ++ c.loop-start.invariant.0 i ∷ []) ∙ sym (spaced-more c.args.at c.loop-start.start-index))

pub returns : goal.returns
returns c =
    let n = length-spaced c.args.at c.args.n in
    let e : c.loop-start.start-index ≡ c.args.n = omega arith in
    put_sets c.args.starts.now c.args.k (c.args.k + c.args.n - c.args.k) c.loop-start.start-items (spaced c.args.at c.args.n)
    (sym (take_all c.loop-start.start-index c.loop-start.start-items (omega arith)) ∙ c.loop-start.invariant.1 ∙ ap (spaced c.args.at) e)
    (omega arith) (omega arith)
