use Rattle.std.proofs.Common.{◌≡◌, ℕ, Bool, true, ◌+◌, ◌-◌, ◌<◌, sym, ◌∙◌, arith}
use Rattle.routine_header.specs.Header.{first_bad}
use Rattle.routine_header.proofs.Firsts.{bad_none, bad_here, bad_next}
use Rattle.routine_header.proofs.first_bad.Goals as goal

-- one place fewer is left
next : (ok : ℕ → Bool) (step at n k : ℕ) → k < n → ok at ≡ true → first_bad ok step (n - (k + 1)) (at + step) ≡ first_bad ok step (n - k) at
next ok step at n k l e = let fewer : n - (k + 1) ≡ n - k - 1 = omega arith in rw fewer (bad_next ok step at (n - k) (omega arith) e)

pub returns-then-not-ok : goal.returns-then-not-ok
returns-then-not-ok g c = λ P is.
    bad_here P c.args.step c.loop.at _ (omega arith) (sym (is c.loop.at _ (omega arith) c.ok.ensures) ∙ c.if-not-ok.true) ∙ c.loop.invariant.same P is

pub loop-preserved : goal.loop-preserved
loop-preserved g c = record {
  near = omega arith;
  same = λ P is.
      next P c.args.step c.loop.at c.args.n c.loop.counter c.loop-test.true (sym (is c.loop.at _ (omega arith) c.ok.ensures) ∙ c.if-not-ok.false) ∙ c.loop.invariant.same P is;
}

pub returns : goal.returns
returns g c = λ P is. bad_none P c.args.step c.loop.at _ (omega arith) ∙ c.loop.invariant.same P is
