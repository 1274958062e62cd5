use Rattle.std.proofs.Common.{ap, length, arith}
use Rattle.proof_reader.proofs.Running.{run_none, run-read, runs_here, runs-next}
use Rattle.proof_propagation.proofs.literals.RunLiterals.next.Goals as goal

pub bounds-self-at : goal.bounds-self-at
bounds-self-at c = runs_here c.args.self.now.proof.now c.args.self.now.at c.requires.0

pub returns-then-self-at-ne1-clause-none : goal.returns-then-self-at-ne1-clause-none
returns-then-self-at-ne1-clause-none c = run_none c.args.self.now.proof.now c.args.self.now.at c.if-self-at-ne1.true

pub whole_word_at-requires : goal.whole_word_at-requires
whole_word_at-requires c =
    omega (arith, runs_here c.args.self.now.proof.now _ (runs-next c.args.self.now.proof.now c.args.self.now.at c.requires.0 c.if-self-at-ne1.false))

pub returns-clause-some : goal.returns-clause-some
returns-clause-some c =
    let e = run-read c.args.self.now.proof.now c.args.self.now.at c.whole_word_at.result c.if-self-at-ne1.false c.whole_word_at.ensures in
    (e, (runs-next c.args.self.now.proof.now c.args.self.now.at c.requires.0 c.if-self-at-ne1.false, omega (arith, c.requires.1, ap length e)))
