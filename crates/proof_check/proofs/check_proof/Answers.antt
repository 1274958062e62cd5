use Rattle.std.proofs.Common.{refl}
use Rattle.proof_check.proofs.Going.{between_start, answered, refuted}
use Rattle.proof_check.proofs.check_proof.Goals as goal

pub finish-checked-requires-clause-between : goal.finish-checked-requires-clause-between
finish-checked-requires-clause-between c =
    between_start _ refl c.args.from c.args.base c.args.count c.args.used c.args.starts.now c.args.marks.now c.requires c.fill.new.self (c.fill.ensures.after (λ y e. e)) _

pub returns : goal.returns
returns c =
    let e = c.finish-checked.ensures in
    record {
      value = answered _ refl c.args.from c.args.base c.args.count c.args.used c.args.starts.now c.args.marks.now c.requires c.fill.new.self (c.fill.ensures.after (λ y e. e)) _ _ _ _ e;
      refutes = refuted _ refl c.args.from c.args.base c.args.count c.args.used c.args.starts.now c.args.marks.now c.requires c.fill.new.self (c.fill.ensures.after (λ y e. e)) _ _ _ _ e;
    }
