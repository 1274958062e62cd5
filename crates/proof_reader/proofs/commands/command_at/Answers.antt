use native.Mathlib.Omega.{arith}
use Rattle.proof_reader.proofs.Reading.{read_missing, read-end, read_close, read-cut, read_unknown, read_literal, read_hint}
use Rattle.proof_reader.proofs.commands.command_at.Goals as goal

pub returns-then-report-at : goal.returns-then-report-at
returns-then-report-at c = read_missing c.args.report.now c.args.at c.if-report-at.true

pub returns-then-kind-eq0 : goal.returns-then-kind-eq0
returns-then-kind-eq0 c =
    read-end c.args.report.now c.args.at c.if-report-at.false c.byte_at-kind.result c.byte_at-kind.ensures c.if-kind-eq0.true

pub returns-then-kind-eq3 : goal.returns-then-kind-eq3
returns-then-kind-eq3 c =
    read_close c.args.report.now c.args.at c.if-report-at.false c.byte_at-kind.result c.byte_at-kind.ensures c.if-kind-eq3.true

pub returns-then-report-at-lt5 : goal.returns-then-report-at-lt5
returns-then-report-at-lt5 c =
    read-cut c.args.report.now c.args.at c.if-report-at.false c.byte_at-kind.result c.byte_at-kind.ensures c.if-kind-eq0.false c.if-kind-eq3.false (omega arith)

pub returns-in-1 : goal.returns-in-1
returns-in-1 c =
    read_literal c.args.report.now c.args.at c.if-report-at.false c.byte_at-kind.result c.byte_at-kind.ensures (omega arith) c.in-1.is c.whole_word_at.result c.whole_word_at.ensures

pub returns-in-2 : goal.returns-in-2
returns-in-2 c =
    read_hint c.args.report.now c.args.at c.if-report-at.false c.byte_at-kind.result c.byte_at-kind.ensures (omega arith) c.in-2.is c.whole_word_at-in-2.result c.whole_word_at-in-2.ensures

pub returns-in_default : goal.returns-in_default
returns-in_default c =
    read_unknown c.args.report.now c.args.at c.if-report-at.false c.byte_at-kind.result c.byte_at-kind.ensures c.if-kind-eq0.false c.if-kind-eq3.false (omega arith) (λ e. omega arith) (λ e. omega arith)
