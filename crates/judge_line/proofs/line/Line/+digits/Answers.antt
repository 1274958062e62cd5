-- A number below 10 is its one digit; the digits of any other are those of its tenth, then its last.
use Rattle.std.proofs.Common.{ℕ, ◌/◌, [], ◌∷◌, ◌++◌, sym, ap, ◌∙◌}
use Rattle.judge_line.specs.Text.{decimal}
use Rattle.judge_line.proofs.Laid.{appended, meant}
use Rattle.judge_line.proofs.Digits.{single, several}
use Rattle.judge_line.proofs.line.Line.+digits.Goals as goal

pub returns-then-n-lt10 : goal.returns-then-n-lt10
returns-then-n-lt10 t c =
    meant c.byte.ensures (ap (λ (b : ℕ). b ∷ []) c.digit.ensures ∙ sym (single c.args.n c.if-n-lt10.true))

pub returns : goal.returns
returns t c =
    meant (appended c.digits.ensures c.byte-2.ensures) (ap (λ (b : ℕ). decimal (c.args.n / 10) ++ (b ∷ [])) c.digit-2.ensures ∙ sym (several c.args.n c.if-n-lt10.false))
