use Rattle.judge_line.proofs.line.Line.+digits.Given as goal

-- the digits of a tenth are written first
abbrev pub decreases-digits : goal.decreases-digits
decreases-digits l = l.n
