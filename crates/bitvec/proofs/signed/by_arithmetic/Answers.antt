use Rattle.std.proofs.Common.{◌≡◌, ℕ, ◌-◌, ◌^◌, ◌≤◌, ℤ, pos, ◌-ℤ◌, ap, ◌∙◌, ap₂, arith}
use Rattle.bitvec.specs.Word.{add}
use Rattle.bitvec.specs.ByArithmetic.{by_arithmetic}
use Rattle.bitvec.proofs.Powers.{one_shifted}
use Rattle.bitvec.proofs.Integers.{back}
use Rattle.bitvec.proofs.Reading.{arithmetic_back, twos_complement}
use Rattle.bitvec.proofs.signed.by_arithmetic.Goals as goal

-- `by_arithmetic` adds half the range and takes it away; that this is the two's complement number is note 3's law.
-- h is half the range, and x the sum
made : (w a x h : ℕ) (r : ℤ) → w ≤ 32 → h ≡ 2 ^ (w - 1) → x ≡ add w a h → r ≡ pos x -ℤ pos h → back r ≡ by_arithmetic w a
unfolding by_arithmetic
made w a x h r u p e m =
    ap back (m ∙ ap₂ (λ (y k : ℕ). pos y -ℤ pos k) (e ∙ ap (add w a) p) p) ∙ arithmetic_back w a u

pub returns : goal.returns
returns c =
    record { value = made c.args.w _ _ _ _ c.requires.1 (one_shifted (c.args.w - 1) (omega arith)) c.add.ensures c.minus.ensures; twos_complement = twos_complement c.args.w c.requires.0 }
