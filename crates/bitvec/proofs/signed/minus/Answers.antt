use Rattle.std.proofs.Common.{◌≡◌, ℕ, ℤ, pos, ◌-ℤ◌, sym, ◌∙◌, subst, ap₂, arith, w32, w64, Fits, SFits, to_z}
use mir.ValLaws.{to_z_pos, to_z-of_z}
use Rattle.bitvec.proofs.Integers.{minus_fits}
use Rattle.bitvec.proofs.signed.minus.Goals as goal

-- `minus` subtracts what 64 bits hold of the two numbers, which are the numbers.
module _ (m n : ℕ) (h : Fits w32 m) (k : Fits w32 n) where
  read : to_z w64 m -ℤ to_z w64 n ≡ pos m -ℤ pos n
  read = ap₂ (λ (x y : ℤ). x -ℤ y) (to_z_pos w64 m (omega (arith, h.fits))) (to_z_pos w64 n (omega (arith, k.fits)))

  fits : SFits w64 (to_z w64 m -ℤ to_z w64 n)
  fits = subst (SFits w64) (sym read) (minus_fits m n h.fits k.fits)

pub overflow_sub-result : goal.overflow_sub-result
overflow_sub-result c = fits c.args.m c.args.n c.ranges.m c.ranges.n

pub returns : goal.returns
returns c = to_z-of_z w64 _ (overflow_sub-result c) ∙ read c.args.m c.args.n c.ranges.m c.ranges.n
