use Rattle.std.proofs.Common.{◌≡◌, ◌^◌, ◌<◌, true, false, T, ℤ, pos, ◌-ℤ◌, nat_abs, sym, ap, ◌∙◌, subst, w32, w64, Fits, SFits}
use lib.Signed.{lt_z, non_neg}
use mir.ValLaws.{to_z-of_z}
use Rattle.bitvec.specs.ByArithmetic.{whole_of}
use Rattle.bitvec.specs.declared.Whole.{Whole}
use Rattle.bitvec.proofs.Integers.{back, natural, natural_magnitude, opposite-fits, opposite_natural, opposite-magnitude}
use Rattle.bitvec.proofs.signed.whole_of.Goals as goal

-- `whole_of` tests the number and takes its magnitude; what the machine reads back from 64 bits is the number.
module _ (n : ℤ) (k : SFits w64 n) (l : nat_abs n < 2 ^ 32) where
  module _ (b : lt_z (back n) (pos 0) ≡ true) where
    below : lt_z n (pos 0) ≡ true
    below = rw (to_z-of_z w64 n k) at b

    fits : SFits w64 (pos 0 -ℤ back n)
    fits = rw (to_z-of_z w64 n k) (opposite-fits n below l)

    turned : back (pos 0 -ℤ back n) ≡ pos 0 -ℤ n
    turned = to_z-of_z w64 _ fits ∙ ap (λ (z : ℤ). pos 0 -ℤ z) (to_z-of_z w64 n k)

    cast : T (non_neg (back (pos 0 -ℤ back n))) × Fits w32 (nat_abs (back (pos 0 -ℤ back n)))
    cast = subst (λ (z : ℤ). T (non_neg z) × Fits w32 (nat_abs z)) (sym turned) (opposite_natural n below l)

    told : Whole.Negative (nat_abs (back (pos 0 -ℤ back n))) ≡ whole_of n
    told = ap (λ (z : ℤ). Whole.Negative (nat_abs z)) turned ∙ opposite-magnitude n below

  module _ (b : lt_z (back n) (pos 0) ≡ false) where
    not_below : lt_z n (pos 0) ≡ false
    not_below = rw (to_z-of_z w64 n k) at b

    cast-natural : T (non_neg (back n)) × Fits w32 (nat_abs (back n))
    cast-natural = subst (λ (z : ℤ). T (non_neg z) × Fits w32 (nat_abs z)) (sym (to_z-of_z w64 n k)) (natural n not_below l)

    told-natural : Whole.Natural (nat_abs (back n)) ≡ whole_of n
    told-natural = ap (λ (z : ℤ). Whole.Natural (nat_abs z)) (to_z-of_z w64 n k) ∙ natural_magnitude n not_below

pub overflow_sub-result : goal.overflow_sub-result
overflow_sub-result c = fits c.args.n c.ranges.n c.requires c.if-n-lt0.true

pub overflow_cast-result : goal.overflow_cast-result
overflow_cast-result c = cast c.args.n c.ranges.n c.requires c.if-n-lt0.true

pub overflow_cast-result-else-n-lt0 : goal.overflow_cast-result-else-n-lt0
overflow_cast-result-else-n-lt0 c = cast-natural c.args.n c.ranges.n c.requires c.if-n-lt0.false

pub returns-then-n-lt0 : goal.returns-then-n-lt0
returns-then-n-lt0 c = told c.args.n c.ranges.n c.requires c.if-n-lt0.true

pub returns-else-n-lt0 : goal.returns-else-n-lt0
returns-else-n-lt0 c = told-natural c.args.n c.ranges.n c.requires c.if-n-lt0.false
