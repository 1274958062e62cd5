-- What holds of each circuit beside its operation on words holds of a computation. Assumes nothing.
use Prim.Native.Nat.{ℕ}
use Rattle.routine_command.specs.declared.Operation.{Operation}
use Rattle.bitvec.specs.Word.{add, subtract, multiply, quotient, remainder}
use Rattle.run_state.specs.State.{computed}
use Rattle.arithmetic.specs.Bits.{Bits}
use Rattle.arithmetic.specs.Circuit.{Number}
use Rattle.arithmetic.specs.Adder.{sum, difference}
use Rattle.arithmetic.specs.Product.{product}
use Rattle.division.specs.Division.{long_quotient, long_remainder}
use Rattle.translation_command.specs.Operation.{computation}

module _ (P : Number → ℕ → Type 0) (g : ℕ) (a b : Bits) (w x y : ℕ) where
  pub by_computation : (op : Operation) → P (sum g a b w) (add w x y) → P (difference g a b w) (subtract w x y) → P (product g a b w) (multiply w x y)
      → P (long_quotient g a b w) (quotient w x y) → P (long_remainder g a b w) (remainder w x y)
      → P (computation op g a b w) (computed op w x y)
  unfolding computed computation
  by_computation Operation.Add s d p q r = s
  by_computation Operation.Subtract s d p q r = d
  by_computation Operation.Multiply s d p q r = p
  by_computation Operation.Quotient s d p q r = q
  by_computation Operation.Remainder s d p q r = r
