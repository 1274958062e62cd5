-- What holds of a nest of tests: of every refusal, and of what is left where they all hold. Assumes nothing.
use Rattle.std.proofs.Common.{◌≡◌, Bool, true, false, refl}
use Rattle.slices.specs.Guard.{unless}
use Rattle.proof_check.specs.State.{Next, down}
use Rattle.proof_check.specs.declared.Refusal.{Refusal}

pub unless_in : (P : Next → Type 0) → ((v : Refusal) → P (down v)) → (b : Bool) (v : Refusal) (y : Next) → (b ≡ true → P y) → P (unless b (down v) y)
unfolding unless
unless_in P f true v y g = g refl
unless_in P f false v y g = f v
