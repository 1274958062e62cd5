-- What writing bytes into a lent buffer does.
use Rattle.std.specs.Prelude.{ℕ, ◌+◌, ◌≡◌, List, length}
use Rattle.std.proofs.lemmas.List.Edits.{sets}

-- the bytes are laid over the buffer from number `at` on, and nothing else changes; `next` is the number after the last of them
pub record Writes (out : List ℕ) (at : ℕ) (bs : List ℕ) (out₁ : List ℕ) (next : ℕ) : Type 0 where
  pub laid : out₁ ≡ sets out at bs
  pub ends : next ≡ at + length bs
