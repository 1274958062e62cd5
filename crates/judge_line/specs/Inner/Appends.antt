-- What a method that writes bytes on the line does.
use Rattle.std.specs.Prelude.{ℕ, ◌≡◌, List, length}
use Rattle.judge_line.specs.declared.line.Line.{Line}
use Rattle.judge_line.specs.Writes.{Writes}

-- the bytes are laid over the buffer from the line's place on, the place is the one after them, and the buffer is the same, as long as it was
pub record Appends (line : Line) (bs : List ℕ) (line₁ : Line) : Type 0 where
  pub buffer : line₁.out.ghost_name ≡ line.out.ghost_name
  pub size : length line₁.out.now ≡ length line.out.now
  pub writes : Writes line.out.now line.at bs line₁.out.now line₁.at
