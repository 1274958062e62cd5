-- A test before what goes on.
use Rattle.std.specs.Prelude.{Bool, cond}

-- the refusal, unless the test holds
unfoldable pub unless : {A : Type 0} → Bool → A → A → A
unless test refusal go = cond test go refusal
