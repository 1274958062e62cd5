-- What may come in a phase of a step.
use Rattle.std.specs.Prelude.{ℕ, Bool, true, false, cond, ◌==◌}
use Rattle.proof_check.specs.declared.Phase.{Phase}

-- the empty clause is not closed yet
abbrev pub going : Phase → Bool
going Phase.Literals = true
going Phase.Hints = true
going Phase.Conflict = true
going Phase.Empty = false

-- no hint of the step came yet
abbrev pub in_literals : Phase → Bool
in_literals Phase.Literals = true
in_literals Phase.Hints = false
in_literals Phase.Conflict = false
in_literals Phase.Empty = false

-- the step's conflict came
abbrev pub conflicted : Phase → Bool
conflicted Phase.Literals = false
conflicted Phase.Hints = false
conflicted Phase.Conflict = true
conflicted Phase.Empty = false

-- the phase after a clause of so many literals was closed
abbrev pub phase_after : (literals : ℕ) → Phase
phase_after literals = cond (literals == 0) Phase.Empty Phase.Literals
