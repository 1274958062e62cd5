-- What a command is where it stands: refusals 3 to 7, in their order.
use Rattle.std.specs.Prelude.{ℕ, ◌+◌, ◌^◌, List, Bool, true, false, not, ◌&&◌, ltb, leb, eqb}
use Rattle.slices.specs.Guard.{unless}
use Rattle.routine_header.specs.Header.{width}
use Rattle.routine_command.specs.Command.{touches}
use Rattle.routine_header.specs.declared.Header.{Header}
use Rattle.routine_command.specs.declared.Conversion.{Conversion}
use Rattle.routine_command.specs.declared.Mark.{Mark}
use Rattle.routine_command.specs.declared.Condition.{Condition}
use Rattle.routine_faults.specs.declared.Counts.{Counts}
use Rattle.routine_command.specs.declared.Operation.{Operation}
use Rattle.routine_command.specs.declared.Simple.{Simple}
use Rattle.routine_command.specs.declared.Touch.{Touch}
use Rattle.routine_command.specs.declared.Command.{Command}
use Rattle.routine_faults.specs.declared.Fault.{Fault}

-- the operands and the constant are in range
unfoldable pub in_range : List ℕ → Header → Simple Conversion Operation → Bool
in_range bs h (Simple.Set d c) = ltb d h.variables && ltb c (2 ^ width bs d)
in_range bs h (Simple.Convert op d s) = ltb d h.variables && ltb s h.variables
in_range bs h (Simple.Compute op d s t) = ltb d h.variables && ltb s h.variables && ltb t h.variables
in_range bs h (Simple.Read d array i) = ltb d h.variables && ltb array h.arrays && ltb i h.variables
in_range bs h (Simple.Write array i s) = ltb array h.arrays && ltb i h.variables && ltb s h.variables

-- the widths of d and s: equal for copy, d narrower for cut, d wider for the extensions
abbrev pub converts : Conversion → (d s : ℕ) → Bool
converts Conversion.Copy d s = eqb d s
converts Conversion.Cut d s = ltb d s
converts Conversion.ZeroExtend d s = ltb s d
converts Conversion.SignExtend d s = ltb s d

-- the widths are as the command asks
unfoldable pub widths_fit : List ℕ → Simple Conversion Operation → Bool
widths_fit bs (Simple.Set d c) = true
widths_fit bs (Simple.Convert op d s) = converts op (width bs d) (width bs s)
widths_fit bs (Simple.Compute op d s t) = eqb (width bs d) (width bs s) && eqb (width bs d) (width bs t)
widths_fit bs (Simple.Read d array i) = true
widths_fit bs (Simple.Write array i s) = true

-- before the first command nothing was met
abbrev pub no_counts : Counts
no_counts = record { ifs = 0; reads = 0; writes = 0 }

-- the number of accesses, reads and writes
abbrev pub accesses : Counts → ℕ
accesses k = k.reads + k.writes

-- reads and writes are the accesses
abbrev pub is_access_by : Touch → Bool
is_access_by Touch.Nothing = false
is_access_by (Touch.Reads d array i) = true
is_access_by (Touch.Writes array i) = true

-- the command is an access
abbrev pub is_access : Simple Conversion Operation → Bool
is_access c = is_access_by (touches c)

-- the 65th access
unfoldable pub too_many : Simple Conversion Operation → Counts → Bool
too_many c k = is_access c && leb 64 (accesses k)

-- the counts after a read or a write
abbrev pub counts_after_by : Touch → Counts → Counts
counts_after_by Touch.Nothing k = k
counts_after_by (Touch.Reads d array i) k = record { ifs = k.ifs; reads = k.reads + 1; writes = k.writes }
counts_after_by (Touch.Writes array i) k = record { ifs = k.ifs; reads = k.reads; writes = k.writes + 1 }

-- the counts after a command
abbrev pub counts_after : Simple Conversion Operation → Counts → Counts
counts_after c k = counts_after_by (touches c) k

-- what a command is where it stands: it has a fault, it ends its arm, or it is one that is no part of an if, or an if, with the counts after it
pub data Step : Type 0 where
  faulty : Fault → Step
  closing : Step
  simple_then : Simple Conversion Operation → Counts → Step
  if_then : Condition → Counts → Step

-- a command that is no part of an if, after the counts k
unfoldable pub simple_step : List ℕ → Header → Simple Conversion Operation → Counts → Step
unfolding unless
simple_step bs h c k =
    unless (in_range bs h c) (faulty Fault.Operand)
    (unless (widths_fit bs c) (faulty Fault.Widths)
    (unless (not (too_many c k)) (faulty Fault.TooMany)
    (simple_then c (counts_after c k))))

-- the counts after an if was met
abbrev pub counts_after_if : Counts → Counts
counts_after_if k = record { ifs = k.ifs + 1; reads = k.reads; writes = k.writes }

-- the relation and the operands of an if are in range
abbrev pub condition_in_range : Header → Condition → Bool
condition_in_range h c = ltb c.relation 10 && ltb c.s h.variables && ltb c.t h.variables

-- an if inside `depth` others, after the counts k: depth 9 and the 33rd if are refused
unfoldable pub if_step : List ℕ → Header → (depth : ℕ) → Condition → Counts → Step
unfolding unless
if_step bs h depth c k =
    unless (condition_in_range h c) (faulty Fault.Operand)
    (unless (eqb (width bs c.s) (width bs c.t)) (faulty Fault.Widths)
    (unless (ltb depth 8) (faulty Fault.Misplaced)
    (unless (ltb k.ifs 32) (faulty Fault.TooMany)
    (if_then c (counts_after_if k)))))

-- two marks are the same
abbrev pub same_mark : Mark → Mark → Bool
same_mark Mark.End Mark.End = true
same_mark Mark.Else Mark.Else = true
same_mark Mark.EndIf Mark.EndIf = true
same_mark mark close = false

-- the command inside `depth` ifs, in an arm that the mark `close` ends, after the counts k
unfoldable pub step_of : List ℕ → Header → (depth : ℕ) → (close : Mark) → Command Mark Conversion Operation → Counts → Step
unfolding unless
step_of bs h depth close Command.Missing k = faulty Fault.Unknown
step_of bs h depth close (Command.Close mark) k = unless (same_mark mark close) (faulty Fault.Misplaced) closing
step_of bs h depth close (Command.If c) k = if_step bs h depth c k
step_of bs h depth close (Command.Simple c) k = simple_step bs h c k
