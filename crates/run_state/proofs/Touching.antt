-- The index of a command that touches an array is of a width from 1 to 32. Assumes nothing.
use mathlib.Core.Path.{refl}
use mathlib.Core.List.{List}
use Prim.Native.Nat.{ℕ, ◌≤◌}
use Rattle.routine_header.specs.Header.{width}
use Rattle.routine_header.specs.declared.Header.{Header}
use Rattle.routine_command.specs.Command.{touches}
use Rattle.routine_command.specs.declared.Conversion.{Conversion}
use Rattle.routine_command.specs.declared.Operation.{Operation}
use Rattle.routine_command.specs.declared.Simple.{Simple}
use Rattle.routine_command.specs.declared.Touch.{Touch}
use Rattle.routine_faults.specs.Inner.Sound.{Sound, Fine}
use Rattle.run_state.proofs.InRange.{read-index, write_index}

abbrev pub Indexed : List ℕ → Touch → Type 0
Indexed bs Touch.Nothing = Unit {0}
Indexed bs (Touch.Reads d array i) = (1 ≤ width bs i) × (width bs i ≤ 32)
Indexed bs (Touch.Writes array i) = (1 ≤ width bs i) × (width bs i ≤ 32)

pub indexed : (bs : List ℕ) (h : Header) → Fine bs h → (c : Simple Conversion Operation) → Sound bs h c → Indexed bs (touches c)
indexed bs h f (Simple.Set d x) e = tt
indexed bs h f (Simple.Convert op d s) e = tt
indexed bs h f (Simple.Compute op d s t) e = tt
indexed bs h f (Simple.Read d array i) e = let o = read-index bs h f _ e d array i refl in (o.1, o.2)
indexed bs h f (Simple.Write array i s) e = let o = write_index bs h f _ e array i s refl in (o.1, o.2)
