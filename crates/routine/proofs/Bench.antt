-- Worked routines: document 01's two are accepted, and some are refused. Assumes nothing.
use mathlib.Core.Path.{◌≡◌, refl}
use mathlib.Core.List.{[], ◌∷◌}
use Rattle.std.specs.Prelude.{Ok, Err}
use Rattle.slices.specs.Bytes.{half, word}
use Rattle.routine_header.specs.Header.{within, size_ok, first_bad, header_of}
use Rattle.routine_command.specs.Command.{opcode_of, command_by, command_at}
use Rattle.routine_faults.specs.Step.{in_range, widths_fit, too_many, simple_step, if_step, step_of}
use Rattle.routine.specs.Routine.{arm_by}
use Rattle.routine.specs.Decode.{decode, checked}
use Rattle.routine_faults.specs.declared.Fault.{Fault}
use Rattle.routine.specs.declared.Refusal.{Refusal}

-- in turn: the two of document 01; nothing; no number of variables; a width of 33; half a size; an end of if in a first arm
bench :
    (checked (0x01 ∷ 0x01 ∷ 0x08 ∷ 0x01 ∷ 0x01 ∷ 0x64 ∷ 0x00 ∷ 0x0A ∷ 0x00 ∷ 0x00 ∷ 0x00 ∷ 0x00 ∷ [])
    ≡ Ok (record { header = (record { variables = 1; parameters = 1; arrays = 1 }); counts = (record { ifs = 0; reads = 0; writes = 1 }) }))
    × (checked (0x01 ∷ 0x01 ∷ 0x01 ∷ 0x00 ∷ 0x01 ∷ 0x01 ∷ 0x00 ∷ 0x01 ∷ 0x00 ∷ 0x01 ∷ 0x00 ∷ 0x00 ∷ 0x00 ∷ 0x0A ∷ 0x00 ∷ 0x00 ∷ 0x00 ∷ 0x00 ∷ [])
    ≡ Ok (record { header = (record { variables = 1; parameters = 0; arrays = 1 }); counts = (record { ifs = 0; reads = 0; writes = 1 }) }))
    × (checked [] ≡ Err Refusal.Length)
    × (checked (0x01 ∷ []) ≡ Err (Refusal.Header 1))
    × (checked (0x01 ∷ 0x03 ∷ 0x21 ∷ []) ≡ Err (Refusal.Header 2))
    × (checked (0x01 ∷ 0x01 ∷ 0x08 ∷ 0x00 ∷ 0x01 ∷ 0x64 ∷ []) ≡ Err (Refusal.Header 5))
    × (checked (0x01 ∷ 0x01 ∷ 0x08 ∷ 0x01 ∷ 0x01 ∷ 0x64 ∷ 0x00 ∷ 0x0B ∷ 0x00 ∷ 0x00 ∷ 0x00 ∷ 0x0A ∷ 0x00 ∷ 0x00 ∷ 0x00 ∷ 0x0D ∷ [])
    ≡ Err (Refusal.Command Fault.Misplaced 15))
unfolding half word within size_ok first_bad header_of opcode_of command_by command_at in_range widths_fit too_many simple_step if_step step_of arm_by decode checked
bench = (refl, refl, refl, refl, refl, refl, refl)

-- divisions, in turn: a quotient and a remainder; 0x10, the first unknown byte; a quotient that the end cuts short; a divisor that is no variable; two widths
divisions :
    (checked (0x01 ∷ 0x02 ∷ 0x08 ∷ 0x04 ∷ 0x00 ∷ 0x00 ∷ 0x0E ∷ 0x00 ∷ 0x00 ∷ 0x00 ∷ 0x0F ∷ 0x01 ∷ 0x01 ∷ 0x01 ∷ 0x00 ∷ [])
    ≡ Ok (record { header = (record { variables = 2; parameters = 0; arrays = 0 }); counts = (record { ifs = 0; reads = 0; writes = 0 }) }))
    × (checked (0x01 ∷ 0x02 ∷ 0x08 ∷ 0x04 ∷ 0x00 ∷ 0x00 ∷ 0x10 ∷ 0x00 ∷ 0x00 ∷ 0x00 ∷ 0x00 ∷ []) ≡ Err (Refusal.Command Fault.Unknown 6))
    × (checked (0x01 ∷ 0x02 ∷ 0x08 ∷ 0x04 ∷ 0x00 ∷ 0x00 ∷ 0x0E ∷ 0x00 ∷ 0x00 ∷ []) ≡ Err (Refusal.Command Fault.Unknown 6))
    × (checked (0x01 ∷ 0x02 ∷ 0x08 ∷ 0x04 ∷ 0x00 ∷ 0x00 ∷ 0x0F ∷ 0x00 ∷ 0x00 ∷ 0x02 ∷ 0x00 ∷ []) ≡ Err (Refusal.Command Fault.Operand 6))
    × (checked (0x01 ∷ 0x02 ∷ 0x08 ∷ 0x04 ∷ 0x00 ∷ 0x00 ∷ 0x0E ∷ 0x00 ∷ 0x00 ∷ 0x01 ∷ 0x00 ∷ []) ≡ Err (Refusal.Command Fault.Widths 6))
unfolding half word within size_ok first_bad header_of opcode_of command_by command_at in_range widths_fit too_many simple_step if_step step_of arm_by decode checked
divisions = (refl, refl, refl, refl, refl)
