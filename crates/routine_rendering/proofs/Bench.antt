-- Worked routines and their bytes. Assumes nothing.
use mathlib.Core.Path.{◌≡◌, refl}
use mathlib.Core.List.{[], ◌∷◌}
use Rattle.slices.specs.Bytes.{half_bytes, word_bytes}
use Rattle.routine_rendering.specs.Syntax.{no_more, simple, if_text}
use Rattle.routine_rendering.specs.Render.{simple_bytes, text_bytes, size_bytes, render}
use Rattle.routine_command.specs.declared.Operation.{Operation}
use Rattle.routine_command.specs.declared.Simple.{Simple}

-- in turn: the two of document 01; two-sensors of the examples, with an if in an if in an if; a quotient, and a write at a remainder
bench :
    (render (record { widths = 8 ∷ []; parameters = 1; sizes = 100 ∷ []; commands = simple (Simple.Write 0 0 0) no_more })
    ≡ 0x01 ∷ 0x01 ∷ 0x08 ∷ 0x01 ∷ 0x01 ∷ 0x64 ∷ 0x00 ∷ 0x0A ∷ 0x00 ∷ 0x00 ∷ 0x00 ∷ 0x00 ∷ [])
    × (render (record { widths = 1 ∷ []; parameters = 0; sizes = 1 ∷ []; commands = simple (Simple.Set 0 1) (simple (Simple.Write 0 0 0) no_more) })
    ≡ 0x01 ∷ 0x01 ∷ 0x01 ∷ 0x00 ∷ 0x01 ∷ 0x01 ∷ 0x00 ∷ 0x01 ∷ 0x00 ∷ 0x01 ∷ 0x00 ∷ 0x00 ∷ 0x00 ∷ 0x0A ∷ 0x00 ∷ 0x00 ∷ 0x00 ∷ 0x00 ∷ [])
    × (render (record {
      widths = 32 ∷ 32 ∷ 32 ∷ 32 ∷ [];
      parameters = 2;
      sizes = 100 ∷ [];
      commands =
          simple (Simple.Set 3 50)
          (if_text (record { relation = 9; s = 0; t = 3 })
          (if_text (record { relation = 9; s = 1; t = 3 })
          (simple (Simple.Compute Operation.Add 2 0 1)
          (simple (Simple.Set 3 100)
          (if_text (record { relation = 6; s = 2; t = 3 }) (simple (Simple.Write 0 2 0) no_more) no_more no_more)))
          no_more no_more)
          no_more no_more);
    })
    ≡ 0x01 ∷ 0x04 ∷ 0x20 ∷ 0x20 ∷ 0x20 ∷ 0x20 ∷ 0x02 ∷ 0x01 ∷ 0x64 ∷ 0x00 ∷ 0x01 ∷ 0x03 ∷ 0x32 ∷ 0x00 ∷ 0x00 ∷ 0x00 ∷ 0x0B ∷ 0x09 ∷ 0x00 ∷ 0x03
    ∷ 0x0B ∷ 0x09 ∷ 0x01 ∷ 0x03 ∷ 0x03 ∷ 0x02 ∷ 0x00 ∷ 0x01 ∷ 0x01 ∷ 0x03 ∷ 0x64 ∷ 0x00 ∷ 0x00 ∷ 0x00 ∷ 0x0B ∷ 0x06 ∷ 0x02 ∷ 0x03
    ∷ 0x0A ∷ 0x00 ∷ 0x02 ∷ 0x00 ∷ 0x0C ∷ 0x0D ∷ 0x0C ∷ 0x0D ∷ 0x0C ∷ 0x0D ∷ 0x00 ∷ [])
    × (render (record {
      widths = 8 ∷ 8 ∷ 8 ∷ [];
      parameters = 2;
      sizes = 10 ∷ [];
      commands = simple (Simple.Compute Operation.Quotient 2 0 1) (simple (Simple.Compute Operation.Remainder 0 0 1) (simple (Simple.Write 0 0 2) no_more));
    })
    ≡ 0x01 ∷ 0x03 ∷ 0x08 ∷ 0x08 ∷ 0x08 ∷ 0x02 ∷ 0x01 ∷ 0x0A ∷ 0x00 ∷ 0x0E ∷ 0x02 ∷ 0x00 ∷ 0x01 ∷ 0x0F ∷ 0x00 ∷ 0x00 ∷ 0x01
    ∷ 0x0A ∷ 0x00 ∷ 0x00 ∷ 0x02 ∷ 0x00 ∷ [])
unfolding half_bytes word_bytes simple_bytes text_bytes size_bytes render
bench = (refl, refl, refl, refl)
