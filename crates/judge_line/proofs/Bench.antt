-- The line that document 01 has of its bench, and lines and numbers at the ends of their ranges.
use Rattle.std.specs.Prelude.{Ok, Err}
use mathlib.Core.Path.{◌≡◌, refl}
use Rattle.slices.specs.declared.Buffer.{Buffer}
use Rattle.bitvec.specs.declared.Whole.{Whole}
use Rattle.report_judgement.specs.declared.Refusal.{Refusal}
use Rattle.judge_line.specs.Text.{bytes, decimal_by, decimal}
use Rattle.judge_line.specs.Line.{side_word, signed, claimed, shown, refused, line_of}

accepted : line_of (Ok (record { access = 0; side = 0; array = 0; size = 1; index = Whole.Negative 1; steps = 1; hints = 2 })) ≡ bytes "accepted access 0 side below array 0 size 1 index -1 steps 1 hints 2\n"
unfolding bytes decimal_by decimal side_word signed claimed shown line_of
accepted = refl

above : line_of (Ok (record { access = 63; side = 1; array = 15; size = 4096; index = Whole.Natural 4096; steps = 10; hints = 305 })) ≡ bytes "accepted access 63 side above array 15 size 4096 index 4096 steps 10 hints 305\n"
unfolding bytes decimal_by decimal side_word signed claimed shown line_of
above = refl

no_room : line_of (Err (Refusal.TooSmall Buffer.Marks)) ≡ bytes "refused 16 place 2\n"
unfolding bytes decimal_by decimal refused line_of
no_room = refl

greatest : decimal 18446744073709551615 ≡ bytes "18446744073709551615"
unfolding bytes decimal_by decimal
greatest = refl
