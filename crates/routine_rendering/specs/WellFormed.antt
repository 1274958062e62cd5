-- When a routine is well-formed: the rules of document 01, in its order, on the syntax alone.
use Rattle.std.specs.Prelude.{ℕ, ◌+◌, ◌^◌, ◌≤◌, ◌<◌, max, ◌≡◌, ◌⊎◌, length, get_or}
use Rattle.routine_command.specs.Command.{touches}
use Rattle.routine_rendering.specs.Syntax.{Text, no_more, simple, if_text, Syntax}
use Rattle.routine_rendering.specs.Render.{operation_byte, render}
use Rattle.routine_command.specs.declared.Conversion.{Conversion}
use Rattle.routine_command.specs.declared.Operation.{Operation}
use Rattle.routine_command.specs.declared.Simple.{Simple}
use Rattle.routine_command.specs.declared.Touch.{Touch}
use Rattle.routine_command.specs.declared.Condition.{Condition}

-- from lo to hi
pub record Between (lo hi n : ℕ) : Type 0 where
  pub low : lo ≤ n
  pub high : n ≤ hi

-- v is a variable
abbrev pub Variable : Syntax → ℕ → Type 0
Variable p v = v < length p.widths

-- a is an array
abbrev pub Array : Syntax → ℕ → Type 0
Array p a = a < length p.sizes

-- the width of variable v
abbrev pub width_of : Syntax → ℕ → ℕ
width_of p v = get_or p.widths v 0

-- the size of array a
abbrev pub array_size_of : Syntax → ℕ → ℕ
array_size_of p a = get_or p.sizes a 0

-- how the widths w of d and x of s go with a conversion: a copy, equal; a cut, d narrower; the extensions, d wider
abbrev pub Converts : Conversion → (w x : ℕ) → Type 0
Converts Conversion.Copy w x = w ≡ x
Converts Conversion.Cut w x = w < x
Converts Conversion.ZeroExtend w x = x < w
Converts Conversion.SignExtend w x = x < w

-- the command bytes of the computations: 0x03 add, 0x04 subtract, 0x05 multiply; 0x0E quotient, 0x0F remainder
abbrev pub Computes : Operation → Type 0
Computes op = Between 0x03 0x05 (operation_byte op) ⊎ Between 0x0E 0x0F (operation_byte op)

-- a command that is no if: its operands are variables and arrays that there are, and its widths as it asks
abbrev pub Good : Syntax → Simple Conversion Operation → Type 0
Good p (Simple.Set d c) = Variable p d × (c < 2 ^ width_of p d)
Good p (Simple.Convert op d s) = Variable p d × Variable p s × Converts op (width_of p d) (width_of p s)
Good p (Simple.Compute op d s t) =
    Computes op × Variable p d × Variable p s × Variable p t × (width_of p d ≡ width_of p s) × (width_of p d ≡ width_of p t)
Good p (Simple.Read d array i) = Variable p d × Array p array × Variable p i
Good p (Simple.Write array i s) = Array p array × Variable p i × Variable p s

-- the condition of an if: one of the relations 0 to 9, on two variables of equal widths
abbrev pub GoodIf : Syntax → Condition → Type 0
GoodIf p c = (c.relation ≤ 9) × Variable p c.s × Variable p c.t × (width_of p c.s ≡ width_of p c.t)

-- each command of an arm is good
abbrev pub AllGood : Syntax → Text → Type 0
AllGood p no_more = Unit {0}
AllGood p (simple c rest) = Good p c × AllGood p rest
AllGood p (if_text c first second rest) = GoodIf p c × AllGood p first × AllGood p second × AllGood p rest

-- how many ifs stand inside each other
unfoldable pub depth : Text → ℕ
depth no_more = 0
depth (simple c rest) = depth rest
depth (if_text c first second rest) = max (1 + max (depth first) (depth second)) (depth rest)

-- how many ifs there are
unfoldable pub ifs : Text → ℕ
ifs no_more = 0
ifs (simple c rest) = ifs rest
ifs (if_text c first second rest) = 1 + ifs first + ifs second + ifs rest

-- a read counts one
abbrev pub one_read_by : Touch → ℕ
one_read_by Touch.Nothing = 0
one_read_by (Touch.Reads d array i) = 1
one_read_by (Touch.Writes array i) = 0

-- a write counts one
abbrev pub one_write_by : Touch → ℕ
one_write_by Touch.Nothing = 0
one_write_by (Touch.Reads d array i) = 0
one_write_by (Touch.Writes array i) = 1

-- how many reads a command is
abbrev pub one_read : Simple Conversion Operation → ℕ
one_read c = one_read_by (touches c)

-- how many writes a command is
abbrev pub one_write : Simple Conversion Operation → ℕ
one_write c = one_write_by (touches c)

-- how many reads there are
unfoldable pub reads : Text → ℕ
reads no_more = 0
reads (simple c rest) = one_read c + reads rest
reads (if_text c first second rest) = reads first + reads second + reads rest

-- how many writes there are
unfoldable pub writes : Text → ℕ
writes no_more = 0
writes (simple c rest) = one_write c + writes rest
writes (if_text c first second rest) = writes first + writes second + writes rest

-- reads and writes are the accesses
abbrev pub access_count : Text → ℕ
access_count t = reads t + writes t

-- a well-formed routine
pub record WellFormed (p : Syntax) : Type 0 where
  pub variables : Between 1 32 (length p.widths)
  pub widths : (v : ℕ) → Variable p v → Between 1 32 (width_of p v)
  pub parameters : p.parameters ≤ length p.widths
  pub arrays : length p.sizes ≤ 16
  pub sizes : (a : ℕ) → Array p a → Between 1 4096 (array_size_of p a)
  pub commands : AllGood p p.commands
  pub deep : depth p.commands ≤ 8
  pub few-ifs : ifs p.commands ≤ 32
  pub few-accesses : access_count p.commands ≤ 64
  pub short : length (render p) ≤ 4096
