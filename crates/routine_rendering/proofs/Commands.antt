-- A command and its bytes. Assumes nothing.
use mathlib.Core.Path.{◌≡◌, refl, sym, ap, subst, ◌∙◌}
use mathlib.Core.List.{List, ◌∷◌, ◌++◌}
use mathlib.Core.Bool.{cond}
use Prim.Native.Nat.{ℕ, ◌+◌, ◌-◌, ◌≤◌, ◌<◌}
use native.Mathlib.Omega.{arith}
use lib.ListN.{length, drop}
use lib.Dec.{leb}
use Rattle.slices.specs.Bytes.{entry, word, word_bytes}
use Rattle.routine_command.specs.Command.{command_size, simple_size, opcode_of, command_from as of_opcode, command_by, command_of, command_at}
use Rattle.std.specs.Prelude.{Option, Some, None}
use Rattle.routine_rendering.specs.Render.{conversion_byte, operation_byte, simple_bytes}
use Rattle.routine_command.specs.declared.Conversion.{Conversion}
use Rattle.routine_command.specs.declared.Operation.{Operation}
use Rattle.routine_command.specs.declared.Mark.{Mark}
use Rattle.routine_command.specs.declared.Opcode.{Opcode}
use Rattle.routine_command.specs.declared.Simple.{Simple}
use Rattle.routine_command.specs.declared.Condition.{Condition}
use Rattle.routine_command.specs.declared.Command.{Command}
use Rattle.routine_rendering.specs.Exactly.{AreBytes}
use Rattle.routine_command.proofs.Opcodes.{by_test, opcode_byte, Stands, stands}
use Rattle.routine_command.proofs.Sizes.{whole}
use Rattle.slices.proofs.Digits.{word_digits, word_value}
use Rattle.routine_rendering.proofs.Bytes.{next, here, entry_at, entry_here, bytes_left, word_at}

-- the command at an offset is the one at the start of the bytes from there on
pub command_from : (bs : List ℕ) (at : ℕ) (ys : List ℕ) → drop at bs ≡ ys → command_at bs at ≡ command_at ys 0
unfolding command_at
command_from bs at ys is =
    let e : length ys ≡ length ys - 0 = omega arith in
    rw (entry_here bs at ys is, entry_at bs at ys is 1, entry_at bs at ys is 2, entry_at bs at ys is 3, word_at bs at ys is, bytes_left bs at ys is)
    (ap (λ (n : ℕ). cond (leb (command_size (command_of ys 0)) n) (command_of ys 0) Command.Missing) e)

-- a whole command at the start of the bytes
whole_here : (ys : List ℕ) (c : Command Mark Conversion Operation) → command_of ys 0 ≡ c → command_size c ≤ length ys → command_at ys 0 ≡ c
whole_here ys c e l = let m : command_size c ≤ length ys - 0 = omega arith in sym (whole ys 0 c (sym e) m)

-- ---- from the bytes to the command

-- what the bytes can hold: a constant of four bytes
abbrev pub Kind : Simple Conversion Operation → Type 0
Kind (Simple.Set d c) = c < 4294967296
Kind (Simple.Convert op d s) = Unit {0}
Kind (Simple.Compute op d s t) = Unit {0}
Kind (Simple.Read d array i) = Unit {0}
Kind (Simple.Write array i s) = Unit {0}

-- the byte of a mark
abbrev pub mark_byte : Mark → ℕ
mark_byte mark = opcode_byte (Opcode.Close mark)

by_convert : (op : Conversion) (a b c k : ℕ) → command_by (conversion_byte op) a b c k ≡ Command.Simple (Simple.Convert op a b)
unfolding command_by opcode_of
by_convert Conversion.Copy a b c k = refl
by_convert Conversion.Cut a b c k = refl
by_convert Conversion.ZeroExtend a b c k = refl
by_convert Conversion.SignExtend a b c k = refl

by_compute : (op : Operation) (a b c k : ℕ) → command_by (operation_byte op) a b c k ≡ Command.Simple (Simple.Compute op a b c)
unfolding command_by opcode_of
by_compute Operation.Add a b c k = refl
by_compute Operation.Subtract a b c k = refl
by_compute Operation.Multiply a b c k = refl
by_compute Operation.Quotient a b c k = refl
by_compute Operation.Remainder a b c k = refl

by_close : (mark : Mark) (a b c k : ℕ) → command_by (mark_byte mark) a b c k ≡ Command.Close mark
unfolding command_by opcode_of
by_close Mark.End a b c k = refl
by_close Mark.Else a b c k = refl
by_close Mark.EndIf a b c k = refl

-- a command stands where its bytes do
simple-bytes : (c : Simple Conversion Operation) (tail : List ℕ) → Kind c → command_at (simple_bytes c ++ tail) 0 ≡ Command.Simple c
unfolding simple_bytes command_by opcode_of word_bytes word
simple-bytes (Simple.Set d c) tail l =
    whole_here (simple_bytes (Simple.Set d c) ++ tail) (Command.Simple (Simple.Set d c)) (ap (λ (x : ℕ). Command.Simple (Simple.Set d x)) (word_value c l)) (omega arith)
simple-bytes (Simple.Convert op d s) tail l = whole_here (conversion_byte op ∷ d ∷ s ∷ tail) (Command.Simple (Simple.Convert op d s)) (by_convert op d s _ _) (omega arith)
simple-bytes (Simple.Compute op d s t) tail l = whole_here (operation_byte op ∷ d ∷ s ∷ t ∷ tail) (Command.Simple (Simple.Compute op d s t)) (by_compute op d s t _) (omega arith)
simple-bytes (Simple.Read d array i) tail l = whole_here (0x09 ∷ d ∷ array ∷ i ∷ tail) (Command.Simple (Simple.Read d array i)) refl (omega arith)
simple-bytes (Simple.Write array i s) tail l = whole_here (0x0A ∷ array ∷ i ∷ s ∷ tail) (Command.Simple (Simple.Write array i s)) refl (omega arith)

module _ (bs : List ℕ) (at : ℕ) (tail : List ℕ) where
  pub simple_here : (c : Simple Conversion Operation) → Kind c → drop at bs ≡ simple_bytes c ++ tail → command_at bs at ≡ Command.Simple c
  simple_here c l e = command_from bs at (simple_bytes c ++ tail) e ∙ simple-bytes c tail l

  pub if_here : (c : Condition) → drop at bs ≡ 0x0B ∷ c.relation ∷ c.s ∷ c.t ∷ tail → command_at bs at ≡ Command.If c
  unfolding command_by opcode_of
  if_here c e = command_from bs at _ e ∙ whole_here (0x0B ∷ c.relation ∷ c.s ∷ c.t ∷ tail) (Command.If c) refl (omega arith)

  pub close_here : (mark : Mark) → drop at bs ≡ mark_byte mark ∷ tail → command_at bs at ≡ Command.Close mark
  close_here mark e = command_from bs at _ e ∙ whole_here (mark_byte mark ∷ tail) (Command.Close mark) (by_close mark _ _ _ _) (omega arith)

-- ---- from the command to the bytes

-- the byte of an opcode, by its kind
convert_byte : (op : Conversion) → opcode_byte (Opcode.Convert op) ≡ conversion_byte op
convert_byte Conversion.Copy = refl
convert_byte Conversion.Cut = refl
convert_byte Conversion.ZeroExtend = refl
convert_byte Conversion.SignExtend = refl

compute_byte : (op : Operation) → opcode_byte (Opcode.Compute op) ≡ operation_byte op
compute_byte Operation.Add = refl
compute_byte Operation.Subtract = refl
compute_byte Operation.Multiply = refl
compute_byte Operation.Quotient = refl
compute_byte Operation.Remainder = refl

module _ (op a b c k : ℕ) where
  -- what a command says of its byte and its operands
  abbrev Held : Simple Conversion Operation → Type 0
  Held (Simple.Set d x) = (op ≡ 0x01) × (d ≡ a) × (x ≡ k)
  Held (Simple.Convert o d s) = (op ≡ conversion_byte o) × (d ≡ a) × (s ≡ b)
  Held (Simple.Compute o d s t) = (op ≡ operation_byte o) × (d ≡ a) × (s ≡ b) × (t ≡ c)
  Held (Simple.Read d array i) = (op ≡ 0x09) × (d ≡ a) × (array ≡ b) × (i ≡ c)
  Held (Simple.Write array i s) = (op ≡ 0x0A) × (array ≡ a) × (i ≡ b) × (s ≡ c)

  abbrev Holds : Command Mark Conversion Operation → Type 0
  Holds Command.Missing = Unit {0}
  Holds (Command.Close mark) = op ≡ mark_byte mark
  Holds (Command.If d) = (op ≡ 0x0B) × (d.relation ≡ a) × (d.s ≡ b) × (d.t ≡ c)
  Holds (Command.Simple d) = Held d

  holds_with : (o : Option Opcode) → Stands op o → Holds (of_opcode o a b c k)
  holds_with None e = tt
  holds_with (Some (Opcode.Close mark)) e = e
  holds_with (Some Opcode.Set) e = (e, refl, refl)
  holds_with (Some (Opcode.Convert o)) e = (e ∙ convert_byte o, refl, refl)
  holds_with (Some (Opcode.Compute o)) e = (e ∙ compute_byte o, refl, refl, refl)
  holds_with (Some Opcode.Read) e = (e, refl, refl, refl)
  holds_with (Some Opcode.Write) e = (e, refl, refl, refl)
  holds_with (Some Opcode.If) e = (e, refl, refl, refl)

  holds : Holds (command_by op a b c k)
  unfolding command_by
  holds = holds_with (opcode_of op) (stands op)

module _ (bs : List ℕ) (at : ℕ) where
  abbrev HoldsAt : Command Mark Conversion Operation → Type 0
  HoldsAt = Holds (entry bs at) (entry bs (at + 1)) (entry bs (at + 2)) (entry bs (at + 3)) (word bs (at + 2))

  holds_at : HoldsAt (command_at bs at)
  unfolding command_at
  holds_at =
      by_test HoldsAt (leb (command_size (command_of bs at)) (length bs - at)) (command_of bs at) Command.Missing
      (λ e. holds (entry bs at) (entry bs (at + 1)) (entry bs (at + 2)) (entry bs (at + 3)) (word bs (at + 2))) tt

  pub close_there : (mark : Mark) → command_at bs at ≡ Command.Close mark → at + 1 ≤ length bs → drop at bs ≡ mark_byte mark ∷ drop (at + 1) bs
  close_there mark e l = let h : entry bs at ≡ mark_byte mark = subst HoldsAt e holds_at in rw (← h) (here bs at (omega arith))

  front₄ : at + 4 ≤ length bs → drop at bs ≡ entry bs at ∷ entry bs (at + 1) ∷ entry bs (at + 2) ∷ entry bs (at + 3) ∷ drop (at + 4) bs
  front₄ l = rw (here bs at (omega arith), next bs at 1 (omega arith), next bs at 2 (omega arith), next bs at 3 (omega arith))

  pub if_there : (c : Condition) → command_at bs at ≡ Command.If c → at + 4 ≤ length bs → drop at bs ≡ 0x0B ∷ c.relation ∷ c.s ∷ c.t ∷ drop (at + 4) bs
  if_there c e l = let h = subst HoldsAt e holds_at in rw (h.1, h.2, h.3, ← h.0) (front₄ l)

  constant : AreBytes bs → at + 6 ≤ length bs
      → (drop (at + 2) bs ≡ word_bytes (word bs (at + 2)) ++ drop (at + 6) bs) × (word bs (at + 2) < 4294967296)
  unfolding word
  constant f l =
      let a = entry bs (at + 2) in
      let b = entry bs (at + 3) in
      let c = entry bs (at + 4) in
      let d = entry bs (at + 5) in
      let i : a < 256 = f (at + 2) (omega arith) in
      let j : b < 256 = f (at + 3) (omega arith) in
      let k : c < 256 = f (at + 4) (omega arith) in
      let m : d < 256 = f (at + 5) (omega arith) in
      let e₁ : at + 2 + 1 ≡ at + 3 = omega arith in
      let e₂ : at + 2 + 2 ≡ at + 4 = omega arith in
      let e₃ : at + 2 + 3 ≡ at + 5 = omega arith in (
        rw (e₁, e₂, e₃, word_digits a b c d i j k m) (rw (next bs at 2 (omega arith), next bs at 3 (omega arith), next bs at 4 (omega arith), next bs at 5 (omega arith))),
        rw (e₁, e₂, e₃) (omega arith),
      )

  stood : AreBytes bs → (c : Simple Conversion Operation) → at + simple_size c ≤ length bs → HoldsAt (Command.Simple c)
      → (drop at bs ≡ simple_bytes c ++ drop (at + simple_size c) bs) × Kind c
  unfolding simple_bytes
  stood f (Simple.Set d x) l h =
      let q = constant f l in
      (rw (← h.0, h.1, h.2) (rw (here bs at (omega arith), next bs at 1 (omega arith), q.0)), rw h.2 q.1)
  stood f (Simple.Convert op d s) l h =
      (rw (← h.0, h.1, h.2) (rw (here bs at (omega arith), next bs at 1 (omega arith), next bs at 2 (omega arith))), tt)
  stood f (Simple.Compute op d s t) l h = (rw (← h.0, h.1, h.2, h.3) (front₄ l), tt)
  stood f (Simple.Read d array i) l h = (rw (h.1, h.2, h.3, ← h.0) (front₄ l), tt)
  stood f (Simple.Write array i s) l h = (rw (h.1, h.2, h.3, ← h.0) (front₄ l), tt)

  pub simple-there : AreBytes bs → (c : Simple Conversion Operation) → command_at bs at ≡ Command.Simple c → at + simple_size c ≤ length bs
      → (drop at bs ≡ simple_bytes c ++ drop (at + simple_size c) bs) × Kind c
  simple-there f c e l = stood f c l (subst HoldsAt e holds_at)
