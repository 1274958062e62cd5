-- The reads of a routine, as a flat walk over its bytes meets them by their command bytes alone. Assumes nothing.
use Rattle.routine_command.specs.declared.Mark.{Mark}
use mathlib.Core.Path.{◌≡◌, refl, sym, ap, subst, ◌∙◌}
use mathlib.Core.List.{List, [], ◌∷◌, ◌++◌, append-nil}
use mathlib.Core.Bool.{true, false}
use Prim.Native.Nat.{ℕ, ◌+◌, ◌^◌, ◌≤◌, ◌<◌}
use native.Mathlib.Omega.{arith}
use lib.ListN.{length, length-append}
use lib.Dec.{ltb}
use Rattle.std.proofs.Common.{Ok, Option, Some, None}
use Rattle.slices.specs.Bytes.{entry, word}
use Rattle.routine_header.specs.Header.{width, first_command}
use Rattle.routine_command.specs.Command.{command_size, opcode_of, command_from, size_by_op, command_by, command_of, command_at, touches}
use Rattle.routine_faults.specs.Step.{counts_after}
use Rattle.routine_faults.specs.Inputs.{given, input_count}
use Rattle.routine.specs.Routine.{Arm, text_of}
use Rattle.routine.specs.Decode.{commands_in}
use Rattle.routine.specs.Inner.Stands.{Stands}
use Rattle.routine.specs.Inner.Known.{IsRoutineWith}
use Rattle.routine_header.specs.declared.Header.{Header}
use Rattle.routine_faults.specs.declared.Counts.{Counts}
use Rattle.routine_command.specs.declared.Conversion.{Conversion}
use Rattle.routine_command.specs.declared.Operation.{Operation}
use Rattle.routine_command.specs.declared.Opcode.{Opcode}
use Rattle.routine_command.specs.declared.Simple.{Simple}
use Rattle.routine_command.specs.declared.Command.{Command}
use Rattle.routine_command.proofs.Sizes.{size-pos, size_by, not_cut}
use Rattle.routine.proofs.Decoded.{decoded, commands_are}
use Rattle.routine.proofs.Text.{Text, over, closes, forks, steps, text}
use Rattle.routine.proofs.Views.{induction}
use Rattle.run_inputs.specs.Inputs.{read_first, read_variables, too_great, first_great}
use Rattle.run_inputs.proofs.Lists.{great_next, great_here}
use Rattle.run_inputs.proofs.Fitting.{reads_append}

-- ---- a routine has as many reads as its counts say

read_count : (c : Simple Conversion Operation) (k : Counts) (vs : List ℕ) → (counts_after c k).reads + length vs ≡ k.reads + length (read_first (touches c) vs)
read_count (Simple.Set d x) k vs = refl
read_count (Simple.Convert op d s) k vs = refl
read_count (Simple.Compute op d s t) k vs = refl
read_count (Simple.Read d a i) k vs = omega arith
read_count (Simple.Write a i s) k vs = refl

reads-length : (cs ds : List (Simple Conversion Operation)) → length (read_variables (cs ++ ds)) ≡ length (read_variables cs) + length (read_variables ds)
reads-length cs ds = ap length (reads_append cs ds) ∙ length-append (read_variables cs) (read_variables ds)

reads-after : (bs : List ℕ) (h : Header) (a : Arm) (depth : ℕ) (close : Mark) (at : ℕ) (k : Counts) (end : ℕ) (k₁ : Counts) → Stands bs h depth close at k a end k₁
    → k₁.reads ≡ k.reads + length (read_variables (text_of a))
unfolding text_of read_variables
reads-after bs h =
    induction bs h (λ depth close at k a end k₁. k₁.reads ≡ k.reads + length (read_variables (text_of a)))
    (λ depth close at k mark e l. omega arith)
    (λ depth close at k c rest end k₁ v go. go ∙ read_count c k (read_variables (text_of rest)))
    (λ depth close at k c first second rest end k₁ v go₁ go₂ go₃.
    omega (arith, go₁, go₂, go₃, reads-length (text_of first) (text_of second ++ text_of rest), reads-length (text_of second) (text_of rest)))

-- ---- a command by its byte

-- a read's byte
read_by : (op a b c k : ℕ) → opcode_of op ≡ Some Opcode.Read → command_by op a b c k ≡ Command.Simple (Simple.Read a b c)
unfolding command_by
read_by op a b c k e = rw e refl

-- what a command says of the reads before the others
abbrev reads_of : Command Mark Conversion Operation → List ℕ → List ℕ
reads_of Command.Missing vs = vs
reads_of (Command.Close mark) vs = vs
reads_of (Command.If c) vs = vs
reads_of (Command.Simple c) vs = read_first (touches c) vs

no_read : (o : Option Opcode) (a b c k : ℕ) (vs : List ℕ) → (o ≡ Some Opcode.Read → ⊥) → reads_of (command_from o a b c k) vs ≡ vs
no_read None a b c k vs f = refl
no_read (Some (Opcode.Close mark)) a b c k vs f = refl
no_read (Some Opcode.Set) a b c k vs f = refl
no_read (Some (Opcode.Convert op)) a b c k vs f = refl
no_read (Some (Opcode.Compute op)) a b c k vs f = refl
no_read (Some Opcode.Read) a b c k vs f = absurd (f refl)
no_read (Some Opcode.Write) a b c k vs f = refl
no_read (Some Opcode.If) a b c k vs f = refl

-- any other byte
other_by : (op a b c k : ℕ) (vs : List ℕ) → (opcode_of op ≡ Some Opcode.Read → ⊥) → reads_of (command_by op a b c k) vs ≡ vs
unfolding command_by
other_by op a b c k vs f = no_read (opcode_of op) a b c k vs f

-- ---- the walk

-- what is left of the commands cs₀, whose words are numbered from n₀ on: the reads among them have the numbers from n up to `end`
pub record LeftOf (bs ins : List ℕ) (cs₀ : List (Simple Conversion Operation)) (n₀ end at n : ℕ) : Type 0 where
  pub commands : List (Simple Conversion Operation)
  pub text : Text bs at commands
  pub same : first_great bs ins n (read_variables commands) ≡ first_great bs ins n₀ (read_variables cs₀)
  pub count : n + length (read_variables commands) ≡ end

-- the command at `at` and what follows it
record Onward (bs : List ℕ) (at : ℕ) (cs : List (Simple Conversion Operation)) : Type 0 where
  pub rest : List (Simple Conversion Operation)
  pub text : Text bs (at + size_by_op (entry bs at)) rest
  pub room : at + size_by_op (entry bs at) ≤ length bs
  pub reads : read_variables cs ≡ reads_of (command_of bs at) (read_variables rest)

-- the size by the byte of a command that is there
size_at : (bs : List ℕ) (at : ℕ) (r : Command Mark Conversion Operation) → command_of bs at ≡ r → command_size r ≡ size_by_op (entry bs at)
size_at bs at r e = ap command_size (sym e) ∙ size_by (entry bs at) (entry bs (at + 1)) (entry bs (at + 2)) (entry bs (at + 3)) (word bs (at + 2))

module _ (bs : List ℕ) (at : ℕ) (rest : List (Simple Conversion Operation)) where
  found : (r : Command Mark Conversion Operation) → command_at bs at ≡ r → (r ≡ Command.Missing → ⊥) → at + command_size r ≤ length bs → Text bs (at + command_size r) rest
      → (cs : List (Simple Conversion Operation)) → read_variables cs ≡ reads_of r (read_variables rest) → Onward bs at cs
  found r e f l t cs q =
      let c = not_cut bs at r e f in
      let z = size_at bs at r c in
      record { rest = rest; text = rw z at t; room = rw z at l; reads = rw c q }

onward : (bs : List ℕ) (at : ℕ) (cs : List (Simple Conversion Operation)) → 0 < length (read_variables cs) → Text bs at cs → Onward bs at cs
unfolding read_variables
onward bs at cs l (over e) = absurd (omega arith)
onward bs at cs l (closes mark e r t) = found bs at cs (Command.Close mark) e (λ q. let z : ◌≡◌ {A = ℕ} 0 1 = cc in omega arith) r t cs refl
onward bs at cs l (forks c e r t) = found bs at cs (Command.If c) e (λ q. let z : ◌≡◌ {A = ℕ} 0 1 = cc in omega arith) r t cs refl
onward bs at cs l (steps {cs = rest} c e r t) = found bs at rest (Command.Simple c) e (λ q. let z : ◌≡◌ {A = ℕ} 0 1 = cc in omega arith) r t cs refl

module _ (bs ins : List ℕ) (cs₀ : List (Simple Conversion Operation)) (n₀ end at n : ℕ) (x : LeftOf bs ins cs₀ n₀ end at n) where
  -- after the last read nothing is left to look at
  pub scan_over : end ≤ n → Ok tt ≡ first_great bs ins n₀ (read_variables cs₀)
  unfolding first_great
  scan_over l = go (read_variables x.commands) (omega (arith, x.count)) x.same
    where
      go : (vs : List ℕ) → length vs ≡ 0 → first_great bs ins n vs ≡ first_great bs ins n₀ (read_variables cs₀) → Ok tt ≡ first_great bs ins n₀ (read_variables cs₀)
      go [] e q = q
      go (v ∷ vs) e q = absurd (omega arith)

  module _ (l : n < end) (op : ℕ) (is : op ≡ entry bs at) where
    next : Onward bs at x.commands
    next = onward bs at x.commands (omega (arith, x.count)) x.text

    pub scan_room : (at + size_by_op op ≤ length bs) × (0 < size_by_op op)
    scan_room = (rw is next.room, size-pos (command_by op 0 0 0 0))

    pub scan_past : (opcode_of op ≡ Some Opcode.Read → ⊥) → LeftOf bs ins cs₀ n₀ end (at + size_by_op op) n
    scan_past f =
        let e : read_variables x.commands ≡ read_variables next.rest =
        next.reads ∙ other_by (entry bs at) (entry bs (at + 1)) (entry bs (at + 2)) (entry bs (at + 3)) (word bs (at + 2)) (read_variables next.rest) (λ q. f (ap opcode_of is ∙ q)) in
        record {
          commands = next.rest;
          text = subst (λ (o : ℕ). Text bs (at + size_by_op o) next.rest) (sym is) next.text;
          same = ap (first_great bs ins n) (sym e) ∙ x.same;
          count = ap (λ (vs : List ℕ). n + length vs) (sym e) ∙ x.count;
        }

    -- a read has four bytes
    four : opcode_of op ≡ Some Opcode.Read → size_by_op (entry bs at) ≡ 4
    unfolding command_by
    four q = rw (ap opcode_of (sym is) ∙ q) refl

    pub read_room : opcode_of op ≡ Some Opcode.Read → at + 4 ≤ length bs
    read_room q = rw (four q) at next.room

    module _ (q : opcode_of op ≡ Some Opcode.Read) (v : ℕ) (by : v ≡ entry bs (at + 1)) where
      read_here : read_variables x.commands ≡ v ∷ read_variables next.rest
      read_here =
          next.reads
          ∙ ap (λ (c : Command Mark Conversion Operation). reads_of c (read_variables next.rest))
          (read_by (entry bs at) (entry bs (at + 1)) (entry bs (at + 2)) (entry bs (at + 3)) (word bs (at + 2)) (ap opcode_of (sym is) ∙ q))
          ∙ ap (λ (u : ℕ). u ∷ read_variables next.rest) (sym by)

      pub scan_fits : ltb (entry ins n) (2 ^ width bs v) ≡ true → LeftOf bs ins cs₀ n₀ end (at + 4) (n + 1)
      scan_fits e =
          record {
            commands = next.rest;
            text = rw (four q) at next.text;
            same = great_next bs ins n v (read_variables next.rest) e ∙ ap (first_great bs ins n) (sym read_here) ∙ x.same;
            count = omega (arith, ap length read_here, x.count);
          }

      pub scan_great : ltb (entry ins n) (2 ^ width bs v) ≡ false → too_great n ≡ first_great bs ins n₀ (read_variables cs₀)
      scan_great e = great_here bs ins n v (read_variables next.rest) e ∙ ap (first_great bs ins n) (sym read_here) ∙ x.same

-- ---- the reads of a routine

module _ (bs ins : List ℕ) (h : Header) (k : Counts) (c : IsRoutineWith bs h k) where
  pub commands-decoded : c.commands ≡ commands_in bs
  commands-decoded = sym (commands_are bs h c.commands k c.decodes)

  pub scan_start : (end at n : ℕ) → end ≡ input_count h k → at ≡ first_command h → n ≡ given h → LeftOf bs ins (text_of (commands_in bs)) n end at n
  scan_start end at n p q e =
      let s = (decoded bs h c.commands k c.decodes).stands in
      let t = text bs h 0 Mark.End (first_command h) _ c.commands (length bs) k s [] (over refl) in
      rw (← commands-decoded) (record {
        commands = text_of c.commands;
        text = rw q (rw (append-nil (text_of c.commands)) at t);
        same = refl;
        count = omega (arith, p, e, reads-after bs h c.commands 0 Mark.End (first_command h) _ (length bs) k s);
      })
