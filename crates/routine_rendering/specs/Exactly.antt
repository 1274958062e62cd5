-- What is accepted: just the bytes of a well-formed routine.
use Rattle.std.specs.Prelude.{ℕ, Ok, ◌+◌, ◌<◌, ◌≡◌, ◌↔◌, List, length}
use Rattle.slices.specs.Bytes.{entry}
use Rattle.routine_header.specs.Header.{first_command}
use Rattle.routine.specs.Routine.{Arm, done, plain, if_else}
use Rattle.routine.specs.Decode.{no_counts, IsRoutine, routine, decode, checked}
use Rattle.routine_rendering.specs.Syntax.{Text, no_more, simple, if_text, Syntax}
use Rattle.routine_rendering.specs.Render.{simple_bytes, text_bytes, render}
use Rattle.routine_rendering.specs.WellFormed.{ifs, reads, writes, WellFormed}
use Rattle.routine_header.specs.declared.Header.{Header}
use Rattle.routine_faults.specs.declared.Counts.{Counts}

-- each entry is a byte
abbrev pub AreBytes : List ℕ → Type 0
AreBytes bs = (i : ℕ) → i < length bs → entry bs i < 256

-- the bytes decode to a routine
pub record Accepted (bs : List ℕ) : Type 0 where
  pub header : Header
  pub routine : IsRoutine bs header

-- the bytes are those of a well-formed routine
pub record Rendered (bs : List ℕ) : Type 0 where
  pub syntax : Syntax
  pub formed : WellFormed syntax
  pub same : bs ≡ render syntax

-- the numbers that the header of a routine tells
abbrev pub head_of : Syntax → Header
head_of p = record { variables = length p.widths; parameters = p.parameters; arrays = length p.sizes }

-- how many ifs, reads and writes a routine has
abbrev pub text_counts : Syntax → Counts
text_counts p = record { ifs = ifs p.commands; reads = reads p.commands; writes = writes p.commands }

-- the counts k, and then a text
abbrev pub plus : Counts → Text → Counts
plus k t = record { ifs = k.ifs + ifs t; reads = k.reads + reads t; writes = k.writes + writes t }

-- The commands of an arm from the offset `at` on, after the counts k: each with its own offset, and with the counts of all the text before it, so
-- that ifs, reads and accesses are numbered in text order.
unfoldable pub numbered : (at : ℕ) → Counts → Text → Arm
numbered at k no_more = done
numbered at k (simple c rest) = plain at c k (numbered (at + length (simple_bytes c)) (plus k (simple c no_more)) rest)
numbered at k (if_text c first second rest) =
    let k₁ : Counts = plus k (if_text c no_more no_more no_more) in
    if_else at c k
    (numbered (at + 4) k₁ first)
    (numbered (at + 4 + length (text_bytes first) + 1) (plus k₁ first) second)
    (numbered (at + length (text_bytes (if_text c first second no_more))) (plus k (if_text c first second no_more)) rest)

-- all commands of a routine
abbrev pub numbered_commands : Syntax → Arm
numbered_commands p = numbered (first_command (head_of p)) no_counts p.commands

-- Bytes are accepted exactly when they are those of a well-formed routine. They decode to it: to its header, its commands, each at its offset and with
-- its numbers, and its counts. `check` answers with its header and its counts, and they are the bytes of no other.
pub record Exactly : Type 0 where
  pub accepted : (bs : List ℕ) → AreBytes bs → Accepted bs ↔ Rendered bs
  pub decoded : (p : Syntax) → WellFormed p → decode (render p) ≡ routine (head_of p) (numbered_commands p) (text_counts p)
  pub answered : (p : Syntax) → WellFormed p → checked (render p) ≡ Ok (record { header = head_of p; counts = text_counts p })
  pub once : (p q : Syntax) → WellFormed p → WellFormed q → render p ≡ render q → p ≡ q
