-- The bytes of good commands are read as the arm of just these commands. Assumes nothing.
use mathlib.Core.Path.{◌≡◌, refl, sym, ap, subst, ◌∙◌}
use mathlib.Core.List.{List, ◌∷◌, ◌++◌, append_assoc}
use mathlib.Core.Bool.{false}
use Prim.Native.Nat.{ℕ, ◌+◌, ◌≤◌, ◌<◌, max}
use native.Mathlib.Omega.{arith}
use lib.ListN.{length, drop, length-append}
use lib.Seq.{drop-append-add}
use borrow.Author.Tests.{lt-ltb, lt-leb}
use Rattle.slices.specs.Bytes.{word_bytes}
use Rattle.routine_command.specs.Command.{simple_size, command_at}
use Rattle.routine_faults.specs.Step.{closing, simple_then, if_then, too_many, counts_after, simple_step, counts_after_if, if_step, step_of, accesses}
use Rattle.routine_faults.specs.Inner.Sound.{Sound, SoundIf}
use Rattle.routine.specs.Routine.{Arm, done, plain, if_else, arm_step, step_at, arm}
use Rattle.routine.specs.Inner.Stands.{Stands}
use Rattle.routine_rendering.specs.Syntax.{Text, no_more, simple, if_text, Syntax}
use Rattle.routine_rendering.specs.Render.{simple_bytes, text_bytes}
use Rattle.routine_rendering.specs.WellFormed.{Variable, width_of, AllGood, depth, ifs, one_read, one_write, reads, writes, access_count}
use Rattle.routine_rendering.specs.Exactly.{plus, numbered}
use Rattle.routine_header.specs.declared.Header.{Header}
use Rattle.routine_faults.specs.declared.Counts.{Counts}
use Rattle.routine_command.specs.declared.Conversion.{Conversion}
use Rattle.routine_command.specs.declared.Operation.{Operation}
use Rattle.routine_command.specs.declared.Simple.{Simple}
use Rattle.routine_command.specs.declared.Condition.{Condition}
use Rattle.routine_command.specs.declared.Command.{Command}
use Rattle.routine.proofs.Arms.{unroll}
use Rattle.routine.proofs.Counting.{same-ifs}
use Rattle.routine_faults.proofs.Tests.{mark_same}
use Rattle.routine_rendering.proofs.Bytes.{further}
use Rattle.routine_rendering.proofs.Commands.{mark_byte, simple_here, if_here, close_here}
use Rattle.routine_rendering.proofs.Operands.{Same, good_kind, sound, sound_if}
use Rattle.routine_rendering.proofs.Written.{counts-after}
use Rattle.routine_command.specs.declared.Mark.{Mark}

-- what follows the bytes of a command
after-simple : (c : Simple Conversion Operation) (tail : List ℕ) → drop (simple_size c) (simple_bytes c ++ tail) ≡ tail
unfolding simple_bytes word_bytes
after-simple (Simple.Set d x) tail = refl
after-simple (Simple.Convert op d s) tail = refl
after-simple (Simple.Compute op d s t) tail = refl
after-simple (Simple.Read d a i) tail = refl
after-simple (Simple.Write a i s) tail = refl

-- it is not the 65th access
not_many : (c : Simple Conversion Operation) (k : Counts) → accesses k + (one_read c + one_write c) ≤ 64 → too_many c k ≡ false
unfolding too_many
not_many (Simple.Set d x) k l = refl
not_many (Simple.Convert op d s) k l = refl
not_many (Simple.Compute op d s t) k l = refl
not_many (Simple.Read d a i) k l = lt-leb 64 (accesses k) (omega arith)
not_many (Simple.Write a i s) k l = lt-leb 64 (accesses k) (omega arith)

module _ (bs : List ℕ) (h : Header) (n : ℕ) (close : Mark) (at : ℕ) (k : Counts) where
  step_close : command_at bs at ≡ Command.Close close → step_at bs h n close at k ≡ closing
  unfolding step_of
  step_close e = simp (e, mark_same close close refl)

  step-simple : (c : Simple Conversion Operation) → command_at bs at ≡ Command.Simple c → Sound bs h c → too_many c k ≡ false → step_at bs h n close at k ≡ simple_then c (counts_after c k)
  unfolding step_of simple_step
  step-simple c e s m = simp (e, s.ranges, s.widths, m)

  step_if : (c : Condition) → command_at bs at ≡ Command.If c → SoundIf bs h c → n < 8 → k.ifs < 32 → step_at bs h n close at k ≡ if_then c (counts_after_if k)
  unfolding step_of if_step
  step_if c e s l m = simp (e, s.ranges, s.widths, lt-ltb n 8 l, lt-ltb k.ifs 32 m)

  -- an arm by its first command
  pub stands-done : command_at bs at ≡ Command.Close close → Stands bs h n close at k done (at + 1) k
  stands-done e = record { reads = unroll bs h n close at k ∙ ap (arm_step (arm bs h) n close at k) (step_close e) }

  pub stands_plain : (c : Simple Conversion Operation) → command_at bs at ≡ Command.Simple c → Sound bs h c → too_many c k ≡ false → (rest : Arm) (end : ℕ) (k₁ : Counts)
      → Stands bs h n close (at + simple_size c) (counts_after c k) rest end k₁ → Stands bs h n close at k (plain at c k rest) end k₁
  stands_plain c e s m rest end k₁ r = record {
    reads = unroll bs h n close at k ∙ ap (arm_step (arm bs h) n close at k) (step-simple c e s m) ∙ rw r.reads;
  }

  pub stands_fork : (c : Condition) → command_at bs at ≡ Command.If c → SoundIf bs h c → n < 8 → k.ifs < 32
      → (first : Arm) (else : ℕ) (k₂ : Counts) → Stands bs h (n + 1) Mark.Else (at + 4) (counts_after_if k) first else k₂
      → (second : Arm) (next : ℕ) (k₃ : Counts) → Stands bs h (n + 1) Mark.EndIf else k₂ second next k₃
      → (rest : Arm) (end : ℕ) (k₁ : Counts) → Stands bs h n close next k₃ rest end k₁ → Stands bs h n close at k (if_else at c k first second rest) end k₁
  stands_fork c e s l m first else k₂ x second next k₃ y rest end k₁ z = record {
    reads = unroll bs h n close at k ∙ ap (arm_step (arm bs h) n close at k) (step_if c e s l m) ∙ rw (x.reads, y.reads, z.reads);
  }

-- what an if leaves to its arms and to what follows
inside : (n x y z : ℕ) → n + max (1 + max x y) z ≤ 8 → (n < 8) × (n + 1 + x ≤ 8) × (n + 1 + y ≤ 8) × (n + z ≤ 8)
inside n x y z l = (omega arith, omega arith, omega arith, omega arith)

-- ---- where a text ends, and the counts there

module _ (bs : List ℕ) (h : Header) (n : ℕ) (close : Mark) (a : Arm) where
  -- the same arm from the same offset and counts
  from : {at at₁ : ℕ} {k k₁ : Counts} {end : ℕ} {k₂ : Counts} → at ≡ at₁ → k ≡ k₁ → Stands bs h n close at k a end k₂ → Stands bs h n close at₁ k₁ a end k₂
  from {end = end} {k₂ = k₂} e f s = subst (λ (x : ℕ × Counts). Stands bs h n close x.0 x.1 a end k₂) (λ i. (e i, f i)) s

  -- and up to the same
  up_to : {at : ℕ} {k : Counts} {end end₁ : ℕ} {k₂ k₃ : Counts} → end ≡ end₁ → k₂ ≡ k₃ → Stands bs h n close at k a end k₂ → Stands bs h n close at k a end₁ k₃
  up_to {at = at} {k = k} e f s = subst (λ (x : ℕ × Counts). Stands bs h n close at k a x.0 x.1) (λ i. (e i, f i)) s

-- what follows a text and a mark
pub past : (bs : List ℕ) (at : ℕ) (xs : List ℕ) (mark : ℕ) (tail : List ℕ) → drop at bs ≡ xs ++ (mark ∷ tail) → drop (at + length xs + 1) bs ≡ tail
past bs at xs mark tail e =
    let z : at + length xs + 1 ≡ at + (length xs + 1) = omega arith in
    rw z (further bs at _ e (length xs + 1) ∙ drop-append-add xs (mark ∷ tail) 1)

same-counts : {k k₁ : Counts} → k.ifs ≡ k₁.ifs → k.reads ≡ k₁.reads → k.writes ≡ k₁.writes → k ≡ k₁
same-counts a b c = λ i. record { ifs = a i; reads = b i; writes = c i }

simple-length : (c : Simple Conversion Operation) → length (simple_bytes c) ≡ simple_size c
unfolding simple_bytes word_bytes
simple-length (Simple.Set d x) = refl
simple-length (Simple.Convert op d s) = refl
simple-length (Simple.Compute op d s t) = refl
simple-length (Simple.Read d a i) = refl
simple-length (Simple.Write a i s) = refl

module _ (k : Counts) where
  plus_none : k ≡ plus k no_more
  unfolding ifs reads writes
  plus_none = same-counts (omega arith) (omega arith) (omega arith)

  plus_one : (c : Simple Conversion Operation) → plus k (simple c no_more) ≡ counts_after c k
  unfolding ifs reads writes
  plus_one c = let e = counts-after c k in let s = same-ifs c k in same-counts (omega arith) (omega arith) (omega arith)

  plus-simple : (c : Simple Conversion Operation) (rest : Text) → plus (plus k (simple c no_more)) rest ≡ plus k (simple c rest)
  unfolding ifs reads writes
  plus-simple c rest = same-counts (omega arith) (omega arith) (omega arith)

  module _ (c : Condition) where
    -- an if itself
    abbrev itself : Counts
    itself = plus k (if_text c no_more no_more no_more)

    plus_if : itself ≡ counts_after_if k
    unfolding ifs reads writes
    plus_if = same-counts (omega arith) (omega arith) (omega arith)

    plus_arms : (first second : Text) → plus (plus itself first) second ≡ plus k (if_text c first second no_more)
    unfolding ifs reads writes
    plus_arms first second = same-counts (omega arith) (omega arith) (omega arith)

    plus_rest : (first second rest : Text) → plus (plus k (if_text c first second no_more)) rest ≡ plus k (if_text c first second rest)
    unfolding ifs reads writes
    plus_rest first second rest = same-counts (omega arith) (omega arith) (omega arith)

-- how many bytes an if and its arms take, and the text after it
module _ (c : Condition) (first second : Text) where
  if_length : (rest : Text) → length (text_bytes (if_text c first second rest)) ≡ 4 + length (text_bytes first) + 1 + length (text_bytes second) + 1 + length (text_bytes rest)
  unfolding text_bytes
  if_length rest =
      let x = length-append (text_bytes first) (12 ∷ text_bytes second ++ (13 ∷ text_bytes rest)) in
      let y = length-append (text_bytes second) (13 ∷ text_bytes rest) in
      omega arith

  none-length : length (text_bytes (if_text c first second no_more)) ≡ 4 + length (text_bytes first) + 1 + length (text_bytes second) + 1
  unfolding text_bytes
  none-length = let e = if_length no_more in omega arith

-- ---- reading

module _ (bs : List ℕ) (h : Header) (p : Syntax) (same : Same bs h p) (narrow : (v : ℕ) → Variable p v → width_of p v ≤ 32) where
  -- wherever the bytes of t stand before a mark, within the limits, they are read
  abbrev Reads : Text → Type 0
  Reads t = (n : ℕ) (close : Mark) (at : ℕ) (k : Counts) (tail : List ℕ) → drop at bs ≡ text_bytes t ++ (mark_byte close ∷ tail)
      → AllGood p t → n + depth t ≤ 8 → k.ifs + ifs t ≤ 32 → accesses k + access_count t ≤ 64
      → Stands bs h n close at k (numbered at k t) (at + length (text_bytes t) + 1) (plus k t)

  reads_none : Reads no_more
  unfolding numbered text_bytes
  reads_none n close at k tail e g d i a =
      up_to bs h n close done (omega arith) (plus_none k) (stands-done bs h n close at k (close_here bs at tail close e))

  reads-simple : (c : Simple Conversion Operation) (rest : Text) → Reads rest → Reads (simple c rest)
  unfolding numbered text_bytes depth ifs reads writes
  reads-simple c rest go n close at k tail e g d i a =
      let b : drop at bs ≡ simple_bytes c ++ (text_bytes rest ++ (mark_byte close ∷ tail)) = rw append_assoc at e in
      let z = simple-length c in
      let at₁ = at + length (simple_bytes c) in
      let k₁ = plus k (simple c no_more) in
      let f : drop at₁ bs ≡ text_bytes rest ++ (mark_byte close ∷ tail) = rw z (further bs at _ b (simple_size c) ∙ after-simple c _) in
      let s = go n close at₁ k₁ tail f g.1 d (omega arith) (omega arith) in
      let x : at + length (simple_bytes c) ≡ at + simple_size c = omega arith in
      let y = length-append (simple_bytes c) (text_bytes rest) in
      up_to bs h n close _ (omega arith) (plus-simple k c rest)
      (stands_plain bs h n close at k c (simple_here bs at _ c (good_kind p narrow c g.0) b) (sound bs h p same c g.0) (not_many c k (omega arith))
      (numbered at₁ k₁ rest) _ _ (from bs h n close (numbered at₁ k₁ rest) x (plus_one k c) s))

  module _ (c : Condition) (first second rest : Text) (n : ℕ) (close : Mark) (at : ℕ) (k : Counts) (tail : List ℕ) where
    -- the bytes from the rest on, and from the second arm on
    abbrev Rest : List ℕ
    Rest = text_bytes rest ++ (mark_byte close ∷ tail)

    abbrev Second : List ℕ
    Second = text_bytes second ++ (13 ∷ Rest)

    -- the offsets of the second arm and of the rest, and the counts before them
    abbrev else : ℕ
    else = at + 4 + length (text_bytes first) + 1

    abbrev next : ℕ
    next = at + length (text_bytes (if_text c first second no_more))

    abbrev k₁ : Counts
    k₁ = itself k c

    abbrev k₃ : Counts
    k₃ = plus k (if_text c first second no_more)

    whole_if : Reads first → Reads second → Reads rest → drop at bs ≡ 11 ∷ c.relation ∷ c.s ∷ c.t ∷ text_bytes first ++ (12 ∷ Second)
        → AllGood p (if_text c first second rest) → n + depth (if_text c first second rest) ≤ 8 → k.ifs + ifs (if_text c first second rest) ≤ 32
        → accesses k + access_count (if_text c first second rest) ≤ 64
        → Stands bs h n close at k (numbered at k (if_text c first second rest)) (at + length (text_bytes (if_text c first second rest)) + 1) (plus k (if_text c first second rest))
    unfolding numbered depth ifs reads writes
    whole_if go₁ go₂ go₃ e g d i a =
        let q = inside n _ _ _ d in
        let e₁ : drop (at + 4) bs ≡ text_bytes first ++ (12 ∷ Second) = further bs at _ e 4 in
        let e₂ : drop else bs ≡ Second = past bs (at + 4) (text_bytes first) 12 Second e₁ in
        let z : next ≡ else + length (text_bytes second) + 1 = omega (arith, none-length c first second) in
        let e₃ : drop next bs ≡ Rest = rw z (past bs else (text_bytes second) 13 Rest e₂) in
        let s₁ = go₁ (n + 1) Mark.Else (at + 4) k₁ Second e₁ g.1 q.1 (omega arith) (omega arith) in
        let s₂ = go₂ (n + 1) Mark.EndIf else (plus k₁ first) Rest e₂ g.2 q.2 (omega arith) (omega arith) in
        let s₃ = go₃ n close next k₃ tail e₃ g.3 q.3 (omega arith) (omega arith) in
        let w = if_length c first second rest in
        up_to bs h n close _ (omega (arith, none-length c first second)) (plus_rest k c first second rest)
        (stands_fork bs h n close at k c (if_here bs at _ c e) (sound_if bs h p same c g.0) q.0 (omega arith)
        (numbered (at + 4) k₁ first) else (plus k₁ first) (from bs h (n + 1) Mark.Else _ refl (plus_if k c) s₁)
        (numbered else (plus k₁ first) second) next k₃ (up_to bs h (n + 1) Mark.EndIf _ (sym z) (plus_arms k c first second) s₂)
        (numbered next k₃ rest) _ _ s₃)

  reads_branch : (c : Condition) (first second rest : Text) → Reads first → Reads second → Reads rest → Reads (if_text c first second rest)
  unfolding text_bytes
  reads_branch c first second rest go₁ go₂ go₃ n close at k tail e g d i a =
      whole_if c first second rest n close at k tail go₁ go₂ go₃ (simp append_assoc at e) g d i a

  pub all_read : (t : Text) → Reads t
  all_read no_more = reads_none
  all_read (simple c rest) = reads-simple c rest (all_read rest)
  all_read (if_text c first second rest) = reads_branch c first second rest (all_read first) (all_read second) (all_read rest)
