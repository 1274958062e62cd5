-- Finding an access by a flat walk over the bytes: it meets the commands in text order, with the counts of the text before them. Assumes nothing.
use mathlib.Core.Path.{◌≡◌, refl, sym, ap, ◌∙◌}
use mathlib.Core.List.{List}
use mathlib.Core.Bool.{false}
use Prim.Native.Nat.{ℕ, ◌+◌, ◌≤◌, ◌<◌}
use native.Mathlib.Omega.{arith}
use lib.ListN.{length}
use Rattle.routine_header.specs.Header.{first_command}
use Rattle.routine_command.specs.Command.{simple_size, command_size, command_at}
use Rattle.routine_faults.specs.Step.{no_counts, too_many, counts_after, counts_after_if}
use Rattle.routine.specs.Routine.{Arm}
use Rattle.routine.specs.Decode.{routine, decode, commands_in, IsRoutine}
use Rattle.routine.specs.Access.{access_here, or_else, access_at, ifs_of, ifs_before}
use Rattle.routine.specs.Inner.Stands.{Stands}
use Rattle.routine.specs.Inner.Seeks.{Seeks}
use Rattle.routine_header.specs.declared.Header.{Header}
use Rattle.routine_command.specs.declared.Condition.{Condition}
use Rattle.routine_faults.specs.declared.Counts.{Counts}
use Rattle.routine_command.specs.declared.Conversion.{Conversion}
use Rattle.routine_command.specs.declared.Operation.{Operation}
use Rattle.routine_command.specs.declared.Simple.{Simple}
use Rattle.routine_command.specs.declared.Command.{Command}
use Rattle.std.specs.Prelude.{Option, Some, None}
use Rattle.routine.specs.declared.Access.{Access}
use Rattle.routine_command.proofs.Sizes.{simple-size, size-pos}
use Rattle.routine.proofs.Views.{induction}
use Rattle.routine.proofs.Decoded.{decoded, commands_are}
use Rattle.routine_command.specs.declared.Mark.{Mark}

pub or_assoc : (x y z : Option Access) → or_else (or_else x y) z ≡ or_else x (or_else y z)
or_assoc None y z = refl
or_assoc (Some a) y z = refl

or_nowhere : (x : Option Access) → or_else x None ≡ x
or_nowhere None = refl
or_nowhere (Some a) = refl

-- from `at` to the end of the bytes, after the counts k, s is the access of number n
pub data Flat (bs : List ℕ) (n : ℕ) : ℕ → Counts → Option Access → Type 0 where
  over : {at : ℕ} {k : Counts} {s : Option Access} → at ≡ length bs → s ≡ None → Flat bs n at k s
  closes : {at : ℕ} {k : Counts} {s : Option Access} (mark : Mark) → command_at bs at ≡ Command.Close mark → at + 1 ≤ length bs → Flat bs n (at + 1) k s → Flat bs n at k s
  forks : {at : ℕ} {k : Counts} {s : Option Access} (c : Condition) → command_at bs at ≡ Command.If c → k.ifs < 32 → at + 4 ≤ length bs → Flat bs n (at + 4) (counts_after_if k) s
      → Flat bs n at k s
  steps : {at : ℕ} {k : Counts} {s s₁ : Option Access} (c : Simple Conversion Operation) → command_at bs at ≡ Command.Simple c → too_many c k ≡ false → at + simple_size c ≤ length bs
      → Flat bs n (at + simple_size c) (counts_after c k) s₁ → s ≡ or_else (access_here c k n) s₁ → Flat bs n at k s

-- an arm, and then what follows it
flat : (bs : List ℕ) (h : Header) (n depth : ℕ) (close : Mark) (at : ℕ) (k : Counts) (a : Arm) (end : ℕ) (k₁ : Counts) → Stands bs h depth close at k a end k₁
    → (s : Option Access) → Flat bs n end k₁ s → Flat bs n at k (or_else (access_at a n) s)
unfolding access_at
flat bs h n depth close at k a end k₁ s =
    induction bs h (λ depth close at k a end k₁. (s : Option Access) → Flat bs n end k₁ s → Flat bs n at k (or_else (access_at a n) s))
    (λ depth close at k mark e l s t. closes mark e l t)
    (λ depth close at k c rest end k₁ v go s t.
    steps c v.command v.few v.room (go s t) (or_assoc (access_here c k n) (access_at rest n) s))
    (λ depth close at k c first second rest end k₁ v go₁ go₂ go₃ s t.
    rw (or_assoc (access_at first n) (or_else (access_at second n) (access_at rest n)) s, or_assoc (access_at second n) (access_at rest n) s)
    (forks c v.command v.few v.room (go₁ _ (go₂ _ (go₃ s t)))))
    a depth close at k end k₁ s

whole_flat : (bs : List ℕ) (h : Header) (n : ℕ) (a : Arm) (k : Counts) → decode bs ≡ routine h a k → Flat bs n (first_command h) no_counts (access_at a n)
whole_flat bs h n a k e =
    rw (or_nowhere (access_at a n)) at (flat bs h n 0 Mark.End (first_command h) no_counts a (length bs) k (decoded bs h a k e).stands None (over refl refl))

-- ---- the walk

-- it began at at₀ with the counts k₀ and is now at `at` with the counts k: what is still to be found is what was
pub record Seeking (bs : List ℕ) (n at₀ : ℕ) (k₀ : Counts) (at : ℕ) (k : Counts) : Type 0 where
  pub goes : (s : Option Access) → Flat bs n at₀ k₀ s → Flat bs n at k s

pub seek_start : (bs : List ℕ) (n at : ℕ) (k : Counts) → Seeking bs n at k at k
seek_start bs n at k = record { goes = λ s t. t }

-- what is known of a command that is no part of an if
record Stepped (bs : List ℕ) (n at : ℕ) (k : Counts) (c : Simple Conversion Operation) (s : Option Access) : Type 0 where
  pub few : too_many c k ≡ false
  pub rest : Option Access
  pub flat : Flat bs n (at + simple_size c) (counts_after c k) rest
  pub same : s ≡ or_else (access_here c k n) rest

module _ (bs : List ℕ) (n at : ℕ) (k : Counts) (s : Option Access) (r : Command Mark Conversion Operation) (is : r ≡ command_at bs at) (l : at < length bs) where
  flat_missing : r ≡ Command.Missing → Flat bs n at k s → ⊥
  flat_missing q (over e o) = omega arith
  flat_missing q (closes mark e room t) = let z : ◌≡◌ {A = ℕ} 0 1 = cc in omega arith
  flat_missing q (forks c e few room t) = let z : ◌≡◌ {A = ℕ} 0 1 = cc in omega arith
  flat_missing q (steps c e few room t o) = let z : ◌≡◌ {A = ℕ} 0 1 = cc in omega arith

  flat_room : Flat bs n at k s → at + command_size r ≤ length bs
  flat_room (over e o) = absurd (omega arith)
  flat_room (closes mark e room t) = rw (is, e) room
  flat_room (forks c e few room t) = rw (is, e) room
  flat_room (steps c e few room t o) = rw (is, e) room

  flat_close : (mark : Mark) → r ≡ Command.Close mark → Flat bs n at k s → Flat bs n (at + 1) k s
  flat_close m q (over e o) = absurd (omega arith)
  flat_close m q (closes mark e room t) = t
  flat_close m q (forks c e few room t) = let z : ◌≡◌ {A = ℕ} 0 1 = cc in absurd (omega arith)
  flat_close m q (steps c e few room t o) = let z : ◌≡◌ {A = ℕ} 0 1 = cc in absurd (omega arith)

  flat_if : (d : Condition) → r ≡ Command.If d → Flat bs n at k s → (k.ifs < 32) × Flat bs n (at + 4) (counts_after_if k) s
  flat_if d q (over e o) = absurd (omega arith)
  flat_if d q (closes mark e room t) = let z : ◌≡◌ {A = ℕ} 0 1 = cc in absurd (omega arith)
  flat_if d q (forks c e few room t) = (few, t)
  flat_if d q (steps c e few room t o) = let z : ◌≡◌ {A = ℕ} 0 1 = cc in absurd (omega arith)

  flat_simple : (d : Simple Conversion Operation) → r ≡ Command.Simple d → Flat bs n at k s → Stepped bs n at k d s
  flat_simple d q (over e o) = absurd (omega arith)
  flat_simple d q (closes mark e room t) = let z : ◌≡◌ {A = ℕ} 0 1 = cc in absurd (omega arith)
  flat_simple d q (forks c e few room t) = let z : ◌≡◌ {A = ℕ} 0 1 = cc in absurd (omega arith)
  flat_simple d q (steps {s₁ = rest} c e few room t o) =
      let z : c ≡ d = cc in
      rw (← z) (record { few = few; rest = rest; flat = t; same = o })

module _ (bs : List ℕ) (n at₀ : ℕ) (k₀ : Counts) (at : ℕ) (k : Counts) (g : Seeking bs n at₀ k₀ at k) where
  -- in a routine there is something left
  left : (h : Header) (i : IsRoutine bs h) → at₀ ≡ first_command h → k₀ ≡ no_counts → Flat bs n at k (access_at i.commands n)
  left h i e f = g.goes _ (rw (e, f) (whole_flat bs h n i.commands i.counts i.decodes))

  module _ (r : Command Mark Conversion Operation) (is : r ≡ command_at bs at) (l : at < length bs) where
    -- in a routine the command there is whole, and what is counted is within the limits
    module _ (h : Header) (i : IsRoutine bs h) (e : at₀ ≡ first_command h) (f : k₀ ≡ no_counts) where
      pub room : (at + command_size r ≤ length bs) × (0 < command_size r)
      room = (flat_room bs n at k _ r is l (left h i e f), size-pos r)

      pub few_if : (d : Condition) → r ≡ Command.If d → k.ifs < 32
      few_if d q = (flat_if bs n at k _ r is l d q (left h i e f)).0

      pub few-simple : (d : Simple Conversion Operation) → r ≡ Command.Simple d → too_many d k ≡ false
      few-simple d q = (flat_simple bs n at k _ r is l d q (left h i e f)).few

    pub past_close : (m : Mark) → r ≡ Command.Close m → Seeking bs n at₀ k₀ (at + 1) k
    past_close m q = record { goes = λ s t. flat_close bs n at k s r is l m q (g.goes s t) }

    pub past_if : (d : Condition) → r ≡ Command.If d → Seeking bs n at₀ k₀ (at + 4) (counts_after_if k)
    past_if d q = record { goes = λ s t. (flat_if bs n at k s r is l d q (g.goes s t)).1 }

    module _ (d : Simple Conversion Operation) (q : r ≡ Command.Simple d) (x : Option Access) (here : x ≡ access_here d k n) where
      pub past-simple : x ≡ None → Seeking bs n at₀ k₀ (at + simple_size d) (counts_after d k)
      past-simple e = record {
        goes = λ s t.
            let y = flat_simple bs n at k s r is l d q (g.goes s t) in
            let z : s ≡ y.rest = y.same ∙ ap (λ (w : Option Access). or_else w y.rest) (sym here ∙ e) in
            rw z y.flat;
      }

      pub found : (a : Access) → x ≡ Some a → (s : Option Access) → Flat bs n at₀ k₀ s → Some a ≡ s
      found a e s t =
          let y = flat_simple bs n at k s r is l d q (g.goes s t) in
          sym (y.same ∙ ap (λ (w : Option Access). or_else w y.rest) (sym here ∙ e))

    pub never_missing : r ≡ Command.Missing → (s : Option Access) → Flat bs n at₀ k₀ s → None ≡ s
    never_missing q s t = absurd (flat_missing bs n at k s r is l q (g.goes s t))

  pub none_left : length bs ≤ at → (s : Option Access) → Flat bs n at₀ k₀ s → None ≡ s
  none_left l s t = go s (g.goes s t)
    where
      go : (s : Option Access) → Flat bs n at k s → None ≡ s
      go s (over e o) = sym o
      go s (closes mark e room u) = absurd (omega arith)
      go s (forks c e few room u) = absurd (omega arith)
      go s (steps c e few room u o) = absurd (omega (arith, simple-size c))

-- what a walk from the first command says of every tree that was decoded
pub seeks : (bs : List ℕ) (h : Header) (n at₀ : ℕ) (k₀ : Counts) (r : Option Access) → at₀ ≡ first_command h → k₀ ≡ no_counts
    → ((s : Option Access) → Flat bs n at₀ k₀ s → r ≡ s) → Seeks bs h n r
seeks bs h n at₀ k₀ r e f go = record { tells = λ a k d. go (access_at a n) (rw (e, f) (whole_flat bs h n a k d)) }

-- how many ifs stand before what was found
pub ifs-found : (bs : List ℕ) (h : Header) → IsRoutine bs h → (n : ℕ) (r : Option Access) → Seeks bs h n r → (x : Option Access) → r ≡ x → ifs_of x ≡ ifs_before (commands_in bs) n
unfolding ifs_before
ifs-found bs h i n r s x e =
    rw (commands_are bs h i.commands i.counts i.decodes)
    (ap ifs_of (sym e ∙ s.tells i.commands i.counts i.decodes))
