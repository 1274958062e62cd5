-- What stands at an offset of an accepted routine, for what walks over the same bytes again: an arm that stands is known by its first command,
-- and so are the arms and the rest that follow it. Assumes nothing.
use mathlib.Core.Path.{◌≡◌, refl, sym, subst, ◌∙◌}
use mathlib.Core.List.{List}
use mathlib.Core.Bool.{false}
use Prim.Native.Nat.{ℕ, ◌+◌, ◌≤◌, ◌<◌}
use native.Mathlib.Omega.{arith}
use lib.ListN.{length}
use Rattle.routine_command.specs.Command.{simple_size, command_at}
use Rattle.routine_faults.specs.Step.{Step, faulty, closing, simple_then, if_then, too_many, counts_after, counts_after_if}
use Rattle.routine.specs.Routine.{Arm, Parsed, refused, parsed, done, plain, if_else, read_on, arm_step, step_at, arm}
use Rattle.routine.specs.Inner.Stands.{Stands}
use Rattle.routine_faults.specs.Inner.Sound.{Sound, SoundIf}
use Rattle.routine_header.specs.declared.Header.{Header}
use Rattle.routine_faults.specs.declared.Counts.{Counts}
use Rattle.routine_command.specs.declared.Conversion.{Conversion}
use Rattle.routine_command.specs.declared.Operation.{Operation}
use Rattle.routine_command.specs.declared.Simple.{Simple}
use Rattle.routine_command.specs.declared.Condition.{Condition}
use Rattle.routine_command.specs.declared.Command.{Command}
use Rattle.routine.proofs.Arms.{Of, PlainOf, ForkOf, of_step, Fits, fits, Ahead, ahead, unroll}
use Rattle.routine_command.specs.declared.Mark.{Mark}

-- what is known of a command that stands at `at`, and of the rest of its arm
pub record PlainAt (bs : List ℕ) (h : Header) (depth : ℕ) (close : Mark) (at : ℕ) (k : Counts) (c : Simple Conversion Operation) (rest : Arm) (end : ℕ) (k₁ : Counts) : Type 0 where
  pub command : command_at bs at ≡ Command.Simple c
  pub sound : Sound bs h c
  pub few : too_many c k ≡ false
  pub room : at + simple_size c ≤ length bs
  pub stands : Stands bs h depth close (at + simple_size c) (counts_after c k) rest end k₁

-- what is known of an if that stands at `at`, of its arms and of the rest of the arm that it stands in
pub record ForkAt (bs : List ℕ) (h : Header) (depth : ℕ) (close : Mark) (at : ℕ) (k : Counts) (c : Condition) (first second rest : Arm) (end : ℕ) (k₁ : Counts) : Type 0 where
  pub command : command_at bs at ≡ Command.If c
  pub sound : SoundIf bs h c
  pub few : k.ifs < 32
  pub shallow : depth < 8
  pub room : at + 4 ≤ length bs
  pub else : ℕ
  pub k₂ : Counts
  pub next : ℕ
  pub k₃ : Counts
  pub stands-first : Stands bs h (depth + 1) Mark.Else (at + 4) (counts_after_if k) first else k₂
  pub stands-second : Stands bs h (depth + 1) Mark.EndIf else k₂ second next k₃
  pub stands : Stands bs h depth close next k₃ rest end k₁

-- how an arm stands: by its first command
pub data View (bs : List ℕ) (h : Header) (depth : ℕ) (close : Mark) (at : ℕ) (k : Counts) : Arm → ℕ → Counts → Type 0 where
  closes : (mark : Mark) → command_at bs at ≡ Command.Close mark → at + 1 ≤ length bs → View bs h depth close at k done (at + 1) k
  steps : {c : Simple Conversion Operation} {rest : Arm} {end : ℕ} {k₁ : Counts} → PlainAt bs h depth close at k c rest end k₁ → View bs h depth close at k (plain at c k rest) end k₁
  forks : {c : Condition} {first second rest : Arm} {end : ℕ} {k₁ : Counts} → ForkAt bs h depth close at k c first second rest end k₁
      → View bs h depth close at k (if_else at c k first second rest) end k₁

module _ (bs : List ℕ) (h : Header) (depth : ℕ) (close : Mark) (at : ℕ) (k : Counts) where
  -- what was read from `at` on, if anything was, is known by its first command
  abbrev Viewed : Parsed Arm → Type 0
  Viewed (refused fault place) = Unit {0}
  Viewed (parsed a end k₁) = View bs h depth close at k a end k₁

  view_plain : (c : Simple Conversion Operation) (k₂ : Counts) → PlainOf bs h k (command_at bs at) c k₂ → at + simple_size c ≤ length bs → (p : Parsed Arm)
      → arm bs h depth close (at + simple_size c) k₂ ≡ p → Viewed (read_on p (λ rest end k₃. parsed (plain at c k rest) end k₃))
  view_plain c k₂ o f (refused fault place) e = tt
  view_plain c k₂ o f (parsed rest end k₃) e =
      let s : Stands bs h depth close (at + simple_size c) (counts_after c k) rest end k₃ = rw (← o.counts) (record { reads = e }) in
      steps (record { command = o.command; sound = o.sound; few = o.few; room = f; stands = s })

  -- the arms of an if are read one after the other, and then the rest
  abbrev AfterIf : Condition → Arm × Arm → ℕ → Counts → Parsed Arm
  AfterIf c arms next k₃ = read_on (arm bs h depth close next k₃) (λ rest end k₄. parsed (if_else at c k arms.0 arms.1 rest) end k₄)

  module _ (c : Condition) (k₁ : Counts) (o : ForkOf bs h depth k (command_at bs at) c k₁) (room : at + 4 ≤ length bs) where
    view_rest : (first second : Arm) (else : ℕ) (k₂ : Counts) (next : ℕ) (k₃ : Counts)
        → Stands bs h (depth + 1) Mark.Else (at + 4) (counts_after_if k) first else k₂ → Stands bs h (depth + 1) Mark.EndIf else k₂ second next k₃
        → (p : Parsed Arm) → arm bs h depth close next k₃ ≡ p → Viewed (read_on p (λ rest end k₄. parsed (if_else at c k first second rest) end k₄))
    view_rest first second else k₂ next k₃ x y (refused fault place) e = tt
    view_rest first second else k₂ next k₃ x y (parsed rest end k₄) e =
        forks (record {
          command = o.command;
          sound = o.sound;
          few = o.few;
          shallow = o.shallow;
          room = room;
          else = else;
          k₂ = k₂;
          next = next;
          k₃ = k₃;
          stands-first = x;
          stands-second = y;
          stands = record { reads = e };
        })

    view_second : (first : Arm) (else : ℕ) (k₂ : Counts) → Stands bs h (depth + 1) Mark.Else (at + 4) (counts_after_if k) first else k₂
        → (p : Parsed Arm) → arm bs h (depth + 1) Mark.EndIf else k₂ ≡ p
        → Viewed (read_on (read_on p (λ second next k₃. parsed (first, second) next k₃)) (AfterIf c))
    view_second first else k₂ x (refused fault place) e = tt
    view_second first else k₂ x (parsed second next k₃) e =
        view_rest first second else k₂ next k₃ x (record { reads = e }) (arm bs h depth close next k₃) refl

    view_fork : (p : Parsed Arm) → arm bs h (depth + 1) Mark.Else (at + 4) k₁ ≡ p
        → Viewed (read_on (read_on p (λ first else k₃. read_on (arm bs h (depth + 1) Mark.EndIf else k₃) (λ second next k₄. parsed (first, second) next k₄))) (AfterIf c))
    view_fork (refused fault place) e = tt
    view_fork (parsed first else k₃) e =
        view_second first else k₃ (rw (← o.counts) (record { reads = e })) (arm bs h (depth + 1) Mark.EndIf else k₃) refl

  view_step : (s : Step) → Of bs h depth k (command_at bs at) s → Fits bs depth at s → Viewed (arm_step (arm bs h) depth close at k s)
  view_step (faulty fault) o f = tt
  view_step closing o f = closes o.0 o.1 f
  view_step (simple_then c k₂) o f = view_plain c k₂ o f (arm bs h depth close (at + simple_size c) k₂) refl
  view_step (if_then c k₂) o f = view_fork c k₂ o f.0 (arm bs h (depth + 1) Mark.Else (at + 4) k₂) refl

  module _ (a : Arm) (end : ℕ) (k₁ : Counts) (s : Stands bs h depth close at k a end k₁) where
    pub view : View bs h depth close at k a end k₁
    view =
        subst Viewed (sym (unroll bs h depth close at k) ∙ s.reads)
        (view_step (step_at bs h depth close at k) (of_step bs h depth k close (command_at bs at)) (fits bs h depth close at k))

    -- it ends after `at`, within the bytes
    pub onward : (at < end) × (end ≤ length bs)
    onward = subst (Ahead bs at) s.reads (ahead bs h depth close at k)

-- ---- induction over an arm that stands

module _ (bs : List ℕ) (h : Header) (P : (depth : ℕ) (close : Mark) (at : ℕ) → Counts → Arm → ℕ → Counts → Type 0)
    (on-done : (depth : ℕ) (close : Mark) (at : ℕ) (k : Counts) (mark : Mark) → command_at bs at ≡ Command.Close mark → at + 1 ≤ length bs → P depth close at k done (at + 1) k)
    (on-plain : (depth : ℕ) (close : Mark) (at : ℕ) (k : Counts) (c : Simple Conversion Operation) (rest : Arm) (end : ℕ) (k₁ : Counts) → PlainAt bs h depth close at k c rest end k₁
    → P depth close (at + simple_size c) (counts_after c k) rest end k₁ → P depth close at k (plain at c k rest) end k₁)
    (on_fork : (depth : ℕ) (close : Mark) (at : ℕ) (k : Counts) (c : Condition) (first second rest : Arm) (end : ℕ) (k₁ : Counts)
    → (f : ForkAt bs h depth close at k c first second rest end k₁)
    → P (depth + 1) Mark.Else (at + 4) (counts_after_if k) first f.else f.k₂ → P (depth + 1) Mark.EndIf f.else f.k₂ second f.next f.k₃
    → P depth close f.next f.k₃ rest end k₁ → P depth close at k (if_else at c k first second rest) end k₁) where
  induct : (a : Arm) (depth : ℕ) (close : Mark) (at : ℕ) (k : Counts) (end : ℕ) (k₁ : Counts) → View bs h depth close at k a end k₁ → P depth close at k a end k₁
  induct done depth close at k end k₁ (closes mark e l) = on-done depth close at k mark e l
  induct (plain at₀ c₀ k₀ rest) depth close at k end k₁ (steps {c = c} v) =
      on-plain depth close at k c rest end k₁ v
      (induct rest depth close (at + simple_size c) (counts_after c k) end k₁ (view bs h depth close (at + simple_size c) (counts_after c k) rest end k₁ v.stands))
  induct (if_else at₀ c₀ k₀ first second rest) depth close at k end k₁ (forks {c = c} v) =
      on_fork depth close at k c first second rest end k₁ v
      (induct first (depth + 1) Mark.Else (at + 4) (counts_after_if k) v.else v.k₂ (view bs h (depth + 1) Mark.Else (at + 4) (counts_after_if k) first v.else v.k₂ v.stands-first))
      (induct second (depth + 1) Mark.EndIf v.else v.k₂ v.next v.k₃ (view bs h (depth + 1) Mark.EndIf v.else v.k₂ second v.next v.k₃ v.stands-second))
      (induct rest depth close v.next v.k₃ end k₁ (view bs h depth close v.next v.k₃ rest end k₁ v.stands))

  pub induction : (a : Arm) (depth : ℕ) (close : Mark) (at : ℕ) (k : Counts) (end : ℕ) (k₁ : Counts) → Stands bs h depth close at k a end k₁ → P depth close at k a end k₁
  induction a depth close at k end k₁ s = induct a depth close at k end k₁ (view bs h depth close at k a end k₁ s)

-- ---- what stands where `command_at` answered a command

pub record ByClose (bs : List ℕ) (at : ℕ) (k : Counts) (a : Arm) (end : ℕ) (k₁ : Counts) : Type 0 where
  pub arm : a ≡ done
  pub ends : end ≡ at + 1
  pub counts : k₁ ≡ k
  pub room : at + 1 ≤ length bs

pub record BySimple (bs : List ℕ) (h : Header) (depth : ℕ) (close : Mark) (at : ℕ) (k : Counts) (c : Simple Conversion Operation) (a : Arm) (end : ℕ) (k₁ : Counts) : Type 0 where
  pub rest : Arm
  pub arm : a ≡ plain at c k rest
  pub known : PlainAt bs h depth close at k c rest end k₁

pub record ByIf (bs : List ℕ) (h : Header) (depth : ℕ) (close : Mark) (at : ℕ) (k : Counts) (c : Condition) (a : Arm) (end : ℕ) (k₁ : Counts) : Type 0 where
  pub first : Arm
  pub second : Arm
  pub rest : Arm
  pub arm : a ≡ if_else at c k first second rest
  pub known : ForkAt bs h depth close at k c first second rest end k₁

module _ (bs : List ℕ) (h : Header) (depth : ℕ) (close : Mark) (at : ℕ) (k : Counts) where
  view_missing : (a : Arm) (end : ℕ) (k₁ : Counts) → command_at bs at ≡ Command.Missing → View bs h depth close at k a end k₁ → ⊥
  view_missing a end k₁ q (closes mark e l) = let z : ◌≡◌ {A = ℕ} 0 1 = cc in omega arith
  view_missing a end k₁ q (steps v) = let z : ◌≡◌ {A = ℕ} 0 1 = cc v.command in omega arith
  view_missing a end k₁ q (forks v) = let z : ◌≡◌ {A = ℕ} 0 1 = cc v.command in omega arith

  view_close : (a : Arm) (end : ℕ) (k₁ : Counts) (m : Mark) → command_at bs at ≡ Command.Close m → View bs h depth close at k a end k₁ → ByClose bs at k a end k₁
  view_close a end k₁ m q (closes mark e l) = record { arm = refl; ends = refl; counts = refl; room = l }
  view_close a end k₁ m q (steps v) = let z : ◌≡◌ {A = ℕ} 0 1 = cc v.command in absurd (omega arith)
  view_close a end k₁ m q (forks v) = let z : ◌≡◌ {A = ℕ} 0 1 = cc v.command in absurd (omega arith)

  view_simple : (a : Arm) (end : ℕ) (k₁ : Counts) (d : Simple Conversion Operation) → command_at bs at ≡ Command.Simple d → View bs h depth close at k a end k₁
      → BySimple bs h depth close at k d a end k₁
  view_simple a end k₁ d q (closes mark e l) = let z : ◌≡◌ {A = ℕ} 0 1 = cc in absurd (omega arith)
  view_simple a end k₁ d q (steps {c = c} {rest = rest} {end = e₁} {k₁ = k₂} v) =
      let z : c ≡ d = cc v.command in
      subst (λ (x : Simple Conversion Operation). BySimple bs h depth close at k x (plain at c k rest) e₁ k₂) z (record { rest = rest; arm = refl; known = v })
  view_simple a end k₁ d q (forks v) = let z : ◌≡◌ {A = ℕ} 0 1 = cc v.command in absurd (omega arith)

  view_if : (a : Arm) (end : ℕ) (k₁ : Counts) (d : Condition) → command_at bs at ≡ Command.If d → View bs h depth close at k a end k₁
      → ByIf bs h depth close at k d a end k₁
  view_if a end k₁ d q (closes mark e l) = let z : ◌≡◌ {A = ℕ} 0 1 = cc in absurd (omega arith)
  view_if a end k₁ d q (steps v) = let z : ◌≡◌ {A = ℕ} 0 1 = cc v.command in absurd (omega arith)
  view_if a end k₁ d q (forks {c = c} {first = first} {second = second} {rest = rest} {end = e₁} {k₁ = k₄} v) =
      let z : c ≡ d = cc v.command in
      subst (λ (w : Condition). ByIf bs h depth close at k w (if_else at c k first second rest) e₁ k₄) z
      (record { first = first; second = second; rest = rest; arm = refl; known = v })

  module _ (a : Arm) (end : ℕ) (k₁ : Counts) (r : Command Mark Conversion Operation) (is : r ≡ command_at bs at) (s : Stands bs h depth close at k a end k₁) where
    pub by_missing : r ≡ Command.Missing → ⊥
    by_missing q = view_missing a end k₁ (sym is ∙ q) (view bs h depth close at k a end k₁ s)

    pub by_close : (m : Mark) → r ≡ Command.Close m → ByClose bs at k a end k₁
    by_close m q = view_close a end k₁ m (sym is ∙ q) (view bs h depth close at k a end k₁ s)

    pub by_simple : (d : Simple Conversion Operation) → r ≡ Command.Simple d → BySimple bs h depth close at k d a end k₁
    by_simple d q = view_simple a end k₁ d (sym is ∙ q) (view bs h depth close at k a end k₁ s)

    pub by_if : (d : Condition) → r ≡ Command.If d → ByIf bs h depth close at k d a end k₁
    by_if d q = view_if a end k₁ d (sym is ∙ q) (view bs h depth close at k a end k₁ s)
