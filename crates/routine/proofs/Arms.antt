-- Laws of reading an arm: it goes forward, the bound on the steps does not matter, and so an arm is its first command and what follows. Assumes nothing.
use mathlib.Core.Path.{◌≡◌, refl, sym, ap, ◌∙◌}
use mathlib.Core.List.{List}
use mathlib.Core.Bool.{Bool, true, false, cond, not}
use Prim.Native.Nat.{ℕ, zero, suc, ◌+◌, ◌-◌, ◌≤◌, ◌<◌}
use native.Mathlib.Omega.{arith}
use lib.ListN.{length}
use lib.Dec.{leb, ltb, eqb}
use borrow.Author.Tests.{leb-true, ltb-true, not-true}
use Rattle.slices.specs.Guard.{unless}
use Rattle.routine_command.specs.Command.{command_size, simple_size, command_of, command_at}
use Rattle.routine_header.specs.Header.{width}
use Rattle.routine_faults.specs.Step.{Step, faulty, closing, simple_then, if_then, in_range, widths_fit, too_many, counts_after, simple_step, counts_after_if, condition_in_range, if_step, same_mark, step_of}
use Rattle.routine.specs.Routine.{Parsed, refused, parsed, plain, if_else, read_on, ArmReader, if_arms, arm_step, step_at, arm_by, arm}
use Rattle.routine.specs.Inner.Walk.{Walked, walked, walk_arm, walk_if}
use Rattle.routine_faults.specs.Inner.Sound.{Sound, SoundIf}
use Rattle.routine_header.specs.declared.Header.{Header}
use Rattle.routine_command.specs.declared.Condition.{Condition}
use Rattle.routine_faults.specs.declared.Counts.{Counts}
use Rattle.routine_command.specs.declared.Conversion.{Conversion}
use Rattle.routine_command.specs.declared.Operation.{Operation}
use Rattle.routine_command.specs.declared.Simple.{Simple}
use Rattle.routine_command.specs.declared.Command.{Command}
use Rattle.routine_faults.specs.declared.Fault.{Fault}
use Rattle.std.specs.Prelude.{Result, Ok, Err}
use Rattle.routine_faults.specs.Inner.Fault.{fault_of}
use Rattle.routine.specs.declared.Passed.{Passed}
use Rattle.routine.specs.declared.Refusal.{Refusal}
use Rattle.routine_command.proofs.Sizes.{size-pos, simple-size}
use Rattle.routine_command.specs.declared.Mark.{Mark}

-- ---- a command that stands at an offset is whole

abbrev Room : List ℕ → ℕ → Command Mark Conversion Operation → Type 0
Room bs at c = (c ≡ Command.Missing → ⊥) → at + command_size c ≤ length bs

room : (bs : List ℕ) (at : ℕ) → Room bs at (command_at bs at)
unfolding command_at
room bs at = go (leb (command_size (command_of bs at)) (length bs - at)) refl
  where
    go : (b : Bool) → leb (command_size (command_of bs at)) (length bs - at) ≡ b → Room bs at (cond b (command_of bs at) Command.Missing)
    go true e = λ f. omega (arith, leb-true (command_size (command_of bs at)) (length bs - at) e, size-pos (command_of bs at))
    go false e = λ f. absurd (f refl)

-- ---- what a step says of its command

pub record PlainOf (bs : List ℕ) (h : Header) (k : Counts) (c : Command Mark Conversion Operation) (d : Simple Conversion Operation) (k₁ : Counts) : Type 0 where
  pub command : c ≡ Command.Simple d
  pub sound : Sound bs h d
  pub few : too_many d k ≡ false
  pub counts : k₁ ≡ counts_after d k

pub record ForkOf (bs : List ℕ) (h : Header) (depth : ℕ) (k : Counts) (c : Command Mark Conversion Operation) (d : Condition) (k₁ : Counts) : Type 0 where
  pub command : c ≡ Command.If d
  pub sound : SoundIf bs h d
  pub counts : k₁ ≡ counts_after_if k
  pub shallow : depth < 8
  pub few : k.ifs < 32

module _ (bs : List ℕ) (h : Header) (depth : ℕ) (k : Counts) where
  abbrev pub Of : Command Mark Conversion Operation → Step → Type 0
  Of c (faulty fault) = Unit {0}
  Of c closing = (mark : Mark) × (c ≡ Command.Close mark)
  Of c (simple_then d k₁) = PlainOf bs h k c d k₁
  Of c (if_then d k₁) = ForkOf bs h depth k c d k₁

  of_unless : (c : Command Mark Conversion Operation) (b : Bool) (fault : Fault) (s : Step) → (b ≡ true → Of c s) → Of c (unless b (faulty fault) s)
  unfolding unless
  of_unless c true fault s p = p refl
  of_unless c false fault s p = tt

  of_if : (d : Condition) → Of (Command.If d) (if_step bs h depth d k)
  unfolding if_step
  of_if d =
      of_unless (Command.If d) (condition_in_range h d) Fault.Operand _ (λ r.
      of_unless (Command.If d) (eqb (width bs d.s) (width bs d.t)) Fault.Widths _ (λ w.
      of_unless (Command.If d) (ltb depth 8) Fault.Misplaced _ (λ l.
      of_unless (Command.If d) (ltb k.ifs 32) Fault.TooMany (if_then d (counts_after_if k)) (λ f.
      record { command = refl; sound = record { ranges = r; widths = w }; counts = refl; shallow = ltb-true _ _ l; few = ltb-true _ _ f }))))

  of_simple : (d : Simple Conversion Operation) → Of (Command.Simple d) (simple_step bs h d k)
  unfolding simple_step
  of_simple d =
      of_unless (Command.Simple d) (in_range bs h d) Fault.Operand _ (λ r.
      of_unless (Command.Simple d) (widths_fit bs d) Fault.Widths _ (λ w.
      of_unless (Command.Simple d) (not (too_many d k)) Fault.TooMany (simple_then d (counts_after d k)) (λ f.
      record { command = refl; sound = record { ranges = r; widths = w }; few = not-true _ f; counts = refl })))

  pub of_step : (close : Mark) (c : Command Mark Conversion Operation) → Of c (step_of bs h depth close c k)
  unfolding step_of
  of_step close Command.Missing = tt
  of_step close (Command.Close mark) = of_unless (Command.Close mark) (same_mark mark close) Fault.Misplaced closing (λ e. (mark, refl))
  of_step close (Command.If d) = of_if d
  of_step close (Command.Simple d) = of_simple d

-- ---- what a step says of the bytes

module _ (bs : List ℕ) where
  abbrev pub Fits : (depth at : ℕ) → Step → Type 0
  Fits depth at (faulty fault) = Unit {0}
  Fits depth at closing = at + 1 ≤ length bs
  Fits depth at (simple_then c k) = at + simple_size c ≤ length bs
  Fits depth at (if_then c k) = (at + 4 ≤ length bs) × (depth < 8)

  fits_of : (h : Header) (depth at : ℕ) (k : Counts) (c : Command Mark Conversion Operation) (s : Step) → Room bs at c → Of bs h depth k c s → Fits depth at s
  fits_of h depth at k c (faulty fault) r o = tt
  fits_of h depth at k c closing r o = rw o.1 at (r (λ e. let z : ◌≡◌ {A = ℕ} 0 1 = cc in omega arith))
  fits_of h depth at k c (simple_then d k₁) r o = rw o.command at (r (λ e. let z : ◌≡◌ {A = ℕ} 0 1 = cc in omega arith))
  fits_of h depth at k c (if_then d k₁) r o = (rw o.command at (r (λ e. let z : ◌≡◌ {A = ℕ} 0 1 = cc in omega arith)), o.shallow)

  pub fits : (h : Header) (depth : ℕ) (close : Mark) (at : ℕ) (k : Counts) → Fits depth at (step_at bs h depth close at k)
  fits h depth close at k = fits_of h depth at k (command_at bs at) (step_at bs h depth close at k) (room bs at) (of_step bs h depth k close (command_at bs at))

  -- ---- what was read from an offset ends after it, within the bytes

  abbrev pub Ahead : {A : Type 0} → ℕ → Parsed A → Type 0
  Ahead at (refused fault place) = Unit {0}
  Ahead at (parsed a end k) = (at < end) × (end ≤ length bs)

  ahead_then : {A B : Type 0} (at at₁ : ℕ) (p : Parsed A) (f : A → ℕ → Counts → Parsed B) → Ahead at₁ p
      → ((a : A) (end : ℕ) (k : Counts) → at₁ < end → end ≤ length bs → Ahead at (f a end k)) → Ahead at (read_on p f)
  ahead_then at at₁ (refused fault place) f p q = tt
  ahead_then at at₁ (parsed a end k) f p q = q a end k p.0 p.1

  abbrev pub AheadBy : ArmReader → Type 0
  AheadBy read = (depth : ℕ) (close : Mark) (at : ℕ) (k : Counts) → Ahead at (read depth close at k)

  pub ahead_if : (read : ArmReader) → AheadBy read → (depth at : ℕ) (k : Counts) → Ahead (at + 4) (if_arms read depth at k)
  ahead_if read go depth at k =
      ahead_then (at + 4) (at + 4) (read (depth + 1) Mark.Else (at + 4) k) _ (go (depth + 1) Mark.Else (at + 4) k) (λ first at₁ k₁ l₁ h₁.
      ahead_then (at + 4) at₁ (read (depth + 1) Mark.EndIf at₁ k₁) _ (go (depth + 1) Mark.EndIf at₁ k₁) (λ second at₂ k₂ l₂ h₂.
      (omega arith, h₂)))

  ahead_step : (read : ArmReader) → AheadBy read → (depth : ℕ) (close : Mark) (at : ℕ) (k : Counts) (s : Step) → Fits depth at s → Ahead at (arm_step read depth close at k s)
  ahead_step read go depth close at k (faulty fault) f = tt
  ahead_step read go depth close at k closing f = (omega arith, f)
  ahead_step read go depth close at k (simple_then c k₁) f =
      ahead_then at (at + simple_size c) (read depth close (at + simple_size c) k₁) _ (go depth close (at + simple_size c) k₁) (λ rest end k₂ l u.
      (omega arith, u))
  ahead_step read go depth close at k (if_then c k₁) f =
      ahead_then at (at + 4) (if_arms read depth at k₁) _ (ahead_if read go depth at k₁) (λ arms at₂ k₂ l₂ u₂.
      ahead_then at at₂ (read depth close at₂ k₂) _ (go depth close at₂ k₂) (λ rest end k₃ l₃ u₃.
      (omega arith, u₃)))

  ahead_by : (n : ℕ) (h : Header) → AheadBy (arm_by n bs h)
  unfolding arm_by
  ahead_by zero h depth close at k = tt
  ahead_by (suc n) h depth close at k = ahead_step (arm_by n bs h) (ahead_by n h) depth close at k (step_at bs h depth close at k) (fits h depth close at k)

  pub ahead : (h : Header) → AheadBy (arm bs h)
  ahead h = ahead_by (suc (length bs)) h

  -- ---- readers that agree ahead of an offset find the same there

  agree_then : {A B : Type 0} (at : ℕ) (p q : Parsed A) (f g : A → ℕ → Counts → Parsed B) → p ≡ q → Ahead at p
      → ((a : A) (end : ℕ) (k : Counts) → at < end → end ≤ length bs → f a end k ≡ g a end k) → read_on p f ≡ read_on q g
  agree_then at p q f g e w s = rw (← e) (go p w)
    where
      go : (r : Parsed _) → Ahead at r → read_on r f ≡ read_on r g
      go (refused fault place) w = refl
      go (parsed a end k) w = s a end k w.0 w.1

  -- read and read₁ find the same from each offset after `at` within the bytes
  abbrev Agree : ℕ → ArmReader → ArmReader → Type 0
  Agree at read read₁ = (depth : ℕ) (close : Mark) (at₁ : ℕ) (k : Counts) → at < at₁ → at₁ ≤ length bs → read depth close at₁ k ≡ read₁ depth close at₁ k

  agree_if : (read read₁ : ArmReader) (at : ℕ) → AheadBy read → Agree at read read₁ → (depth : ℕ) (k : Counts) → at + 4 ≤ length bs
      → if_arms read depth at k ≡ if_arms read₁ depth at k
  agree_if read read₁ at go same depth k u =
      agree_then (at + 4) _ _ _ _ (same (depth + 1) Mark.Else (at + 4) k (omega arith) u) (go (depth + 1) Mark.Else (at + 4) k) (λ first at₁ k₁ l₁ u₁.
      agree_then at₁ _ _ _ _ (same (depth + 1) Mark.EndIf at₁ k₁ (omega arith) u₁) (go (depth + 1) Mark.EndIf at₁ k₁) (λ second at₂ k₂ l₂ u₂. refl))

  agree_step : (read read₁ : ArmReader) (at : ℕ) → AheadBy read → Agree at read read₁ → (depth : ℕ) (close : Mark) (k : Counts) (s : Step) → Fits depth at s
      → arm_step read depth close at k s ≡ arm_step read₁ depth close at k s
  agree_step read read₁ at go same depth close k (faulty fault) f = refl
  agree_step read read₁ at go same depth close k closing f = refl
  agree_step read read₁ at go same depth close k (simple_then c k₁) f =
      agree_then (at + simple_size c) _ _ _ _ (same depth close (at + simple_size c) k₁ (omega (arith, simple-size c)) f) (go depth close (at + simple_size c) k₁)
      (λ rest end k₂ l u. refl)
  agree_step read read₁ at go same depth close k (if_then c k₁) f =
      agree_then (at + 4) _ _ _ _ (agree_if read read₁ at go same depth k₁ f.0) (ahead_if read go depth at k₁) (λ arms at₂ k₂ l₂ u₂.
      agree_then at₂ _ _ _ _ (same depth close at₂ k₂ (omega arith) u₂) (go depth close at₂ k₂) (λ rest end k₃ l₃ u₃. refl))

  -- bounds above the bytes left find the same
  enough : (n m : ℕ) (h : Header) (depth : ℕ) (close : Mark) (at : ℕ) (k : Counts) → length bs - at < n → length bs - at < m
      → arm_by n bs h depth close at k ≡ arm_by m bs h depth close at k
  unfolding arm_by
  enough zero m h depth close at k l r = absurd (omega arith)
  enough (suc n) zero h depth close at k l r = absurd (omega arith)
  enough (suc n) (suc m) h depth close at k l r =
      agree_step (arm_by n bs h) (arm_by m bs h) at (ahead_by n h) (λ d z at₁ k₁ l₁ u₁. enough n m h d z at₁ k₁ (omega arith) (omega arith)) depth close k
      (step_at bs h depth close at k) (fits h depth close at k)

  -- an arm is its first command and what follows
  pub unroll : (h : Header) (depth : ℕ) (close : Mark) (at : ℕ) (k : Counts) → arm bs h depth close at k ≡ arm_step (arm bs h) depth close at k (step_at bs h depth close at k)
  unfolding arm_by
  unroll h depth close at k =
      agree_step (arm_by (length bs) bs h) (arm bs h) at (ahead_by (length bs) h) (λ d z at₁ k₁ l₁ u₁. enough (length bs) (suc (length bs)) h d z at₁ k₁ (omega arith) (omega arith))
      depth close k (step_at bs h depth close at k) (fits h depth close at k)

-- ---- what a walk answers

-- go on after what ended
abbrev pub then_walk : Walked → (ℕ → Counts → Walked) → Walked
then_walk (Err refusal) f = Err refusal
then_walk (Ok passed) f = f passed.next passed.counts

walked_then : {A B : Type 0} (p : Parsed A) (f : A → ℕ → Counts → Parsed B) (g : ℕ → Counts → Walked)
    → ((a : A) (end : ℕ) (k : Counts) → walked (f a end k) ≡ g end k) → walked (read_on p f) ≡ then_walk (walked p) g
walked_then (refused fault place) f g s = refl
walked_then (parsed a end k) f g s = s a end k

walked_as : {A B : Type 0} (p : Parsed A) (f : A → B) → walked (read_on p (λ a end k. parsed (f a) end k)) ≡ walked p
walked_as (refused fault place) f = refl
walked_as (parsed a end k) f = refl

-- a walk over an if is one over its first arm, and then one over its second
pub walk_if_lem : (bs : List ℕ) (h : Header) (depth at : ℕ) (k : Counts)
    → walk_if bs h depth at k ≡ then_walk (walk_arm bs h (depth + 1) Mark.Else (at + 4) k) (walk_arm bs h (depth + 1) Mark.EndIf)
unfolding walk_if walk_arm
walk_if_lem bs h depth at k =
    walked_then (arm bs h (depth + 1) Mark.Else (at + 4) k) _ _ (λ first at₁ k₁. walked_as (arm bs h (depth + 1) Mark.EndIf at₁ k₁) (λ second. (first, second)))

-- a walk over an arm, by what its first command is
abbrev pub walk_step : List ℕ → Header → (depth : ℕ) (close : Mark) (at : ℕ) → Counts → Step → Walked
walk_step bs h depth close at k (faulty fault) = Err (Refusal.Command fault at)
walk_step bs h depth close at k closing = Ok (record { next = at + 1; counts = k })
walk_step bs h depth close at k (simple_then c k₁) = walk_arm bs h depth close (at + simple_size c) k₁
walk_step bs h depth close at k (if_then c k₁) = then_walk (walk_if bs h depth at k₁) (walk_arm bs h depth close)

walked_step : (bs : List ℕ) (h : Header) (depth : ℕ) (close : Mark) (at : ℕ) (k : Counts) (s : Step)
    → walked (arm_step (arm bs h) depth close at k s) ≡ walk_step bs h depth close at k s
unfolding walk_if walk_arm
walked_step bs h depth close at k (faulty fault) = refl
walked_step bs h depth close at k closing = refl
walked_step bs h depth close at k (simple_then c k₁) = walked_as (arm bs h depth close (at + simple_size c) k₁) (λ rest. plain at c k rest)
walked_step bs h depth close at k (if_then c k₁) =
    walked_then (if_arms (arm bs h) depth at k₁) _ _ (λ arms at₂ k₂. walked_as (arm bs h depth close at₂ k₂) (λ rest. if_else at c k arms.0 arms.1 rest))

walk_arm_lem : (bs : List ℕ) (h : Header) (depth : ℕ) (close : Mark) (at : ℕ) (k : Counts)
    → walk_arm bs h depth close at k ≡ walk_step bs h depth close at k (step_at bs h depth close at k)
unfolding walk_arm
walk_arm_lem bs h depth close at k = ap walked (unroll bs h depth close at k) ∙ walked_step bs h depth close at k (step_at bs h depth close at k)

-- ---- what the command at an offset is, by what `command_at` and the looks at it answered

fault_is : (s : Step) (fault : Fault) → fault_of s ≡ Err fault → s ≡ faulty fault
fault_is (faulty f) fault e = let z : f ≡ fault = cc in ap faulty z
fault_is closing fault e = let z : ◌≡◌ {A = ℕ} 0 1 = cc in absurd (omega arith)
fault_is (simple_then c k) fault e = let z : ◌≡◌ {A = ℕ} 0 1 = cc in absurd (omega arith)
fault_is (if_then c k) fault e = let z : ◌≡◌ {A = ℕ} 0 1 = cc in absurd (omega arith)

module _ (bs : List ℕ) (h : Header) (depth : ℕ) (close : Mark) (at : ℕ) (k : Counts) where
  good_simple : (d : Simple Conversion Operation) (s : Step) → Of bs h depth k (Command.Simple d) s → fault_of s ≡ Ok tt → s ≡ simple_then d (counts_after d k)
  good_simple d (faulty f) o e = let z : ◌≡◌ {A = ℕ} 0 1 = cc in absurd (omega arith)
  good_simple d closing o e = let f = o.1 in let z : ◌≡◌ {A = ℕ} 0 1 = cc in absurd (omega arith)
  good_simple d (simple_then c k₁) o e = let f = o.command in let z : c ≡ d = cc in rw (o.counts, z)
  good_simple d (if_then c k₁) o e = let f = o.command in let z : ◌≡◌ {A = ℕ} 0 1 = cc in absurd (omega arith)

  good_if : (d : Condition) (s : Step) → Of bs h depth k (Command.If d) s → fault_of s ≡ Ok tt → s ≡ if_then d (counts_after_if k)
  good_if d (faulty f) o e = let z : ◌≡◌ {A = ℕ} 0 1 = cc in absurd (omega arith)
  good_if d closing o e = let f = o.1 in let z : ◌≡◌ {A = ℕ} 0 1 = cc in absurd (omega arith)
  good_if d (simple_then c k₁) o e = let f = o.command in let z : ◌≡◌ {A = ℕ} 0 1 = cc in absurd (omega arith)
  good_if d (if_then c k₁) o e = let f = o.command in let z : c ≡ d = cc in rw (o.counts, z)

  module _ (c : Command Mark Conversion Operation) (stands : c ≡ command_at bs at) where
    by_command : (d : Command Mark Conversion Operation) → c ≡ d → (s : Step) → step_of bs h depth close d k ≡ s → step_at bs h depth close at k ≡ s
    by_command d e s f = ap (λ (x : Command Mark Conversion Operation). step_of bs h depth close x k) (sym stands ∙ e) ∙ f

    pub is_missing : c ≡ Command.Missing → step_at bs h depth close at k ≡ faulty Fault.Unknown
    unfolding step_of
    is_missing e = by_command Command.Missing e (faulty Fault.Unknown) refl

    pub is_misplaced : (mark : Mark) → c ≡ Command.Close mark → same_mark mark close ≡ false → step_at bs h depth close at k ≡ faulty Fault.Misplaced
    unfolding step_of unless
    is_misplaced mark e f = by_command (Command.Close mark) e (faulty Fault.Misplaced) (rw f)

    pub is_closing : (mark : Mark) → c ≡ Command.Close mark → same_mark mark close ≡ true → step_at bs h depth close at k ≡ closing
    unfolding step_of unless
    is_closing mark e f = by_command (Command.Close mark) e closing (rw f)

    module _ (d : Simple Conversion Operation) (e : c ≡ Command.Simple d) (v : Result (Unit {0}) Fault) (by : v ≡ fault_of (simple_step bs h d k)) where
      pub faulty-simple : (fault : Fault) → v ≡ Err fault → step_at bs h depth close at k ≡ faulty fault
      unfolding step_of
      faulty-simple fault f = by_command (Command.Simple d) e (faulty fault) (fault_is (simple_step bs h d k) fault (sym by ∙ f))

      pub is_simple : v ≡ Ok tt → step_at bs h depth close at k ≡ simple_then d (counts_after d k)
      unfolding step_of
      is_simple f = by_command (Command.Simple d) e (simple_then d (counts_after d k)) (good_simple d (simple_step bs h d k) (of_simple bs h depth k d) (sym by ∙ f))

      pub few-accesses : v ≡ Ok tt → too_many d k ≡ false
      few-accesses f = (rw (good_simple d (simple_step bs h d k) (of_simple bs h depth k d) (sym by ∙ f)) at (of_simple bs h depth k d)).few

    module _ (d : Condition) (e : c ≡ Command.If d) (v : Result (Unit {0}) Fault) (by : v ≡ fault_of (if_step bs h depth d k)) where
      pub faulty_if : (fault : Fault) → v ≡ Err fault → step_at bs h depth close at k ≡ faulty fault
      unfolding step_of
      faulty_if fault f = by_command (Command.If d) e (faulty fault) (fault_is (if_step bs h depth d k) fault (sym by ∙ f))

      pub is_if : v ≡ Ok tt → step_at bs h depth close at k ≡ if_then d (counts_after_if k)
      unfolding step_of
      is_if f = by_command (Command.If d) e (if_then d (counts_after_if k)) (good_if d (if_step bs h depth d k) (of_if bs h depth k d) (sym by ∙ f))

      pub few-ifs : v ≡ Ok tt → k.ifs < 32
      few-ifs f = (rw (good_if d (if_step bs h depth d k) (of_if bs h depth k d) (sym by ∙ f)) at (of_if bs h depth k d)).few

  -- the command at the offset is s
  module _ (s : Step) (is : step_at bs h depth close at k ≡ s) where
    pub fits_by : Fits bs depth at s
    fits_by = rw is at (fits bs h depth close at k)

    pub over : (w : Walked) → walk_arm bs h depth close at k ≡ w → walk_step bs h depth close at k s ≡ w
    over w e = sym (walk_arm_lem bs h depth close at k ∙ ap (walk_step bs h depth close at k) is) ∙ e

-- the answer r so far is x, and it is v
pub then_by : (r x v w : Walked) (f : ℕ → Counts → Walked) → r ≡ x → r ≡ v → then_walk x f ≡ w → then_walk v f ≡ w
then_by r x v w f e p q = ap (λ (y : Walked). then_walk y f) (sym p ∙ e) ∙ q

-- where a walk ended
ended : {A : Type 0} (bs : List ℕ) (at : ℕ) (p : Parsed A) (w : Walked) (r : Passed) → w ≡ Ok r → w ≡ walked p → Ahead bs at p
    → (at < r.next) × (r.next ≤ length bs)
ended bs at (refused fault place) w r e f a = let z : ◌≡◌ {A = ℕ} 0 1 = cc in absurd (omega arith)
ended bs at (parsed a₁ end₁ k₁) w r e f a = let z : r.next ≡ end₁ = cc in (omega arith, omega arith)

module _ (bs : List ℕ) (h : Header) (depth at : ℕ) (k : Counts) (w : Walked) (r : Passed) (is : w ≡ Ok r) where
  pub ended_arm : (close : Mark) → w ≡ walk_arm bs h depth close at k → (at < r.next) × (r.next ≤ length bs)
  unfolding walk_arm
  ended_arm close e = ended bs at (arm bs h depth close at k) w r is e (ahead bs h depth close at k)

  pub ended_if : w ≡ walk_if bs h depth at k → (at + 4 < r.next) × (r.next ≤ length bs)
  unfolding walk_if
  ended_if e = ended bs (at + 4) (if_arms (arm bs h) depth at k) w r is e (ahead_if bs (arm bs h) (ahead bs h) depth at k)
