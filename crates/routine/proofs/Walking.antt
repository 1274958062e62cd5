-- A walk over an arm of an accepted routine, whatever it keeps on the way: its state s : S, what an arm means from a state, M, and how the state is
-- tied to the counts, K. A walker's loop has the invariant `Going`: what is left means what the whole meant. Assumes nothing.
use mathlib.Core.Path.{◌≡◌, refl, sym, ◌∙◌}
use mathlib.Core.List.{List}
use Prim.Native.Nat.{ℕ, ◌+◌}
use Rattle.routine_command.specs.Command.{simple_size, command_at}
use Rattle.routine_faults.specs.Step.{counts_after, counts_after_if}
use Rattle.routine.specs.Routine.{Arm, done, plain, if_else}
use Rattle.routine.specs.Inner.Stands.{Stands}
use Rattle.routine_header.specs.declared.Header.{Header}
use Rattle.routine_command.specs.declared.Condition.{Condition}
use Rattle.routine_faults.specs.declared.Counts.{Counts}
use Rattle.routine_command.specs.declared.Conversion.{Conversion}
use Rattle.routine_command.specs.declared.Operation.{Operation}
use Rattle.routine_command.specs.declared.Simple.{Simple}
use Rattle.routine_command.specs.declared.Command.{Command}
use Rattle.routine.proofs.Views.{by_close, by_simple, by_if}
use Rattle.routine_command.specs.declared.Mark.{Mark}

-- what is left of the arm a
pub record LeftOf (bs : List ℕ) (h : Header) (depth : ℕ) (close : Mark) {S R : Type 0} (M : Arm → S → R) (K : Counts → S → Type 0) (s₀ : S) (at : ℕ) (s : S) (a : Arm) (end : ℕ) (k₁ : Counts) : Type 0 where
  pub counts : Counts
  pub tied : K counts s
  pub rest : Arm
  pub stands : Stands bs h depth close at counts rest end k₁
  pub same : M rest s ≡ M a s₀

-- the walk began at `from` with s₀ and is now at `at` with s
pub record Going (bs : List ℕ) (h : Header) (depth : ℕ) (close : Mark) {S R : Type 0} (M : Arm → S → R) (K : Counts → S → Type 0) (from : ℕ) (s₀ : S) (at : ℕ) (s : S) : Type 0 where
  pub goes : (k : Counts) (a : Arm) (end : ℕ) (k₁ : Counts) → K k s₀ → Stands bs h depth close from k a end k₁ → LeftOf bs h depth close M K s₀ at s a end k₁

module _ (bs : List ℕ) (h : Header) (depth : ℕ) (close : Mark) {S R : Type 0} (M : Arm → S → R) (K : Counts → S → Type 0) where
  pub begin : (from : ℕ) (s : S) → Going bs h depth close M K from s from s
  begin from s = record { goes = λ k a end k₁ t x. record { counts = k; tied = t; rest = a; stands = x; same = refl } }

  module _ (from : ℕ) (s₀ : S) (at : ℕ) (s : S) (g : Going bs h depth close M K from s₀ at s) (r : Command Mark Conversion Operation) (is : r ≡ command_at bs at) where
    -- at the arm's end
    pub at_close : (m : Mark) → r ≡ Command.Close m → (k : Counts) (a : Arm) (end : ℕ) (k₁ : Counts) → K k s₀ → Stands bs h depth close from k a end k₁
        → (at + 1 ≡ end) × K k₁ s × (M done s ≡ M a s₀)
    at_close m q k a end k₁ t x =
        let l = g.goes k a end k₁ t x in
        let v = by_close bs h depth close at l.counts l.rest end k₁ r is l.stands m q in
        (sym v.ends, rw v.counts l.tied, rw v.arm at l.same)

    -- at a command after which nothing of the rest matters
    pub over-simple : (c : Simple Conversion Operation) → r ≡ Command.Simple c → (x : R) → ((k : Counts) (rest : Arm) → K k s → x ≡ M (plain at c k rest) s)
        → (k : Counts) (a : Arm) (end : ℕ) (k₁ : Counts) → K k s₀ → Stands bs h depth close from k a end k₁ → x ≡ M a s₀
    over-simple c q x step k a end k₁ t y =
        let l = g.goes k a end k₁ t y in
        let v = by_simple bs h depth close at l.counts l.rest end k₁ r is l.stands c q in
        step l.counts v.rest l.tied ∙ rw v.arm at l.same

    -- after a command, with the state s₁
    pub at_simple : (c : Simple Conversion Operation) → r ≡ Command.Simple c → (s₁ : S)
        → ((k : Counts) (rest : Arm) → K k s → (K (counts_after c k) s₁) × (M rest s₁ ≡ M (plain at c k rest) s))
        → Going bs h depth close M K from s₀ (at + simple_size c) s₁
    at_simple c q s₁ step = record {
      goes = λ k a end k₁ t x.
          let l = g.goes k a end k₁ t x in
          let v = by_simple bs h depth close at l.counts l.rest end k₁ r is l.stands c q in
          let p = step l.counts v.rest l.tied in
          record { counts = counts_after c l.counts; tied = p.0; rest = v.rest; stands = v.known.stands; same = p.1 ∙ rw v.arm at l.same };
    }

    -- what both arms of an if tell, whichever stand there
    abbrev pub Both : Condition → (Counts → (first second rest : Arm) → (next : ℕ) → Counts → Type 0) → Type 0
    Both c T = (k : Counts) (first second rest : Arm) (else : ℕ) (k₂ : Counts) (next : ℕ) (k₃ : Counts) → K k s
        → Stands bs h (depth + 1) Mark.Else (at + 4) (counts_after_if k) first else k₂ → Stands bs h (depth + 1) Mark.EndIf else k₂ second next k₃ → T k first second rest next k₃

    -- at an if after which nothing of the rest matters
    pub over_if : (c : Condition) → r ≡ Command.If c → (x : R) → Both c (λ k first second rest next k₃. x ≡ M (if_else at c k first second rest) s)
        → (k : Counts) (a : Arm) (end : ℕ) (k₁ : Counts) → K k s₀ → Stands bs h depth close from k a end k₁ → x ≡ M a s₀
    over_if c q x both k a end k₁ t y =
        let l = g.goes k a end k₁ t y in
        let v = by_if bs h depth close at l.counts l.rest end k₁ r is l.stands c q in
        let f = v.known in
        both l.counts v.first v.second v.rest f.else f.k₂ f.next f.k₃ l.tied f.stands-first f.stands-second ∙ rw v.arm at l.same

    -- after an if, at `next₁` with the state s₁
    pub at_if : (c : Condition) → r ≡ Command.If c → (next₁ : ℕ) (s₁ : S)
        → Both c (λ k first second rest next k₃. (next₁ ≡ next) × K k₃ s₁ × (M rest s₁ ≡ M (if_else at c k first second rest) s))
        → Going bs h depth close M K from s₀ next₁ s₁
    at_if c q next₁ s₁ both = record {
      goes = λ k a end k₁ t x.
          let l = g.goes k a end k₁ t x in
          let v = by_if bs h depth close at l.counts l.rest end k₁ r is l.stands c q in
          let f = v.known in
          let p = both l.counts v.first v.second v.rest f.else f.k₂ f.next f.k₃ l.tied f.stands-first f.stands-second in
          record { counts = f.k₃; tied = p.1; rest = v.rest; stands = rw p.0 f.stands; same = p.2 ∙ rw v.arm at l.same };
    }
