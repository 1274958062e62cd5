-- How great a routine is: no width is above the greatest, and its commands and ifs are few. Assumes nothing.
use mathlib.Core.Path.{◌≡◌, sym, subst}
use mathlib.Core.List.{List}
use mathlib.Core.Logic.{⊎_elim}
use Prim.Native.Nat.{ℕ, zero, suc, ◌+◌, ◌*◌, ◌≤◌, ◌<◌}
use native.Mathlib.Nat.{eq-or-lt_of_le}
use native.Mathlib.Omega.{arith}
use Rattle.routine_header.specs.Header.{width}
use Rattle.routine_command.specs.Command.{simple_size}
use Rattle.routine.specs.Routine.{Arm, done, plain, if_else}
use Rattle.routine.specs.Decode.{routine, decode}
use Rattle.routine.specs.Extent.{greatest_width, command_count}
use Rattle.routine.specs.Inner.Stands.{Stands}
use Rattle.routine_header.specs.declared.Header.{Header}
use Rattle.routine_faults.specs.declared.Counts.{Counts}
use Rattle.routine_command.specs.declared.Conversion.{Conversion}
use Rattle.routine_command.specs.declared.Operation.{Operation}
use Rattle.routine_command.specs.declared.Simple.{Simple}
use Rattle.routine.proofs.Views.{induction}
use Rattle.routine.proofs.Decoded.{decoded}
use Rattle.routine.proofs.Counting.{same-ifs}
use Rattle.routine_command.specs.declared.Mark.{Mark}

-- no variable is wider than the greatest width
pub width_at_most : (bs : List ℕ) (n v : ℕ) → v < n → width bs v ≤ greatest_width bs n
unfolding greatest_width
width_at_most bs zero v l = absurd (omega arith)
width_at_most bs (suc n) v l =
    ⊎_elim
    (λ (e : v ≡ n). subst (λ (u : ℕ). width bs u ≤ greatest_width bs (suc n)) (sym e) (omega arith))
    (λ m. omega (arith, width_at_most bs n v m))
    (eq-or-lt_of_le {n = v} {m = n} (omega arith))

-- the ifs of an arm, those in the arms of its ifs too
unfoldable pub ifs_in : Arm → ℕ
ifs_in done = 0
ifs_in (plain at c k rest) = ifs_in rest
ifs_in (if_else at c k first second rest) = 1 + ifs_in first + ifs_in second + ifs_in rest

-- a command that is no part of an if takes at least 3 bytes
three_bytes : (c : Simple Conversion Operation) → 3 ≤ simple_size c
three_bytes (Simple.Set d c) = omega arith
three_bytes (Simple.Convert op d s) = omega arith
three_bytes (Simple.Compute op d s t) = omega arith
three_bytes (Simple.Read d array i) = omega arith
three_bytes (Simple.Write array i s) = omega arith

module _ (bs : List ℕ) (h : Header) where
  -- an if, its else and its end take 6 bytes: so there are at most as many commands as half the bytes, and what ends the arm
  pub commands-few : (a : Arm) (depth : ℕ) (close : Mark) (at : ℕ) (k : Counts) (end : ℕ) (k₁ : Counts) → Stands bs h depth close at k a end k₁ → at + 2 * command_count a ≤ end + 1
  unfolding command_count
  commands-few =
      induction bs h (λ depth close at k a end k₁. at + 2 * command_count a ≤ end + 1)
      (λ depth close at k mark e l. omega arith)
      (λ depth close at k c rest end k₁ v go. omega (arith, go, three_bytes c))
      (λ depth close at k c first second rest end k₁ v go₁ go₂ go₃. omega (arith, go₁, go₂, go₃))

  -- the count of the ifs grows by those of the arm
  pub ifs_counted : (a : Arm) (depth : ℕ) (close : Mark) (at : ℕ) (k : Counts) (end : ℕ) (k₁ : Counts) → Stands bs h depth close at k a end k₁ → k.ifs + ifs_in a ≡ k₁.ifs
  unfolding ifs_in
  ifs_counted =
      induction bs h (λ depth close at k a end k₁. k.ifs + ifs_in a ≡ k₁.ifs)
      (λ depth close at k mark e l. omega arith)
      (λ depth close at k c rest end k₁ v go. omega (arith, go, same-ifs c k))
      (λ depth close at k c first second rest end k₁ v go₁ go₂ go₃. omega (arith, go₁, go₂, go₃))

  module _ (a : Arm) (k : Counts) (e : decode bs ≡ routine h a k) where
    -- the ifs of a routine are those that it counts
    pub all_ifs : ifs_in a ≡ k.ifs
    all_ifs = let p = ifs_counted a 0 Mark.End _ _ _ k (decoded bs h a k e).stands in omega (arith, p)

    -- a routine has at most 2048 commands
    pub few-commands : command_count a ≤ 2048
    few-commands =
        let d = decoded bs h a k e in
        omega (arith, commands-few a 0 Mark.End _ _ _ k d.stands, d.short)
