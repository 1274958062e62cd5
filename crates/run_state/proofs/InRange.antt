-- The operands of a command that passed 4 and 5 are variables, of widths 1 to 32. Assumes nothing.
use Rattle.routine_command.specs.declared.Conversion.{Conversion}
use Rattle.routine_command.specs.declared.Operation.{Operation}
use mathlib.Core.Path.{◌≡◌}
use mathlib.Core.List.{List}
use Prim.Native.Nat.{ℕ, ◌≤◌, ◌<◌}
use native.Mathlib.Omega.{arith}
use Rattle.routine_header.specs.Header.{width}
use Rattle.routine_faults.specs.Inner.Sound.{Sound, SoundIf, Fine}
use Rattle.routine_header.specs.declared.Header.{Header}
use Rattle.routine_command.specs.declared.Condition.{Condition}
use Rattle.routine_command.specs.declared.Simple.{Simple}
use Rattle.run_state.specs.Inner.Moves.{operands_of}
use Rattle.routine_faults.proofs.Fine.{set_fine, convert_fine, compute_fine, read_fine, write_fine, condition_fine}

module _ (bs : List ℕ) (h : Header) (f : Fine bs h) where
  variable_below : (v : ℕ) → v < h.variables → v < 32
  variable_below v l = omega (arith, f.few)

  module _ (x : Simple Conversion Operation) (e : Sound bs h x) where
    pub convert_operands : (op : Conversion) (d s : ℕ) → x ≡ Simple.Convert op d s
        → (d < 32) × (s < 32) × (width bs d ≤ 32) × (1 ≤ width bs s) × (width bs s ≤ 32)
    convert_operands op d s q =
        let p = convert_fine bs h op d s (rw q at e) in
        let w = f.widths s p.1 in
        (variable_below d p.0, variable_below s p.1, (f.widths d p.0).1, w.0, w.1)

    pub compute_operands : (op : Operation) (d s t : ℕ) → x ≡ Simple.Compute op d s t → (d < 32) × (s < 32) × (t < 32) × (width bs d ≤ 32)
    compute_operands op d s t q =
        let p = compute_fine bs h op d s t (rw q at e) in
        (variable_below d p.0, variable_below s p.1, variable_below t p.2, (f.widths d p.0).1)

    index_of : (i : ℕ) → i < h.variables → (i < 32) × (1 ≤ width bs i) × (width bs i ≤ 32)
    index_of i l = let w = f.widths i l in (variable_below i l, w.0, w.1)

    pub read-index : (d array i : ℕ) → x ≡ Simple.Read d array i → (i < 32) × (1 ≤ width bs i) × (width bs i ≤ 32)
    read-index d array i q = index_of i (read_fine bs h d array i (rw q at e)).2

    pub write_index : (array i s : ℕ) → x ≡ Simple.Write array i s → (i < 32) × (1 ≤ width bs i) × (width bs i ≤ 32)
    write_index array i s q = index_of i (write_fine bs h array i s (rw q at e)).1

  -- each of the variables of a command is one of 32
  pub operands_below : (x : Simple Conversion Operation) → Sound bs h x → ((operands_of x).d < 32) × ((operands_of x).a < 32) × ((operands_of x).b < 32) × ((operands_of x).i < 32)
  operands_below (Simple.Set d c) e = (variable_below d (set_fine bs h d c e).0, omega arith, omega arith, omega arith)
  operands_below (Simple.Convert op d s) e =
      let p = convert_fine bs h op d s e in
      (variable_below d p.0, variable_below s p.1, omega arith, omega arith)
  operands_below (Simple.Compute op d s t) e =
      let p = compute_fine bs h op d s t e in
      (variable_below d p.0, variable_below s p.1, variable_below t p.2, omega arith)
  operands_below (Simple.Read d array i) e =
      let p = read_fine bs h d array i e in
      (variable_below d p.0, omega arith, omega arith, variable_below i p.2)
  operands_below (Simple.Write array i s) e =
      let p = write_fine bs h array i s e in
      (variable_below s p.2, variable_below s p.2, omega arith, variable_below i p.1)

  pub condition_operands : (c : Condition) → SoundIf bs h c → (c.s < 32) × (c.t < 32) × (1 ≤ width bs c.s) × (width bs c.s ≤ 32)
  condition_operands c e =
      let p = condition_fine bs h c e in
      let w = f.widths c.s p.1 in
      (variable_below c.s p.1, variable_below c.t p.2, w.0, w.1)
