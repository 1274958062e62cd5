-- The places of a variable among all literals: they are there, they are as many as the variable is wide, and what is stored there becomes its bits.
-- Assumes nothing.
use mathlib.Core.Path.{◌≡◌, ap, ◌∙◌}
use mathlib.Core.List.{List}
use Prim.Native.Nat.{ℕ, ◌≤◌, ◌<◌, ◌+◌, ◌-◌}
use native.Mathlib.Omega.{arith}
use lib.ListN.{length, take, drop, length-drop}
use lib.Seq.{sets, length-take-le}
use Rattle.arithmetic.specs.Bits.{Bits, lit_at, places, tabulate}
use Rattle.arithmetic.proofs.Laws.{sized-length, sized_table}
use Rattle.routine_header.specs.Header.{width}
use Rattle.routine_faults.specs.Inner.Sound.{Fine}
use Rattle.routine_header.specs.declared.Header.{Header}
use Rattle.translation_state.specs.Wires.{all_places, place_of, bits_in, bits_set}

-- a variable of the routine, and its width
pub record Ranged (bs : List ℕ) (v : ℕ) : Type 0 where
  pub variable : v < 32
  pub some : 0 < width bs v
  pub few : width bs v ≤ 32

pub ranged : (bs : List ℕ) (h : Header) (v : ℕ) → Fine bs h → v < h.variables → Ranged bs v
ranged bs h v f l = let w = f.widths v l in record { variable = omega (arith, f.few); some = omega (arith, w.0); few = w.1 }

-- from place x on, w places: those of variable v
module _ (bs : List ℕ) (h : Header) (v x w : ℕ) (f : Fine bs h) (l : v < h.variables) (e : x ≡ place_of v) (q : w ≡ width bs v) where
  pub ranged_as : (0 < w) × (w ≤ 32)
  ranged_as = let r = ranged bs h v f l in (omega (arith, r.some, q), omega (arith, r.few, q))

  module _ (lits : List ℕ) (n : length lits ≡ all_places h) where
    pub part_end : x + w ≤ length lits
    part_end = omega (arith, l, (ranged bs h v f l).few, e, q, n)

    -- the part of the literals that a call is lent
    pub part_length : length (take (x + w - x) (drop x lits)) ≡ w
    part_length = let z : x + w - x ≡ w = omega arith in rw z (length-take-le w _ (rw length-drop (omega (arith, part_end))))

    pub part-bits : lit_at (take (x + w - x) (drop x lits)) ≡ bits_in bs lits v
    part-bits = let z : x + w - x ≡ width bs v = omega (arith, q) in λ i. lit_at (take (z i) (drop (e i) lits))

    -- a table has the bits that are stored in the variable
    module _ {r : List ℕ} (g : Bits) (t : r ≡ tabulate g places) where
      pub storable : x + length (take w r) ≤ length lits
      storable = omega (arith, sized-length g t w (omega (arith, ranged_as.1)), part_end)

      pub stored : (lits₁ : List ℕ) → lits₁ ≡ sets lits x (take w r) → lits₁ ≡ bits_set bs lits v g
      stored lits₁ s =
          s ∙ ap (sets lits x) (sized_table g t w (omega (arith, ranged_as.1)))
          ∙ (λ i. sets lits (e i) (tabulate g (q i)))
