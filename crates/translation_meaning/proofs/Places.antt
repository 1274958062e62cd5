-- The places of the literals: what was put for a variable is found there again, and the places of other variables stay. Assumes nothing.
use mathlib.Core.Path.{◌≡◌, sym, ◌∙◌}
use mathlib.Core.List.{List}
use mathlib.Core.Logic.{◌⊎◌, inl, inr, ◌≢◌}
use Prim.Native.Nat.{ℕ, ◌+◌, ◌-◌, ◌*◌, ◌<◌, ◌≤◌}
use native.Mathlib.Omega.{arith}
use lib.ListN.{length, get_or}
use lib.Seq.{length-sets, get_or-take, get_or-drop}
use Rattle.routine_header.specs.Header.{width}
use Rattle.arithmetic.specs.Bits.{Bits, tabulate}
use Rattle.arithmetic.proofs.Values.{order, length-tabulate, get_d_tabulate}
use Rattle.translation_state.specs.Wires.{bits_in, bits_set}
use Rattle.translation_state.proofs.Overlay.{sets_after, sets_before, sets_inside}

-- ---- the places of a variable

module _ (bs lits : List ℕ) where
  -- bit j of variable v is the literal in place 32 v + j
  pub bits-place : (v j : ℕ) → j < width bs v → bits_in bs lits v j ≡ get_or lits (32 * v + j) 0
  bits-place v j h = get_or-take (width bs v) _ j 0 h ∙ get_or-drop (32 * v) lits j 0

module _ (bs lits : List ℕ) (d : ℕ) (f : Bits) where
  pub put_length : length (bits_set bs lits d f) ≡ length lits
  put_length = length-sets lits (32 * d) (tabulate f (width bs d))

  -- what was put is there
  pub put_same : (j : ℕ) → j < width bs d → 32 * d + width bs d ≤ length lits → bits_in bs (bits_set bs lits d f) d j ≡ f j
  put_same j h e =
      bits-place bs (bits_set bs lits d f) d j h
      ∙ sets_inside (tabulate f (width bs d)) lits (32 * d) j (omega (arith, length-tabulate f (width bs d))) (omega arith)
      ∙ get_d_tabulate f (width bs d) j h

  -- the bits of another variable stay
  pub put_other : (v j : ℕ) → v ≢ d → j < width bs v → width bs v ≤ 32 → width bs d ≤ 32 → bits_in bs (bits_set bs lits d f) v j ≡ bits_in bs lits v j
  put_other v j ne h w x =
      bits-place bs (bits_set bs lits d f) v j h ∙ pick (order v d) ∙ sym (bits-place bs lits v j h)
    where
      pick : (v < d) ⊎ (d ≤ v) → get_or (bits_set bs lits d f) (32 * v + j) 0 ≡ get_or lits (32 * v + j) 0
      pick (inl l) = sets_before (tabulate f (width bs d)) lits (32 * d) (32 * v + j) (omega arith)
      pick (inr l) =
          let s : d < v = omega arith in
          sets_after (tabulate f (width bs d)) lits (32 * d) (32 * v + j) (omega (arith, length-tabulate f (width bs d)))

  -- each place has a literal that was put, or the one it had
  pub put_keeps : (P : ℕ → Type 0) (i : ℕ) → P (get_or lits i 0) → ((j : ℕ) → j < width bs d → P (f j)) → i < length lits → P (get_or (bits_set bs lits d f) i 0)
  put_keeps P i p q h = pick (order i (32 * d)) (order i (32 * d + width bs d))
    where
      same : get_or (bits_set bs lits d f) i 0 ≡ get_or lits i 0 → P (get_or (bits_set bs lits d f) i 0)
      same e = rw e p

      within : 32 * d ≤ i → i < 32 * d + width bs d → P (get_or (bits_set bs lits d f) i 0)
      within a b =
          let j : ℕ = i - 32 * d in
          let e : 32 * d + j ≡ i = omega arith in
          let s : get_or (bits_set bs lits d f) (32 * d + j) 0 ≡ f j =
          sets_inside (tabulate f (width bs d)) lits (32 * d) j (omega (arith, length-tabulate f (width bs d))) (omega arith)
          ∙ get_d_tabulate f (width bs d) j (omega arith) in
          rw (← e) (rw s (q j (omega arith)))

      pick : (i < 32 * d) ⊎ (32 * d ≤ i) → (i < 32 * d + width bs d) ⊎ (32 * d + width bs d ≤ i) → P (get_or (bits_set bs lits d f) i 0)
      pick (inl a) b = same (sets_before (tabulate f (width bs d)) lits (32 * d) i a)
      pick (inr a) (inl b) = within a b
      pick (inr a) (inr b) = same (sets_after (tabulate f (width bs d)) lits (32 * d) i (omega (arith, length-tabulate f (width bs d))))
