-- The bits of the variables, one variable after the other. Assumes nothing.
use mathlib.Core.Path.{◌≡◌, ap, subst, ◌∙◌}
use mathlib.Core.List.{List, [], ◌++◌}
use Prim.Native.Nat.{ℕ, zero, suc, ◌+◌, ◌*◌, ◌≤◌}
use native.Mathlib.Omega.{arith}
use native.Mathlib.Numerals.{add-one}
use lib.ListN.{length, length-append, length-replicate}
use lib.Seq.{length-sets}
use Rattle.routine_header.specs.Header.{width}
use Rattle.routine_faults.specs.Inner.Sound.{Fine}
use Rattle.routine_faults.specs.Inputs.{given}
use Rattle.routine_header.specs.declared.Header.{Header}
use Rattle.netlist.specs.declared.Node.{Node}
use Rattle.netlist.specs.Inner.Emit.{Emitted, Ready}
use Rattle.netlist.specs.declared.Net.{Net}
use Rattle.netlist.proofs.Emitting.{emitted_then, ready-after}
use Rattle.arithmetic.specs.Bits.{tabulate}
use Rattle.arithmetic.specs.Input.{inputs, in_bit}
use Rattle.arithmetic.specs.Inner.Taken.{TakesInputs}
use Rattle.arithmetic.proofs.Input.{length-inputs}
use Rattle.translation_meaning.specs.Translation.{given_nodes, given_lits}
use Rattle.translation_state.specs.Wires.{bits_set}
use Rattle.translation_state.proofs.Ranges.{ranged}

pub some-few : (bs : List ℕ) (h : Header) → Fine bs h → (p : ℕ) → p ≤ given h → length (given_nodes bs p) ≤ 32 * p
unfolding given_nodes
some-few bs h f zero l = omega arith
some-few bs h f (suc p) l =
    let r = ranged bs h p f (omega arith) in
    simp (length-append, length-inputs) (omega (arith, some-few bs h f p (omega arith), r.few))

-- after some variables there is room for one more
pub given_ready : {bs : List ℕ} {h : Header} {p : ℕ} {W U : List ℕ} {n n₁ : Net} → Fine bs h → p ≤ given h → Emitted W U n (given_nodes bs p) W U n₁ → Ready n 2048
    → Ready n₁ 32
given_ready {bs} {h} {p} f l q r = ready-after 32 q r (omega (arith, some-few bs h f p l, f.few))

module _ (bs : List ℕ) (n n₁ n₂ : Net) (p w : ℕ) (e : w ≡ width bs p) (q : (W U : List ℕ) → Emitted W U n (given_nodes bs p) W U n₁) (r : TakesInputs n₁ w n₂) where
  pub given_made : (W U : List ℕ) → Emitted W U n (given_nodes bs (p + 1)) W U n₂
  unfolding given_nodes
  given_made W U =
      rw (add-one p)
      (subst (λ (ns : List Node). Emitted W U n (given_nodes bs p ++ ns) W U n₂) (λ i. inputs p (e i)) (emitted_then (q W U) (r.tells W U p)))

  pub given_wired : (m : ℕ) → n.next ≡ 2 → (l l₁ : List ℕ) → l ≡ given_lits bs m p → l₁ ≡ bits_set bs l p (in_bit n₁.next) → l₁ ≡ given_lits bs m (p + 1)
  unfolding given_lits
  given_wired m two l l₁ a b =
      let g : n₁.next ≡ 2 + length (given_nodes bs p) = (q [] []).next ∙ ap (λ (i : ℕ). i + length (given_nodes bs p)) two in
      rw (add-one p) (b ∙ (λ i. bits_set bs (a i) p (in_bit (g i))))

-- the literals keep their places
pub given-length : (bs : List ℕ) (m p : ℕ) → length (given_lits bs m p) ≡ m
unfolding given_lits
given-length bs m zero = length-replicate m 3
given-length bs m (suc p) =
    length-sets (given_lits bs m p) (32 * p) (tabulate (in_bit (2 + length (given_nodes bs p))) (width bs p)) ∙ given-length bs m p
