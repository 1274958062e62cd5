-- The literals of the variables' bits are worth what the variables hold in a run: at the start, after a variable was changed, and where two arms are
-- joined. Assumes nothing.
use mathlib.Core.Logic.{◌≢◌}
use mathlib.Core.Path.{◌≡◌, refl, sym, ap, subst, ◌∙◌}
use mathlib.Core.List.{List}
use mathlib.Core.Bool.{Bool, true, false, cond}
use Prim.Native.Nat.{ℕ, zero, suc, ◌+◌, ◌*◌, ◌^◌, ◌<◌, ◌≤◌}
use native.Mathlib.Omega.{arith}
use lib.ListN.{length, length-replicate, get_or-replicate, set, length-set, replicate}
use lib.Seq.{get_or-set_same, get_or-set_other}
use lib.Dec.{eqb}
use borrow.Author.Tests.{eqb-true, eqb-false}
use Rattle.slices.specs.Bytes.{entry}
use Rattle.routine_header.specs.Header.{width}
use Rattle.routine_faults.specs.Inner.Sound.{Fine}
use Rattle.routine_header.specs.declared.Header.{Header}
use Rattle.run_state.specs.State.{over}
use Rattle.cnf.specs.Meaning.{Assign, lit}
use Rattle.netlist.specs.Meaning.{Inputs}
use Rattle.netlist.proofs.Literals.{lit_false}
use Rattle.netlist.proofs.Truth.{Models, models_append}
use Rattle.arithmetic.specs.Bits.{Bits}
use Rattle.arithmetic.specs.Input.{inputs, in_bit}
use Rattle.arithmetic.specs.Join.{joiner, join_bit}
use Rattle.arithmetic.proofs.Values.{value, value_cong, value_zero}
use Rattle.arithmetic.proofs.Input.{input_word}
use Rattle.arithmetic.proofs.Join.{join-word}
use Rattle.translation_state.specs.Wires.{all_places, bits_in, bits_set}
use Rattle.translation_if.specs.If.{join_groups}
use Rattle.translation_meaning.specs.Translation.{given_nodes, given_lits}
use Rattle.translation_meaning.specs.Faithful.{bits_of_list}
use Rattle.translation_meaning.proofs.Places.{bits-place, put_length, put_same, put_other}

module _ (bs : List ℕ) (h : Header) (fine : Fine bs h) (ρ : Assign) where
  -- the literals are worth the values
  pub record Worth (lits values : List ℕ) : Type 0 where
    pub places : length lits ≡ all_places h
    pub count : length values ≡ 32
    pub worth : (v : ℕ) → v < h.variables → value ρ (bits_in bs lits v) (width bs v) ≡ entry values v

  -- a variable with other bits and another value
  pub put_worth : (lits values : List ℕ) → Worth lits values → (d : ℕ) (f : Bits) (x : ℕ) → d < h.variables → value ρ f (width bs d) ≡ x
      → Worth (bits_set bs lits d f) (set values d x)
  put_worth lits values w d f x l e = record {
    places = put_length bs lits d f ∙ w.places;
    count = length-set values d x ∙ w.count;
    worth = λ v m. pick v m (eqb v d) refl;
  }
    where
      here : value ρ (bits_in bs (bits_set bs lits d f) d) (width bs d) ≡ entry (set values d x) d
      here =
          value_cong ρ (bits_in bs (bits_set bs lits d f) d) f (width bs d)
          (λ j m. put_same bs lits d f j m (omega (arith, fine.widths d l, w.places)))
          ∙ e ∙ sym (get_or-set_same values d x 0 (omega (arith, fine.few, w.count)))

      pick : (v : ℕ) → v < h.variables → (b : Bool) → eqb v d ≡ b → value ρ (bits_in bs (bits_set bs lits d f) v) (width bs v) ≡ entry (set values d x) v
      pick v m true q = subst (λ (u : ℕ). value ρ (bits_in bs (bits_set bs lits d f) u) (width bs u) ≡ entry (set values d x) u) (sym (eqb-true v d q)) here
      pick v m false q =
          let ne : v ≢ d = eqb-false v d q in
          value_cong ρ (bits_in bs (bits_set bs lits d f) v) (bits_in bs lits v) (width bs v)
          (λ j k. put_other bs lits d f v j ne k (fine.widths v m).1 (fine.widths d l).1)
          ∙ w.worth v m ∙ sym (get_or-set_other values d v x 0 ne)

  -- ---- the start

  module _ (ins : List ℕ) (o : ρ 1 ≡ true) where
    none_worth : Worth (replicate (all_places h) 3) (replicate 32 0)
    none_worth = record {
      places = length-replicate (all_places h) 3;
      count = refl;
      worth = λ v l.
          value_zero ρ (bits_in bs (replicate (all_places h) 3) v) (width bs v)
          (λ j m. ap (lit ρ) (bits-place bs (replicate (all_places h) 3) v j m ∙ get_or-replicate (all_places h) (32 * v + j) 3 0 (omega (arith, fine.widths v l))) ∙ lit_false ρ o)
          ∙ sym (get_or-replicate 32 v 0 0 (omega (arith, fine.few)));
    }

    -- the first n variables have their words
    pub given_worth : (n : ℕ) → n ≤ h.variables → ((v : ℕ) → v < n → entry ins v < 2 ^ width bs v) → Models (bits_of_list ins) ρ 2 (given_nodes bs n)
        → Worth (given_lits bs (all_places h) n) (over n ins (replicate 32 0))
    unfolding given_nodes given_lits over
    given_worth zero l f m = none_worth
    given_worth (suc p) l f m =
        let r = models_append (bits_of_list ins) ρ 2 (given_nodes bs p) (inputs p (width bs p)) m in
        let g : ℕ = 2 + length (given_nodes bs p) in
        put_worth (given_lits bs (all_places h) p) (over p ins (replicate 32 0)) (given_worth p (omega arith) (λ v k. f v (omega arith)) r.0) p (in_bit g) (entry ins p)
        (omega arith) (input_word (bits_of_list ins) ρ g p (width bs p) (entry ins p) (λ j. refl) (f p (omega arith)) r.1)

  -- ---- joining

  module _ (ins : Inputs) (g c : ℕ) (x y : List ℕ) (lx : length x ≡ all_places h) where
    -- what a joined variable is worth: as in the arm that the condition picks
    record Joins (n : ℕ) : Type 0 where
      places : length (join_groups bs g c x y n).lits ≡ all_places h
      done : (v : ℕ) → v < n → value ρ (bits_in bs (join_groups bs g c x y n).lits v) (width bs v) ≡ cond (lit ρ c) (value ρ (bits_in bs x v) (width bs v)) (value ρ (bits_in bs y v) (width bs v))

    joins : (n : ℕ) → n ≤ h.variables → Models ins ρ g (join_groups bs g c x y n).nodes → Joins n
    unfolding join_groups
    joins zero l m = record { places = lx; done = λ v k. absurd (omega arith) }
    joins (suc u) l m =
        let r = models_append ins ρ g (join_groups bs g c x y u).nodes (joiner c (bits_in bs x u) (bits_in bs y u) (width bs u)) m in
        let k : ℕ = g + length (join_groups bs g c x y u).nodes in
        let p = joins u (omega arith) r.0 in
        let f : Bits = join_bit k c (bits_in bs x u) (bits_in bs y u) in
        let ls : List ℕ = (join_groups bs g c x y u).lits in
        record {
          places = put_length bs ls u f ∙ p.places;
          done = λ v q. pick u l ls f p.places p.done (join-word ins ρ k c (bits_in bs x u) (bits_in bs y u) (width bs u) r.1) v q (eqb v u) refl;
        }
      where
        pick : (u : ℕ) → suc u ≤ h.variables → (ls : List ℕ) (f : Bits) → length ls ≡ all_places h
            → ((v : ℕ) → v < u → value ρ (bits_in bs ls v) (width bs v) ≡ cond (lit ρ c) (value ρ (bits_in bs x v) (width bs v)) (value ρ (bits_in bs y v) (width bs v)))
            → value ρ f (width bs u) ≡ cond (lit ρ c) (value ρ (bits_in bs x u) (width bs u)) (value ρ (bits_in bs y u) (width bs u))
            → (v : ℕ) → v < suc u → (b : Bool) → eqb v u ≡ b
            → value ρ (bits_in bs (bits_set bs ls u f) v) (width bs v) ≡ cond (lit ρ c) (value ρ (bits_in bs x v) (width bs v)) (value ρ (bits_in bs y v) (width bs v))
        pick u l ls f s p e v q true z =
            subst (λ (i : ℕ). value ρ (bits_in bs (bits_set bs ls u f) i) (width bs i) ≡ cond (lit ρ c) (value ρ (bits_in bs x i) (width bs i)) (value ρ (bits_in bs y i) (width bs i)))
            (sym (eqb-true v u z))
            (value_cong ρ (bits_in bs (bits_set bs ls u f) u) f (width bs u)
            (λ j m. put_same bs ls u f j m (omega (arith, fine.widths u (omega arith), s)))
            ∙ e)
        pick u l ls f s p e v q false z =
            let ne : v ≢ u = eqb-false v u z in
            value_cong ρ (bits_in bs (bits_set bs ls u f) v) (bits_in bs ls v) (width bs v)
            (λ j m. put_other bs ls u f v j ne m (fine.widths v (omega arith)).1 (fine.widths u (omega arith)).1)
            ∙ p v (omega arith)

    -- the condition holds, and the first arm's literals are worth the values
    pub join_first : (values : List ℕ) → lit ρ c ≡ true → Models ins ρ g (join_groups bs g c x y h.variables).nodes → Worth x values
        → Worth (join_groups bs g c x y h.variables).lits values
    join_first values e m w =
        let p = joins h.variables (omega arith) m in
        record { places = p.places; count = w.count; worth = λ v l. (rw e at (p.done v l)) ∙ w.worth v l }

    -- it does not, and the else's are
    pub join-second : (values : List ℕ) → lit ρ c ≡ false → Models ins ρ g (join_groups bs g c x y h.variables).nodes → Worth y values
        → Worth (join_groups bs g c x y h.variables).lits values
    join-second values e m w =
        let p = joins h.variables (omega arith) m in
        record { places = p.places; count = w.count; worth = λ v l. (rw e at (p.done v l)) ∙ w.worth v l }
