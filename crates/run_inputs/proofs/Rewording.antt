-- An accepted input list with another word for a variable, which fits it, is accepted too. Assumes nothing.
use mathlib.Core.Path.{◌≡◌, refl, sym, subst, ◌∙◌}
use mathlib.Core.List.{List, [], ◌∷◌, ◌++◌}
use Prim.Native.Nat.{ℕ, zero, suc, ◌+◌, ◌^◌, ◌<◌}
use native.Mathlib.Omega.{arith}
use lib.ListN.{length, set, length-set}
use lib.Seq.{get_or-set_other}
use lib.Dec.{eqb}
use borrow.Author.Tests.{lt-ltb}
use Rattle.std.proofs.Common.{Ok}
use Rattle.slices.specs.Bytes.{entry}
use Rattle.routine_header.specs.Header.{width}
use Rattle.routine_faults.specs.Inputs.{input_count}
use Rattle.routine.specs.Routine.{Arm, text_of}
use Rattle.routine_header.specs.declared.Header.{Header}
use Rattle.routine_faults.specs.declared.Counts.{Counts}
use Rattle.run_inputs.specs.Inputs.{variables_from, read_variables, first_great, words_fit, listed}
use Rattle.run_inputs.proofs.Lists.{great_next}
use Rattle.run_inputs.proofs.Fitting.{one_word, listed_cond}

-- an entry stays below a bound where one that is below it is put
pub below_set : (l : List ℕ) (i j x m : ℕ) → (i ≡ j → x < m) → entry l j < m → entry (set l i x) j < m
below_set [] i j x m f p = p
below_set (y ∷ l) zero zero x m f p = f refl
below_set (y ∷ l) zero (suc j) x m f p = p
below_set (y ∷ l) (suc i) zero x m f p = p
below_set (y ∷ l) (suc i) (suc j) x m f p = below_set l i j x m (λ e. f (rw e)) p

module _ (bs ins : List ℕ) (v x : ℕ) where
  -- the words after that of v are what they were
  later_same : (us : List ℕ) (n : ℕ) → v < n → first_great bs (set ins v x) n us ≡ first_great bs ins n us
  unfolding first_great
  later_same [] n l = refl
  later_same (u ∷ us) n l = rw (get_or-set_other ins v n x 0 (λ e. absurd (omega arith)), later_same us (n + 1) (omega arith)) refl

  module _ (fits : x < 2 ^ width bs v) where
    -- m variables from u on, and then others, which v is not among
    words_same : (m u : ℕ) (ys : List ℕ) → v < u + m → first_great bs ins u (variables_from u m ++ ys) ≡ Ok tt
        → first_great bs (set ins v x) u (variables_from u m ++ ys) ≡ Ok tt
    unfolding variables_from
    words_same zero u ys l f = later_same ys u (omega arith) ∙ f
    words_same (suc m) u ys l f =
        let p = one_word bs ins u u (variables_from (u + 1) m ++ ys) f in
        let e = below_set ins v u x (2 ^ width bs u) (λ e. subst (λ (i : ℕ). x < 2 ^ width bs i) e fits) p.0 in
        sym (great_next bs (set ins v x) u u (variables_from (u + 1) m ++ ys) (lt-ltb _ _ e)) ∙ words_same m (u + 1) ys (omega arith) p.1

    pub reworded : (h : Header) (a : Arm) (k : Counts) → v < h.variables → listed bs ins h a k ≡ Ok tt → listed bs (set ins v x) h a k ≡ Ok tt
    unfolding listed words_fit
    reworded h a k l f =
        let p = listed_cond (eqb (length ins) (input_count h k)) _ f in
        rw (length-set ins v x, p.0, words_same h.variables 0 (read_variables (text_of a)) (omega arith) p.1) refl
