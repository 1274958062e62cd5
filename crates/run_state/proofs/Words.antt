-- On an accepted input list every value of a run is a word of its variable's width. Assumes nothing.
use Rattle.routine_command.specs.declared.Conversion.{Conversion}
use Rattle.routine_command.specs.declared.Operation.{Operation}
use Rattle.routine_command.specs.declared.Mark.{Mark}
use mathlib.Core.Path.{◌≡◌, subst}
use mathlib.Core.List.{List, [], ◌∷◌}
use mathlib.Core.Bool.{Bool, true, false, cond}
use Prim.Native.Nat.{ℕ, zero, suc, ◌^◌, ◌<◌}
use native.Mathlib.Nat.{mod-lt, lt_of_lt_of_le}
use native.Mathlib.Omega.{arith}
use lib.ListN.{length, replicate}
use lib.Pow.{pow_pos, pow_mono}
use borrow.Author.Tests.{eqb-true, ltb-true}
use Rattle.std.proofs.Common.{Option, None, Some, Ok}
use Rattle.run_state.specs.declared.Stop.{Stop}
use Rattle.run_state.specs.declared.Side.{Side}
use Rattle.slices.specs.Bytes.{entry}
use Rattle.bitvec.specs.declared.Whole.{Whole}
use Rattle.bitvec.proofs.Laws.{add-below, subtract-below, multiply-below, extend-below}
use Rattle.bitvec.proofs.Division.{quotient-below, remainder-below}
use Rattle.routine_header.specs.Header.{width, array_size, first_command}
use Rattle.routine_header.specs.declared.Header.{Header}
use Rattle.routine_command.specs.declared.Simple.{Simple}
use Rattle.routine_faults.specs.Step.{accesses, converts, widths_fit}
use Rattle.routine_faults.specs.Inputs.{given}
use Rattle.routine_faults.specs.Inner.Sound.{Sound}
use Rattle.routine_faults.specs.declared.Counts.{Counts}
use Rattle.routine_faults.proofs.Fine.{set_fine, convert_fine}
use Rattle.routine.specs.Routine.{Arm}
use Rattle.routine.specs.Decode.{routine, decode, no_counts}
use Rattle.routine.specs.Inner.Stands.{Stands}
use Rattle.routine.proofs.Decoded.{decoded}
use Rattle.routine.proofs.Views.{induction}
use Rattle.run_state.specs.State.{over, initial, value, assigned, with_arm, converted, computed, holds, index_of, lies, arrive, executed}
use Rattle.run_state.specs.declared.State.{State}
use Rattle.run_inputs.specs.Inputs.{listed}
use Rattle.run_inputs.proofs.Fitting.{FitSimple, Fit, fitting}
use Rattle.run_inputs.proofs.Rewording.{below_set}
use Rattle.run_state.specs.Run.{took, Execution, unless_stopped, run_on, events_at, run_arm, run_of, events_then}

-- ---- entries of a list

below_zeros : (n j m : ℕ) → 0 < m → entry (replicate n 0) j < m
below_zeros zero j m p = p
below_zeros (suc n) zero m p = p
below_zeros (suc n) (suc j) m p = below_zeros n j m p

-- ---- what a command computes

converted-below : (op : Conversion) (v w a : ℕ) → converts op v w ≡ true → a < 2 ^ w → converted op v w a < 2 ^ v
unfolding converted
converted-below Conversion.Copy v w a e p = lt_of_lt_of_le p (pow_mono {i = w} {j = v} (let z = eqb-true v w e in omega arith))
converted-below Conversion.Cut v w a e p = mod-lt a (pow_pos v)
converted-below Conversion.ZeroExtend v w a e p = lt_of_lt_of_le p (pow_mono {i = w} {j = v} (let z = ltb-true w v e in omega arith))
converted-below Conversion.SignExtend v w a e p = extend-below v w a

computed-below : (op : Operation) (w a b : ℕ) → computed op w a b < 2 ^ w
unfolding computed
computed-below Operation.Add w a b = add-below w a b
computed-below Operation.Subtract w a b = subtract-below w a b
computed-below Operation.Multiply w a b = multiply-below w a b
computed-below Operation.Quotient w a b = quotient-below w a b
computed-below Operation.Remainder w a b = remainder-below w a b

-- ---- the state

module _ (bs : List ℕ) (h : Header) where
  -- every variable holds a word of its width
  abbrev pub InWidths : State → Type 0
  InWidths s = (v : ℕ) → v < h.variables → value s v < 2 ^ width bs v

  put_in : (s : State) (d x : ℕ) → InWidths s → x < 2 ^ width bs d → InWidths (assigned s d x)
  put_in s d x p q v l = below_set s.values d v x (2 ^ width bs v) (λ e. subst (λ (u : ℕ). x < 2 ^ width bs u) e q) (p v l)

  arrive_in : (s next : State) (access : ℕ) (index : Whole) (l : Option Side) → InWidths s → InWidths next → InWidths (arrive s access index l next)
  arrive_in s next access index None p q = q
  arrive_in s next access index (Some side) p q = p

  module _ (ins : List ℕ) where
    carried_in : (c : Simple Conversion Operation) (k : Counts) (s : State) → Sound bs h c → FitSimple bs ins h c k → InWidths s → InWidths (executed bs ins h c k s)
    unfolding executed widths_fit
    carried_in (Simple.Set d c) k s x f p = put_in s d c p (set_fine bs h d c x).1
    carried_in (Simple.Convert op d a) k s x f p =
        put_in s d (converted op (width bs d) (width bs a) (value s a)) p
        (converted-below op (width bs d) (width bs a) (value s a) x.widths (p a (convert_fine bs h op d a x).1))
    carried_in (Simple.Compute op d a b) k s x f p =
        put_in s d (computed op (width bs d) (value s a) (value s b)) p (computed-below op (width bs d) (value s a) (value s b))
    carried_in (Simple.Read d array i) k s x f p =
        arrive_in s _ (accesses k) (index_of bs s i) (lies (array_size bs h array) (index_of bs s i)) p (put_in s d _ p f)
    carried_in (Simple.Write array i a) k s x f p = arrive_in s s (accesses k) (index_of bs s i) (lies (array_size bs h array) (index_of bs s i)) p p

    then_in : (x : Execution) (go : State → Execution) → InWidths x.state → ((s : State) → InWidths s → InWidths (go s).state) → InWidths (run_on x go).state
    then_in x go p f = pick x.state.stop
      where
        pick : (o : Option Stop) → InWidths (unless_stopped o x.events x.state go).state
        pick None = f x.state p
        pick (Some access) = p

    cond_in : (b : Bool) (x y : Execution) → InWidths x.state → InWidths y.state → InWidths (cond b x y).state
    cond_in true x y p q = p
    cond_in false x y p q = q

    arm_in : (a : Arm) (depth : ℕ) (close : Mark) (at : ℕ) (k : Counts) (end : ℕ) (k₁ : Counts) → Stands bs h depth close at k a end k₁
        → Fit bs ins h a → (s : State) → InWidths s → InWidths (run_arm bs ins h a s).state
    unfolding run_arm
    arm_in =
        induction bs h (λ depth close at k a end k₁. Fit bs ins h a → (s : State) → InWidths s → InWidths (run_arm bs ins h a s).state)
        (λ depth close at k mark e l f s p. p)
        (λ depth close at k c rest end k₁ v go f s p.
        then_in (record { events = events_at bs c k s; state = executed bs ins h c k s }) (run_arm bs ins h rest) (carried_in c k s v.sound f.0 p) (go f.1))
        (λ depth close at k c first second rest end k₁ v go₁ go₂ go₃ f s p.
        then_in
        (cond (holds bs c s)
        (events_then (took k.ifs 0 ∷ []) (run_arm bs ins h first (with_arm s k.ifs 0)))
        (events_then (took k.ifs 1 ∷ []) (run_arm bs ins h second (with_arm s k.ifs 1))))
        (run_arm bs ins h rest)
        (cond_in (holds bs c s)
        (events_then (took k.ifs 0 ∷ []) (run_arm bs ins h first (with_arm s k.ifs 0)))
        (events_then (took k.ifs 1 ∷ []) (run_arm bs ins h second (with_arm s k.ifs 1)))
        (go₁ f.0 (with_arm s k.ifs 0) p) (go₂ f.1 (with_arm s k.ifs 1) p))
        (go₃ f.2))

    -- the beginning, of which n words are laid
    over_in : (n v : ℕ) → ((u : ℕ) → u < n → entry ins u < 2 ^ width bs u) → entry (over n ins (replicate 32 0)) v < 2 ^ width bs v
    unfolding over
    over_in zero v f = below_zeros 32 v (2 ^ width bs v) (pow_pos (width bs v))
    over_in (suc n) v f =
        below_set (over n ins (replicate 32 0)) n v (entry ins n) (2 ^ width bs v)
        (λ e. subst (λ (u : ℕ). entry ins n < 2 ^ width bs u) e (f n (omega arith))) (over_in n v (λ u l. f u (omega arith)))

    -- the run of a routine on an accepted input list, to its end or its stop
    pub words : (a : Arm) (k : Counts) → decode bs ≡ routine h a k → listed bs ins h a k ≡ Ok tt → InWidths (run_of bs ins h a).state
    unfolding run_of initial
    words a k d l =
        let f = fitting bs ins h a k d l in
        arm_in a 0 Mark.End (first_command h) no_counts (length bs) k (decoded bs h a k d).stands f.reads (initial ins (given h))
        (λ v m. over_in (given h) v f.variables)
