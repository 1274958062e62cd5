-- A command that is turned down leaves everything as it was, and one that is gone on from leaves what is known. Assumes nothing.
use Rattle.std.proofs.Common.{◌≡◌, ℕ, zero, suc, ◌+◌, ◌<◌, ◌≤◌, Bool, true, false, ltb, List, length, sym, refl, ◌∙◌, inl, inr, arith, ltb-false, ltb-true, Result, Ok, Err}
use lib.Dec.{eqb-suc-zero}
use Rattle.cnf.specs.Clause.{flatten}
use Rattle.proof_propagation.specs.Inner.Standing.{stored_of}
use Rattle.proof_propagation.proofs.Cases.{both}
use Rattle.proof_reader.proofs.Running.{run_length}
use Rattle.proof_check.specs.Phase.{going, in_literals, conflicted, phase_after}
use Rattle.proof_check.specs.State.{Next, more, stop}
use Rattle.proof_check.specs.Inner.Held.{literals_of, state_of, Ready, Onward, Parted, Did}
use Rattle.proof_check.specs.declared.Phase.{Phase}
use Rattle.proof_check.specs.declared.Progress.{Progress}
use Rattle.proof_check.specs.declared.Refusal.{Refusal}
use Rattle.proof_check.specs.declared.Turn.{Turn}

module _ (w s m t r : List ℕ) (p : Progress) (n : Next) where
  pub stopped : (v : Refusal) → n ≡ stop (Err v) → Did w s m t r p s m t (Err v) n
  stopped v e = record { same = sym e; kept = (refl, refl, refl) }

  pub went : (x : Result Turn Refusal) (s' m' t' : List ℕ) (q : Progress) → x ≡ Ok (Turn.More q) → more (state_of w s' m' r q) ≡ n → Ready w s' m' t' r q → p.at < q.at → Onward s s' p q → Did w s m t r p s' m' t' x n
  went x s' m' t' q e same ready far on = rw e (record { same = same; kept = (ready, far, on) })

-- where nothing was written, and one after the other
pub onward-same : (s : List ℕ) (p q : Progress) → q.given ≡ p.given → q.count ≡ p.count → p.begin ≤ q.begin → Onward s s p q
onward-same s p q g m b = record { given = g; more = omega arith; begun = b; before = λ i h. refl; between = λ i h k. absurd (omega arith); after = λ i h. refl }

pub onward-more : (s s' s'' : List ℕ) (p q n : Progress) → Onward s s' p q → Onward s' s'' q n → Onward s s'' p n
onward-more s s' s'' p q n a b =
    record {
      given = b.given ∙ a.given;
      more = omega (arith, a.more, b.more);
      begun = omega (arith, a.begun, b.begun);
      before = λ i h. b.before i (omega (arith, a.more)) ∙ a.before i h;
      between = λ i h k. elim (both (ltb i q.count)) [
        | inl e ↦ let l = ltb-true i q.count e in omega (arith, b.before i l, a.between i h l)
        | inr e ↦ omega (arith, a.begun, b.between i (ltb-false i q.count e) k)
      ];
      after = λ i h. b.after i h ∙ a.after i (omega (arith, b.more));
    }

-- the two parts of a proof stay where they are
pub parted_onward : (a s s' : List ℕ) (p q : Progress) → Parted a s p → Onward s s' p q → Parted a s' q
parted_onward a s s' p q z o =
    record {
      begun = omega (arith, z.begun, o.begun);
      each = λ i h g k. elim (both (ltb i p.count)) [
        | inl e ↦ let l = ltb-true i p.count e in let n = o.before i l in
            rw n (z.each i l (omega (arith, o.given)) (omega (arith, n)))
        | inr e ↦ absurd (omega (arith, o.between i (ltb-false i p.count e) h, z.begun))
      ];
    }

-- what the store and the step take
pub taken : (w s m t r : List ℕ) (p : Progress) → Ready w s m t r p → length (flatten (stored_of w s r p.given p.count)) + 1 + length (literals_of r p) ≡ p.used + 1 + p.literals
taken w s m t r p z = omega (arith, run_length r p.begin p.literals, z.store.sized)

-- only the empty clause ends the going on
goes_by : (p : Phase → Bool) → p Phase.Empty ≡ false → (f : Phase) → p f ≡ true → going f ≡ true
goes_by p q Phase.Literals e = refl
goes_by p q Phase.Hints e = refl
goes_by p q Phase.Conflict e = refl
goes_by p q Phase.Empty e = sym q ∙ e

pub literals_go : (f : Phase) → in_literals f ≡ true → going f ≡ true
literals_go = goes_by in_literals refl

pub conflict_goes : (f : Phase) → conflicted f ≡ true → going f ≡ true
conflict_goes = goes_by conflicted refl

-- the conflict comes after the literals
pub conflict_past : (f : Phase) → conflicted f ≡ true → in_literals f ≡ false
conflict_past Phase.Literals e = sym e
conflict_past Phase.Hints e = refl
conflict_past Phase.Conflict e = refl
conflict_past Phase.Empty e = refl

-- a step begins without a conflict, and among its literals where there is one
pub phase_open : (n : ℕ) → conflicted (phase_after n) ≡ false
phase_open zero = refl
phase_open (suc n) = rw (eqb-suc-zero n)

pub phase-goes-on : (n : ℕ) → going (phase_after n) ≡ in_literals (phase_after n)
phase-goes-on zero = refl
phase-goes-on (suc n) = rw (eqb-suc-zero n) refl
