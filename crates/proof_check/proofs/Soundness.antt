-- Soundness: where `check_proof` accepts, no assignment satisfies the clauses that it began with. Assumes nothing.
use Rattle.std.proofs.Common.{◌≡◌, ℕ, zero, suc, ◌+◌, ◌-◌, true, false, List, [], ◌∷◌, length, get_or, sym, refl, ◌∙◌, subst, inl, inr, true≢false, ltb-true, Result, Ok, Err}
use lib.Dec.{eqb-suc-zero}
use borrow.Author.Tests.{not-true}
use Rattle.cnf.specs.Clause.{Clause}
use Rattle.proof_propagation.specs.Hint.{hint_of}
use Rattle.proof_propagation.specs.declared.Hint.{Hint}
use Rattle.proof_propagation.proofs.Cases.{both}
use Rattle.proof_reader.specs.Command.{command_at}
use Rattle.proof_check.specs.Phase.{going, conflicted, phase_after}
use Rattle.proof_check.specs.State.{State, Limits, Next, more, stop, begin}
use Rattle.proof_check.specs.Check.{on_literal, after_hint, on_hint, on_close, on_end, obey, step, Outcome, follow, run, finish, check_proof}
use Rattle.cnf.specs.Meaning.{Assign, sat_clause, sat}
use Rattle.proof_check.specs.Sound.{Refutes}
use Rattle.proof_reader.specs.declared.Command.{Command}
use Rattle.proof_check.specs.declared.Refusal.{Refusal}
use Rattle.proof_check.specs.declared.Tally.{Tally}
use Rattle.proof_check.proofs.Stopping.{phase_open}
use Rattle.proof_check.proofs.Unless.{unless_in}
use Rattle.proof_check.proofs.Truth.{Agree, agree_true, agree_false, agree_none, Told, hint_told, sat_at, sat-more, holds_snoc_l, holds_snoc_r}

-- what holds of a state of the check, for an assignment that satisfies the clauses
record Good (σ : Assign) (s : State) : Type 0 where
  sat : sat σ s.clauses ≡ true
  agree : sat_clause σ s.literals ≡ false → Agree s.marks σ
  shown : conflicted s.phase ≡ true → sat_clause σ s.literals ≡ true
  goes : going s.phase ≡ true

NotAccepted : Result Tally Refusal → Type 0
NotAccepted (Ok tally) = ⊥
NotAccepted (Err refusal) = Prim.Unit {0}

Fine : Assign → Next → Type 0
unfolding NotAccepted
Fine σ (more t) = Good σ t
Fine σ (stop v) = NotAccepted v

fine_refused : (σ : Assign) (v : Refusal) → Fine σ (stop (Err v))
unfolding Fine NotAccepted
fine_refused σ v = tt

fine_more : (σ : Assign) (t : State) → Good σ t → Fine σ (more t)
unfolding Fine
fine_more σ t g = g

-- a clause that holds is not empty
phase-goes : (σ : Assign) (c : Clause) → sat_clause σ c ≡ true → going (phase_after (length c)) ≡ true
unfolding sat_clause
phase-goes σ [] h = absurd (true≢false (sym h))
phase-goes σ (l ∷ c) h = rw (eqb-suc-zero (length c))

module _ (σ : Assign) (L : Limits) (r : List ℕ) (s : State) (g : Good σ s) where
  literal_fine : (l : ℕ) → Fine σ (on_literal L s l)
  unfolding on_literal
  literal_fine l =
      unless_in (Fine σ) (fine_refused σ) _ _ _ (λ _.
      unless_in (Fine σ) (fine_refused σ) _ _ _ (λ _.
      unless_in (Fine σ) (fine_refused σ) _ _ _ (λ _.
      unless_in (Fine σ) (fine_refused σ) _ _ _ (λ _.
      unless_in (Fine σ) (fine_refused σ) _ _ _ (λ _.
      fine_more σ _
      (record {
        sat = g.sat;
        agree = λ e. agree_false s.marks σ l (g.agree (holds_snoc_l σ s.literals l e)) (holds_snoc_r σ s.literals l e);
        shown = λ e. absurd (true≢false (sym e));
        goes = refl;
      }))))))

  after_fine : (k : Hint) → (sat_clause σ s.literals ≡ false → Told σ k) → Fine σ (after_hint L s k)
  unfolding after_hint Told
  after_fine Hint.Conflict t =
      fine_more σ _
      (record {
        sat = g.sat;
        agree = λ e. absurd (t e);
        shown = λ _. elim (both (sat_clause σ s.literals)) [ inl e ↦ e | inr e ↦ absurd (t e) ];
        goes = refl;
      })
  after_fine (Hint.Unit l) t =
      fine_more σ _
      (record {
        sat = g.sat;
        agree = λ e. agree_true s.marks σ l (g.agree e) (t e);
        shown = λ e. absurd (true≢false (sym e));
        goes = refl;
      })
  after_fine Hint.Neither t = fine_refused σ _

  hint_fine : (h : ℕ) → Fine σ (on_hint L s h)
  unfolding on_hint
  hint_fine h =
      unless_in (Fine σ) (fine_refused σ) _ _ _ (λ _.
      unless_in (Fine σ) (fine_refused σ) _ _ _ (λ e.
      unless_in (Fine σ) (fine_refused σ) _ _ _ (λ _.
      after_fine (hint_of s.marks (get_or s.clauses h []))
      (λ f. hint_told s.marks σ (get_or s.clauses h []) (g.agree f) (sat_at σ s.clauses h g.sat (ltb-true h (length s.clauses) e))))))

  close_fine : Fine σ (on_close L s)
  unfolding on_close
  close_fine =
      unless_in (Fine σ) (fine_refused σ) _ _ _ (λ _.
      unless_in (Fine σ) (fine_refused σ) _ _ _ (λ p.
      unless_in (Fine σ) (fine_refused σ) _ _ _ (λ _.
      unless_in (Fine σ) (fine_refused σ) _ _ _ (λ _.
      let h : sat_clause σ s.literals ≡ true = g.shown p in
      fine_more σ _
      (record {
        sat = sat-more σ s.clauses s.literals g.sat h;
        agree = λ _. agree_none (L.variables + 1) σ;
        shown = λ e. absurd (true≢false (sym e ∙ phase_open (length s.literals)));
        goes = phase-goes σ s.literals h;
      })))))

  end_fine : Fine σ (on_end L r s)
  unfolding on_end
  end_fine =
      unless_in (Fine σ) (fine_refused σ) _ _ _ (λ p. absurd (true≢false (sym g.goes ∙ not-true (going s.phase) p)))

  obey_fine : (k : Command) → Fine σ (obey L r s k)
  unfolding obey
  obey_fine (Command.Literal l) = literal_fine l
  obey_fine (Command.Hint h) = hint_fine h
  obey_fine Command.Close = close_fine
  obey_fine Command.End = end_fine
  obey_fine Command.Unreadable = fine_refused σ _

  step_fine : Fine σ (step L r s)
  unfolding step
  step_fine = obey_fine (command_at r s.at)

follow_fine : (σ : Assign) (rest : State → Outcome) (s : State) (n : Next) → Fine σ n → ((t : State) → Good σ t → NotAccepted (rest t).verdict) → NotAccepted (follow rest s n).verdict
unfolding Fine
follow_fine σ rest s (more t) f k = k t f
follow_fine σ rest s (stop v) f k = f

run_fine : (n : ℕ) (σ : Assign) (L : Limits) (r : List ℕ) (s : State) → Good σ s → NotAccepted (run n L r s).verdict
unfolding run NotAccepted
run_fine zero σ L r s g = tt
run_fine (suc n) σ L r s g =
    follow_fine σ (λ t. run n L r t) s (step L r s) (step_fine σ L r s g) (λ t h. run_fine n σ L r t h)

-- THE THEOREM: where the check accepts, no assignment satisfies the clauses that it began with
pub sound : (cs : List Clause) (L : Limits) (r : List ℕ) (from : ℕ) → Refutes cs (check_proof cs L r from).verdict
unfolding check_proof finish
sound cs L r from = record {
  none = λ tally e σ. elim (both (sat σ cs)) [
    | inr f ↦ f
    | inl t ↦ absurd (unfold NotAccepted in
        subst NotAccepted e (run_fine (suc (length r - from)) σ L r (begin L cs from)
        (record { sat = t; agree = λ _. agree_none (L.variables + 1) σ; shown = λ q. absurd (true≢false (sym q)); goes = refl })))
  ];
}
