-- Marks that agree with an assignment, and what clauses say under them. Assumes nothing.
use Rattle.std.proofs.Common.{◌≡◌, ℕ, zero, suc, ◌+◌, ◌-◌, ◌/◌, ◌%◌, ◌<◌, Bool, true, false, not, ◌&&◌, ◌||◌, eqb, ltb, ◌⊎◌, List, [], ◌∷◌, ◌++◌, length, get_or, set, replicate, sym, refl, ap, ◌∙◌, inl, inr, ⊎_elim, true≢false, arith, get_or-set_other, get_or-set_same, ltb-false, ltb-true, eqb-true}
use lib.Seq.{set_out}
use borrow.Author.Tests.{eqb-false, not-true, not-false}
use Rattle.cnf.specs.Clause.{Clause}
use Rattle.proof_propagation.specs.Marks.{variable_of, true_mark, false_mark, mark_of, is_false, undecided}
use Rattle.proof_propagation.specs.Hint.{not_false, all_same, of_left, hint_of}
use Rattle.proof_propagation.specs.declared.Hint.{Hint}
use Rattle.proof_propagation.proofs.Cases.{both, and_true_l, and_true_r}
use Rattle.cnf.specs.Meaning.{Assign, lit, sat_clause, sat}
use Rattle.slices.proofs.Zeroing.{get_d_zeros}

or_false_l : (a b : Bool) → (a || b) ≡ false → a ≡ false
or_false_l true b e = e
or_false_l false b e = refl

or_false_r : (a b : Bool) → (a || b) ≡ false → b ≡ false
or_false_r true b e = absurd (true≢false e)
or_false_r false b e = e

-- marks agree with an assignment
unfoldable pub Agree : List ℕ → Assign → Type 0
Agree m σ = (v : ℕ) → (get_or m v 0 ≡ 1 → σ v ≡ true) × (get_or m v 0 ≡ 2 → σ v ≡ false)

parity : (l : ℕ) → (l % 2 ≡ 0) ⊎ (l % 2 ≡ 1)
parity l = elim (both (eqb (l % 2) 0)) [ inl e ↦ inl (eqb-true (l % 2) 0 e) | inr e ↦ inr (let h = eqb-false (l % 2) 0 e in omega arith) ]

holds_even : (σ : Assign) (l : ℕ) → l % 2 ≡ 0 → lit σ l ≡ σ (l / 2)
unfolding lit
holds_even σ l e = rw e

holds_odd : (σ : Assign) (l : ℕ) → l % 2 ≡ 1 → lit σ l ≡ not (σ (l / 2))
unfolding lit
holds_odd σ l e = rw e

-- a literal that the marks make false is false
false_agrees : (m : List ℕ) (σ : Assign) (l : ℕ) → Agree m σ → is_false m l ≡ true → lit σ l ≡ false
unfolding Agree
false_agrees m σ l a e =
    ⊎_elim
    (λ p. holds_even σ l p ∙ (a (l / 2)).1 (let q = eqb-true (mark_of m l) (false_mark l) e in omega arith))
    (λ p. holds_odd σ l p ∙ ap not ((a (l / 2)).0 (let q = eqb-true (mark_of m l) (false_mark l) e in omega arith)))
    (parity l)

-- what stands at w after a store at v
at_set : (m : List ℕ) (v w x : ℕ) → ((v ≡ w) × (get_or (set m v x) w 0 ≡ x)) ⊎ (get_or (set m v x) w 0 ≡ get_or m w 0)
at_set m v w x =
    elim (both (eqb w v)) [
      | inl e ↦ elim (both (ltb v (length m))) [
        | inl h ↦ inl (sym (eqb-true w v e), ap (λ (k : ℕ). get_or (set m v x) k 0) (eqb-true w v e) ∙ get_or-set_same m v x 0 (ltb-true v (length m) h))
        | inr h ↦ inr (ap (λ (k : List ℕ). get_or k w 0) (set_out m v x (ltb-false v (length m) h)))
      ]
      | inr e ↦ inr (get_or-set_other m v w x 0 (eqb-false w v e))
    ]

agree_set : (m : List ℕ) (σ : Assign) (v x : ℕ) → Agree m σ → (x ≡ 1 → σ v ≡ true) → (x ≡ 2 → σ v ≡ false) → Agree (set m v x) σ
unfolding Agree
agree_set m σ v x a t f w =
    elim (at_set m v w x) [
      | inl h ↦ (λ e. ap σ (sym h.0) ∙ t (sym h.1 ∙ e), λ e. ap σ (sym h.0) ∙ f (sym h.1 ∙ e))
      | inr h ↦ (λ e. (a w).0 (sym h ∙ e), λ e. (a w).1 (sym h ∙ e))
    ]

pub agree_true : (m : List ℕ) (σ : Assign) (l : ℕ) → Agree m σ → lit σ l ≡ true → Agree (set m (variable_of l) (true_mark l)) σ
agree_true m σ l a h =
    ⊎_elim
    (λ p. agree_set m σ (l / 2) (1 + l % 2) a (λ e. sym (holds_even σ l p) ∙ h) (λ e. absurd (omega arith)))
    (λ p. agree_set m σ (l / 2) (1 + l % 2) a (λ e. absurd (omega arith)) (λ e. not-true (σ (l / 2)) (sym (holds_odd σ l p) ∙ h)))
    (parity l)

pub agree_false : (m : List ℕ) (σ : Assign) (l : ℕ) → Agree m σ → lit σ l ≡ false → Agree (set m (variable_of l) (false_mark l)) σ
agree_false m σ l a h =
    ⊎_elim
    (λ p. agree_set m σ (l / 2) (2 - l % 2) a (λ e. absurd (omega arith)) (λ e. sym (holds_even σ l p) ∙ h))
    (λ p. agree_set m σ (l / 2) (2 - l % 2) a (λ e. not-false (σ (l / 2)) (sym (holds_odd σ l p) ∙ h)) (λ e. absurd (omega arith)))
    (parity l)

pub agree_none : (n : ℕ) (σ : Assign) → Agree (replicate n 0) σ
unfolding Agree
agree_none n σ v = (λ e. absurd (omega (arith, get_d_zeros n v)), λ e. absurd (omega (arith, get_d_zeros n v)))

-- what is left of a clause holds where the clause does
left_holds : (m : List ℕ) (σ : Assign) (c : Clause) → Agree m σ → sat_clause σ (not_false m c) ≡ sat_clause σ c
unfolding sat_clause not_false
left_holds m σ [] a = refl
left_holds m σ (l ∷ c) a =
    elim (both (is_false m l)) [
      | inl e ↦ rw (e, false_agrees m σ l a e) (left_holds m σ c a)
      | inr e ↦ rw e (ap (λ (b : Bool). lit σ l || b) (left_holds m σ c a))
    ]

same_false : (σ : Assign) (l : ℕ) (ls : List ℕ) → all_same l ls ≡ true → lit σ l ≡ false → sat_clause σ ls ≡ false
unfolding sat_clause all_same
same_false σ l [] e h = refl
same_false σ l (k ∷ ks) e h =
    let q : k ≡ l = eqb-true k l (and_true_l (eqb k l) (all_same l ks) e) in
    rw (q, h) (same_false σ l ks (and_true_r (eqb k l) (all_same l ks) e) h)

-- of a clause that holds, with all its literals that are not false the same, that literal holds
same-holds : (σ : Assign) (l : ℕ) (ls : List ℕ) → all_same l ls ≡ true → sat_clause σ (l ∷ ls) ≡ true → lit σ l ≡ true
unfolding sat_clause
same-holds σ l ls e h =
    elim (both (lit σ l)) [
      | inl t ↦ t
      | inr f ↦ absurd (true≢false (sym h ∙ rw (f, same_false σ l ls e f)))
    ]

-- what a hint tells of an assignment that agrees and satisfies its clause
unfoldable pub Told : Assign → Hint → Type 0
Told σ Hint.Conflict = ⊥
Told σ (Hint.Unit l) = lit σ l ≡ true
Told σ Hint.Neither = Unit {0}

left_told : (m : List ℕ) (σ : Assign) (ls : List ℕ) → sat_clause σ ls ≡ true → Told σ (of_left m ls)
unfolding sat_clause of_left Told
left_told m σ [] h = true≢false (sym h)
left_told m σ (l ∷ ls) h =
    elim (both (all_same l ls && undecided m l)) [
      | inl e ↦ rw e (same-holds σ l ls (and_true_l (all_same l ls) (undecided m l) e) h)
      | inr e ↦ rw e tt
    ]

pub hint_told : (m : List ℕ) (σ : Assign) (c : Clause) → Agree m σ → sat_clause σ c ≡ true → Told σ (hint_of m c)
unfolding hint_of
hint_told m σ c a h = left_told m σ (not_false m c) (left_holds m σ c a ∙ h)

-- clauses by number, and one more
pub sat_at : (σ : Assign) (cs : List Clause) (i : ℕ) → sat σ cs ≡ true → i < length cs → sat_clause σ (get_or cs i []) ≡ true
unfolding sat
sat_at σ [] i e h = absurd (omega arith)
sat_at σ (c ∷ cs) zero e h = and_true_l (sat_clause σ c) (sat σ cs) e
sat_at σ (c ∷ cs) (suc i) e h = sat_at σ cs i (and_true_r (sat_clause σ c) (sat σ cs) e) (omega arith)

pub sat-more : (σ : Assign) (cs : List Clause) (d : Clause) → sat σ cs ≡ true → sat_clause σ d ≡ true → sat σ (cs ++ (d ∷ [])) ≡ true
unfolding sat
sat-more σ [] d e h = rw h
sat-more σ (c ∷ cs) d e h =
    rw (and_true_l (sat_clause σ c) (sat σ cs) e, sat-more σ cs d (and_true_r (sat_clause σ c) (sat σ cs) e) h)

pub holds_snoc_l : (σ : Assign) (c : Clause) (l : ℕ) → sat_clause σ (c ++ (l ∷ [])) ≡ false → sat_clause σ c ≡ false
unfolding sat_clause
holds_snoc_l σ [] l e = refl
holds_snoc_l σ (k ∷ c) l e =
    rw (or_false_l (lit σ k) (sat_clause σ (c ++ (l ∷ []))) e)
    (holds_snoc_l σ c l (or_false_r (lit σ k) (sat_clause σ (c ++ (l ∷ []))) e))

pub holds_snoc_r : (σ : Assign) (c : Clause) (l : ℕ) → sat_clause σ (c ++ (l ∷ [])) ≡ false → lit σ l ≡ false
unfolding sat_clause
holds_snoc_r σ [] l e = or_false_l (lit σ l) false e
holds_snoc_r σ (k ∷ c) l e = holds_snoc_r σ c l (or_false_r (lit σ k) (sat_clause σ (c ++ (l ∷ []))) e)
