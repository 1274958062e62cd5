-- Whether there is a claim to translate, from what the parts answered. Assumes nothing.
use mathlib.Core.Path.{◌≡◌, refl, sym, subst, ◌∙◌}
use mathlib.Core.List.{List, [], ◌∷◌}
use mathlib.Core.Bool.{Bool, true, false, cond}
use Prim.Native.Nat.{ℕ, suc, ◌+◌, ◌*◌, ◌<◌, ◌≤◌}
use native.Mathlib.Omega.{arith}
use lib.ListN.{length, get_or-eq_default}
use lib.Dec.{ltb, leb, eqb, lit<}
use borrow.Author.Tests.{ltb-true, ltb-false, leb-true, lt-leb, le-leb, eqb-true}
use Rattle.std.proofs.Common.{Result, Ok, Err, Some, None}
use Rattle.std.proofs.lemmas.List.Sums.{prefix_len-le-length}
use Rattle.std.specs.Prelude.{not, nat_lt, position}
use Rattle.std.specs.List.{position_or_len}
use Rattle.slices.specs.Bytes.{entry}
use Rattle.routine_header.specs.Header.{first_bad}
use Rattle.routine_header.specs.declared.Header.{Header}
use Rattle.routine_faults.specs.Step.{accesses}
use Rattle.routine_faults.specs.declared.Counts.{Counts}
use Rattle.routine_faults.proofs.Fine.{all_ok}
use Rattle.routine.specs.Routine.{Arm}
use Rattle.routine.specs.Decode.{Decoded, rejected, routine, decode, checked, IsRoutine}
use Rattle.routine.specs.declared.Accepted.{Accepted}
use Rattle.routine.specs.declared.Refusal as declared
use Rattle.routine.proofs.Decoded.{accepted, refused_by_lem}
use Rattle.lead.specs.Lead.{ClaimAdmission, refused, translates, first_odd, admitted_lead, by_lead, claim_by_routine, claim_admission}
use Rattle.lead.specs.Inner.Admitted.{claim_without_tree, claim_admitted}
use Rattle.lead.specs.declared.Refusal.{Refusal}
use Rattle.lead.specs.declared.Target.{Target}

-- ---- the decisions

module _ (ds : List ℕ) where
  -- decision i is 0, 1 or 2
  abbrev pub is_decision : ℕ → Bool
  is_decision i = leb (entry ds i) 2

  -- the first of n decisions from number i on that is above 2, or the number after them
  abbrev pub odd_from : (n i : ℕ) → ℕ
  odd_from n i = first_bad is_decision 1 n i

  -- the number of the first that is above 2, as the list goes on from number i
  odd_place : (ws : List ℕ) (i : ℕ) → ((j : ℕ) → entry ds (i + j) ≡ entry ws j)
      → odd_from (length ws) i ≡ i + position_or_len (λ d. nat_lt 2 d) ws
  unfolding first_bad
  odd_place [] i f = omega arith
  odd_place (w ∷ ws) i f =
      let e : i + 0 ≡ i = omega arith in
      let z : entry ds i ≡ w = rw e at (f 0) in
      rw z (pick (ltb 2 w) refl (odd_place ws (i + 1) after))
    where
      after : (j : ℕ) → entry ds (i + 1 + j) ≡ entry ws j
      after j = let e : i + 1 + j ≡ i + suc j = omega arith in rw e (f (suc j))

      pick : (b : Bool) → ltb 2 w ≡ b → odd_from (length ws) (i + 1) ≡ i + 1 + position_or_len (λ d. nat_lt 2 d) ws
          → cond (leb w 2) (odd_from (length ws) (i + 1)) i ≡ i + cond (not b) (1 + position_or_len (λ d. nat_lt 2 d) ws) 0
      pick true e g = rw (lt-leb w 2 (ltb-true 2 w e)) (omega arith)
      pick false e g = rw (le-leb w 2 (ltb-false 2 w e)) (omega (arith, g))

  first_place : first_odd ds ≡ position_or_len (λ d. nat_lt 2 d) ds
  unfolding first_odd
  first_place = let p = odd_place ds 0 same in omega arith
    where
      same : (j : ℕ) → entry ds (0 + j) ≡ entry ds j
      same j = let e : 0 + j ≡ j = omega arith in rw e

  -- where there is a decision above 2
  pub odd_at : (i : ℕ) → Some i ≡ position (λ d. nat_lt 2 d) ds → (first_odd ds ≡ i) × (i < length ds)
  odd_at i e = let q = go _ _ (ltb (position_or_len (λ d. nat_lt 2 d) ds) (length ds)) refl e in (first_place ∙ q.0, q.1)
    where
      go : (p n : ℕ) (b : Bool) → ltb p n ≡ b → Some i ≡ cond b (Some p) None → (p ≡ i) × (i < n)
      go p n true l q = let z : p ≡ i = cc in (z, rw (← z) (ltb-true p n l))
      go p n false l q = let z : ◌≡◌ {A = ℕ} 0 1 = cc in absurd (omega arith)

  -- where there is none
  pub none_odd : None ≡ position (λ d. nat_lt 2 d) ds → first_odd ds ≡ length ds
  none_odd e = let l = go _ _ (ltb (position_or_len (λ d. nat_lt 2 d) ds) (length ds)) refl e in omega (arith, first_place, prefix_len-le-length (λ d. not (nat_lt 2 d)) ds)
    where
      go : (p n : ℕ) (b : Bool) → ltb p n ≡ b → None ≡ cond b (Some p) None → n ≤ p
      go p n true l q = let z : ◌≡◌ {A = ℕ} 0 1 = cc in absurd (omega arith)
      go p n false l q = ltb-false p n l

  -- no decision is above 2; past the last one stands 0
  decisions_fine : first_odd ds ≡ length ds → (n : ℕ) → entry ds n ≤ 2
  unfolding first_odd
  decisions_fine e n = pick (ltb n (length ds)) refl
    where
      pick : (b : Bool) → ltb n (length ds) ≡ b → entry ds n ≤ 2
      pick true l =
          let z : 0 + 1 * n ≡ n = omega arith in
          leb-true (entry ds n) 2 (rw z at (all_ok is_decision 1 (lit< tt) (length ds) 0 (e ∙ omega arith) n (ltb-true n (length ds) l)))
      pick false l = let z : entry ds n ≡ 0 = get_or-eq_default ds 0 (ltb-false n (length ds) l) in omega arith

-- what 11 and 12 let through
pub record InRange (t : Target) (ds : List ℕ) (k : Counts) : Type 0 where
  pub counted : length ds ≡ k.ifs
  pub access : t.access < accesses k
  pub side : t.side ≤ 1
  pub decisions : (n : ℕ) → entry ds n ≤ 2

passed : (b : Bool) (refusal : Refusal) (x : Result (Unit {0}) Refusal) → cond b x (Err refusal) ≡ Ok tt → (b ≡ true) × (x ≡ Ok tt)
passed true refusal x e = (refl, e)
passed false refusal x e = let z : ◌≡◌ {A = ℕ} 0 1 = cc in absurd (omega arith)

pub lead_range : (t : Target) (ds : List ℕ) (k : Counts) → admitted_lead t ds k ≡ Ok tt → InRange t ds k
unfolding admitted_lead
lead_range t ds k e =
    let p = passed (eqb (length ds) k.ifs) _ _ e in
    let q = passed (ltb t.access (accesses k)) _ _ p.1 in
    let s = passed (leb t.side 1) _ _ q.1 in
    let u = passed (eqb (first_odd ds) (length ds)) _ _ s.1 in
    record {
      counted = eqb-true _ _ p.0;
      access = ltb-true _ _ q.0;
      side = leb-true _ _ s.0;
      decisions = decisions_fine ds (eqb-true _ _ u.0);
    }

-- ---- what `admit` answers

module _ (bs : List ℕ) (t : Target) (ds : List ℕ) where
  pub no_routine : (refusal : declared.Refusal) → checked bs ≡ Err refusal → Err (Refusal.Routine refusal) ≡ claim_admitted bs t ds
  unfolding claim_admitted claim_admission
  no_routine refusal e = rw (refused_by_lem bs refusal (checked bs) refl e)

  module _ (a : Accepted) (e : checked bs ≡ Ok a) where
    pub lead_refused : (refusal : Refusal) → Err refusal ≡ admitted_lead t ds a.counts → Err refusal ≡ claim_admitted bs t ds
    unfolding claim_admitted claim_admission
    lead_refused refusal by = rw ((accepted bs a.header a.counts (checked bs) refl e).decodes, ← by) refl

    pub lead_passes : Ok tt ≡ admitted_lead t ds a.counts → Ok a.header ≡ claim_admitted bs t ds
    unfolding claim_admitted claim_admission
    lead_passes by = rw ((accepted bs a.header a.counts (checked bs) refl e).decodes, ← by) refl

-- ---- what an admitted claim has

-- the tree
pub record Admits (bs : List ℕ) (t : Target) (ds : List ℕ) (h : Header) : Type 0 where
  pub commands : Arm
  pub counts : Counts
  pub decodes : decode bs ≡ routine h commands counts
  pub admits : claim_admission bs t ds ≡ translates h commands counts

module _ (bs : List ℕ) (t : Target) (ds : List ℕ) where
  -- an admission is of the routine that the bytes are, and 11 and 12 let the lead through
  abbrev Of : ClaimAdmission → Type 0
  Of (refused refusal) = Unit {0}
  Of (translates h a k) = (decode bs ≡ routine h a k) × (admitted_lead t ds k ≡ Ok tt)

  of_lead : (h : Header) (a : Arm) (k : Counts) → decode bs ≡ routine h a k → (x : Result (Unit {0}) Refusal) → admitted_lead t ds k ≡ x → Of (by_lead h a k x)
  of_lead h a k d (Err refusal) e = tt
  of_lead h a k d (Ok p) e = (d, e)

  of_routine : (d : Decoded) → decode bs ≡ d → Of (claim_by_routine t ds d)
  of_routine (rejected refusal) e = tt
  of_routine (routine h a k) e = of_lead h a k e (admitted_lead t ds k) refl

  of_admission : Of (claim_admission bs t ds)
  unfolding claim_admission
  of_admission = of_routine (decode bs) refl

  -- the routine of an admitted claim, and its range
  pub admitted_range : (h : Header) (a : Arm) (k : Counts) → claim_admission bs t ds ≡ translates h a k → (decode bs ≡ routine h a k) × InRange t ds k
  admitted_range h a k e = let o = subst Of e of_admission in (o.0, lead_range t ds k o.1)

  -- a claim on a routine is admitted where 11 and 12 let its lead through
  pub admission_by : (h : Header) (a : Arm) (k : Counts) → decode bs ≡ routine h a k → admitted_lead t ds k ≡ Ok tt → claim_admission bs t ds ≡ translates h a k
  unfolding claim_admission
  admission_by h a k d e = rw (d, e) refl

  admits_by : (h : Header) (x : ClaimAdmission) → claim_admission bs t ds ≡ x → Of x → claim_without_tree x ≡ Ok h → Admits bs t ds h
  admits_by h (refused refusal) e o q = let z : ◌≡◌ {A = ℕ} 0 1 = cc in absurd (omega arith)
  admits_by h (translates h₁ a k) e o q =
      let x : h₁ ≡ h = cc in
      rw (← x) (record { commands = a; counts = k; decodes = o.0; admits = e })

  pub admits : (r : Result Header Refusal) → r ≡ claim_admitted bs t ds → (h : Header) → r ≡ Ok h → Admits bs t ds h
  unfolding claim_admitted
  admits r is h e = admits_by h (claim_admission bs t ds) refl of_admission (sym is ∙ e)

  pub is_routine_by : (r : Result Header Refusal) → r ≡ claim_admitted bs t ds → (h : Header) → r ≡ Ok h → IsRoutine bs h
  is_routine_by r is h e =
      let x = admits r is h e in
      record { commands = x.commands; counts = x.counts; decodes = x.decodes }

  pub refused_with : (r : Result Header Refusal) → r ≡ claim_admitted bs t ds → (refusal : Refusal) → r ≡ Err refusal → claim_admission bs t ds ≡ refused refusal
  unfolding claim_admitted
  refused_with r is refusal e = go (claim_admission bs t ds) (sym is ∙ e)
    where
      go : (x : ClaimAdmission) → claim_without_tree x ≡ Err refusal → x ≡ refused refusal
      go (refused refusal₁) q = cc
      go (translates h a k) q = let z : ◌≡◌ {A = ℕ} 0 1 = cc in absurd (omega arith)
