-- Demand 3: what an accepted report says of every run. Assumes nothing.
use Rattle.std.specs.Prelude.{Some, Result, Ok, Err}
use mathlib.Core.Path.{◌≡◌, refl, sym, ap, subst, ◌∙◌}
use mathlib.Core.List.{List, ◌++◌}
use mathlib.Core.Bool.{Bool, true, false, cond, not, ◌&&◌, ◌||◌}
use Prim.Native.Nat.{ℕ, ◌+◌}
use native.Mathlib.Omega.{arith}
use lib.Dec.{leb}
use Rattle.bitvec.specs.declared.Whole.{Whole}
use Rattle.routine_header.specs.Header.{array_size}
use Rattle.routine_header.specs.declared.Header.{Header}
use Rattle.routine_faults.specs.declared.Counts.{Counts}
use Rattle.routine.specs.Routine.{Arm}
use Rattle.routine.specs.Access.{ifs_before}
use Rattle.routine.specs.Decode.{Decoded, rejected, routine, decode}
use Rattle.run_state.specs.Side.{is_on}
use Rattle.run_state.specs.State.{lies}
use Rattle.run_state.specs.declared.Landing.{Landing}
use Rattle.run_state.proofs.Sides.{on-side}
use Rattle.run_inputs.specs.Inputs.{listed}
use Rattle.run_state.specs.Run.{run_of}
use Rattle.run_inputs.proofs.Counted.{counted}
use Rattle.run_state.proofs.Outside.{Ends, ends_at, ends}
use Rattle.run_state.specs.Goes.{goes_way, Comes}
use Rattle.run_state.proofs.Arriving.{arrival}
use Rattle.cnf.specs.Clause.{Clause}
use Rattle.cnf.specs.Meaning.{Assign, lit, sat_clause, sat}
use Rattle.netlist.specs.Node.{netlist_clauses}
use Rattle.netlist.proofs.Literals.{lit-opp}
use Rattle.netlist.proofs.Truth.{sat_append}
use Rattle.lead.specs.Lead.{translates, claim_admission}
use Rattle.lead.specs.declared.Target.{Target}
use Rattle.lead.proofs.Leads.{admitted_range, admission_by}
use Rattle.translation_meaning.specs.Faithful.{Faithful, Demand2}
use Rattle.translation_meaning.specs.Translation.{translation_of, last_clauses, clauses_of_all, translation_size}
use Rattle.translation_meaning.proofs.Demand as translation
use Rattle.proof_check.specs.Check.{check_proof}
use Rattle.proof_check.specs.State.{Limits}
use Rattle.proof_check.specs.Sound.{Refutes}
use Rattle.proof_check.proofs.Soundness.{sound}
use Rattle.proof_check.specs.declared.Tally.{Tally}
use Rattle.proof_check.specs.declared.Refusal as proof
use Rattle.translation_command.specs.Command.{Encoding}
use Rattle.report_witness.specs.Lead.{proof_at, lead_in, decisions_of, inputs_of, opened}
use Rattle.report_witness.specs.Witness.{witness_of}
use Rattle.report_witness.specs.declared.Lead.{Lead}
use Rattle.report_witness.specs.declared.Refusal as turned
use Rattle.report_witness.proofs.Reading.{inputs_counted, Lets, lets}
use Rattle.report_witness.proofs.Standing.{Stood, stood}
use Rattle.report_judgement.specs.Proof.{Room, by_verdict, limits_in, proved_by}
use Rattle.report_judgement.specs.declared.Refusal.{Refusal}
use Rattle.report_judgement.specs.Demand.{StopsOutside, Overflows, Found, Demand3}
use Rattle.report_judgement.specs.Judging.{finding, by_proof, by_witness, by_opened, by_routine, judgement}
use Rattle.report_judgement.specs.declared.Finding.{Finding}

-- ---- clauses that nothing satisfies

module _ (ρ : Assign) (arrival side : ℕ) where
  -- where the other clauses hold and the arrival literal is true, the last clause is to blame: the side literal is true
  side_true : (cs : List Clause) → sat ρ (cs ++ last_clauses (Some (record { arrival = arrival; side = side }))) ≡ false → sat ρ cs ≡ true → lit ρ arrival ≡ true → lit ρ side ≡ true
  unfolding sat sat_clause
  side_true cs e all come =
      pick (lit ρ side) refl (rw (all, come, lit-opp ρ side) at (sym (sat_append ρ cs (last_clauses (Some (record { arrival = arrival; side = side })))) ∙ e))
    where
      pick : (b : Bool) → lit ρ side ≡ b → (not (lit ρ side) || false) && true ≡ false → lit ρ side ≡ true
      pick true q z = q
      pick false q z = let y : true ≡ false = rw q at z in let x : ◌≡◌ {A = ℕ} 0 1 = cc in absurd (omega arith)

-- ---- a proof that was accepted

module _ (tally : Tally) where
  past : (b : Bool) (x : Result Tally Refusal) (refusal : Refusal) → cond b x (Err refusal) ≡ Ok tally → x ≡ Ok tally
  past true x refusal e = e
  past false x refusal e = let z : ◌≡◌ {A = ℕ} 0 1 = cc in absurd (omega arith)

  by_verdict_lem : (v : Result Tally proof.Refusal) → by_verdict v ≡ Ok tally → v ≡ Ok tally
  by_verdict_lem (Ok closed) e = let p : closed ≡ tally = cc in ap Ok p
  by_verdict_lem (Err refusal) e = let z : ◌≡◌ {A = ℕ} 0 1 = cc in absurd (omega arith)

  verdict_was : (r : List ℕ) (from base : ℕ) (m : Room) (h : Header) (k : Counts) (x : Encoding) → proved_by r from base m h k x ≡ Ok tally
      → (check_proof (clauses_of_all x) (limits_in base m x) r from).verdict ≡ Ok tally
  unfolding proved_by
  verdict_was r from base m h k x e =
      by_verdict_lem _
      (past (leb k.ifs m.trail) _ _
      (past (leb h.variables m.values) _ _
      (past (leb ((translation_size x).variables + 1) m.marks) _ _
      (past (leb (translation_size x).clauses m.starts) _ _
      (past (leb (translation_size x).words m.words) _ _ e)))))

-- ---- what an accepted report says of the runs

module _ (bs r : List ℕ) (h : Header) (a : Arm) (k : Counts) (d : decode bs ≡ routine h a k) (p : Lets r h k (lead_in r h k)) (there : Landing)
    (s : Stood bs (lead_in r h k) h a k there) (translated : Demand2 bs (lead_in r h k).target (decisions_of (lead_in r h k) k))
    (v : Result Tally proof.Refusal) (refuted : Refutes (clauses_of_all (translation_of bs (lead_in r h k).target (decisions_of (lead_in r h k) k) h a)) v)
    (tally : Tally) (closed : v ≡ Ok tally) where
  abbrev t : Target
  t = (lead_in r h k).target

  abbrev ds : List ℕ
  ds = decisions_of (lead_in r h k) k

  abbrev witness : List ℕ
  witness = inputs_of (lead_in r h k) h k

  abbrev x : Encoding
  x = translation_of bs t ds h a

  admitted : claim_admission bs t ds ≡ translates h a k
  admitted = admission_by bs t ds h a k d p.admits

  claim : Faithful bs t ds h a k
  claim = translated.holds h a k admitted

  -- every accepted input list whose run goes the way and comes to the access has its index on the side
  outside : (ins : List ℕ) → listed bs ins h a k ≡ Ok tt → goes_way ds (ifs_before a t.access) (run_of bs ins h a).events ≡ true
      → (array₁ : ℕ) (index₁ : Whole) → Comes t.access array₁ index₁ (run_of bs ins h a).events
      → is_on t.side (lies (array_size bs h array₁) index₁) ≡ true
  unfolding clauses_of_all
  outside ins ok way array₁ index₁ there =
      let ρ : Assign = claim.solution ins ok in
      let y = claim.solves ins ok in
      let come : lit ρ claim.arrival ≡ true = (claim.arrives ins ok ρ y).1 (record { array = array₁; index = index₁; goes = way; comes = there }) in
      let none : sat ρ (netlist_clauses 1 x.nodes ++ last_clauses (Some (record { arrival = claim.arrival; side = claim.side }))) ≡ false = rw claim.claims at (refuted.none tally closed ρ) in
      (claim.lies ins ok ρ y way array₁ index₁ there).0 (side_true ρ claim.arrival claim.side (netlist_clauses 1 x.nodes) none y.satisfies come)

  abbrev found : Finding
  found = finding bs h t there tally

  overflows : Overflows bs ds witness h a k found
  overflows =
      let come = (arrival bs witness ds h a k d t.access (admitted_range bs t ds h a k admitted).1.access there.array there.index).0 s.arrived in
      record {
        accepted = sym (counted bs witness h a k (inputs_counted r h k) (Ok tt) (sym s.fits));
        goes = come.0;
        comes = come.1;
        every = λ ins ok way array₁ index₁ met. stops ins ok way array₁ index₁ met;
      }
    where
      stops : (ins : List ℕ) → listed bs ins h a k ≡ Ok tt → goes_way ds (ifs_before a t.access) (run_of bs ins h a).events ≡ true
          → (array₁ : ℕ) (index₁ : Whole) → Comes t.access array₁ index₁ (run_of bs ins h a).events
          → StopsOutside bs h t.access t.side array₁ index₁ (run_of bs ins h a)
      stops ins ok way array₁ index₁ met =
          let l = outside ins ok way array₁ index₁ met in
          let o = on-side t.side (lies (array_size bs h array₁) index₁) l in
          let e = subst (λ es. Ends bs h es (run_of bs ins h a).state.stop) met.there (ends bs h ins a) in
          let n = ends_at bs h met.before t.access array₁ index₁ met.after (run_of bs ins h a).state.stop e o.on o.outside in
          record { on = o.on; named = o.named; stops = n.1; outside = l }

  pub finds : Found bs r found
  finds = record {
    header = h;
    commands = a;
    counts = k;
    decodes = d;
    access = refl;
    side = refl;
    size = refl;
    overflows = overflows;
  }

-- ---- the whole

module _ (bs r : List ℕ) (m : Room) (translated : (t : Target) (ds : List ℕ) → Demand2 bs t ds)
    (refuted : (cs : List Clause) (L : Limits) (from : ℕ) → Refutes cs (check_proof cs L r from).verdict) (f : Finding) where
  abbrev Says : Result Finding Refusal → Type 0
  Says j = j ≡ Ok f

  module _ (h : Header) (a : Arm) (k : Counts) (d : decode bs ≡ routine h a k) (w : Lets r h k (lead_in r h k)) where
    abbrev l : Lead
    l = lead_in r h k

    abbrev y : Encoding
    y = translation_of bs l.target (decisions_of l k) h a

    by_proof_lem : (there : Landing) → witness_of bs l h a k ≡ Ok there
        → (p : Result Tally Refusal) → proved_by r (proof_at h k) 0 m h k y ≡ p → Says (by_proof bs h l.target there p) → Found bs r f
    by_proof_lem there is (Err refusal) q e = let z : ◌≡◌ {A = ℕ} 0 1 = cc in absurd (omega arith)
    by_proof_lem there is (Ok tally) q e =
        let v = verdict_was tally r (proof_at h k) 0 m h k y q in
        let s = stood bs l h a k there is in
        let o : finding bs h l.target there tally ≡ f = cc in
        subst (Found bs r) o
        (finds bs r h a k d w there s (translated l.target (decisions_of l k)) _ (refuted (clauses_of_all y) (limits_in 0 m y) (proof_at h k)) tally v)

    by_witness_lem : (x : Result Landing turned.Refusal) → witness_of bs l h a k ≡ x → Says (by_witness bs r m h a k l x) → Found bs r f
    by_witness_lem (Err refusal) is e = let z : ◌≡◌ {A = ℕ} 0 1 = cc in absurd (omega arith)
    by_witness_lem (Ok there) is e = by_proof_lem there is (proved_by r (proof_at h k) 0 m h k y) refl e

  by_opened_lem : (h : Header) (a : Arm) (k : Counts) → decode bs ≡ routine h a k → (x : Result Lead turned.Refusal) → opened r h k ≡ x
      → Says (by_opened bs r m h a k x) → Found bs r f
  by_opened_lem h a k d (Err refusal) is e = let z : ◌≡◌ {A = ℕ} 0 1 = cc in absurd (omega arith)
  by_opened_lem h a k d (Ok l) is e =
      let w = lets r h k l is in
      by_witness_lem h a k d (subst (Lets r h k) w.lead w) (witness_of bs (lead_in r h k) h a k) refl
      (subst (λ (l : Lead). Says (by_witness bs r m h a k l (witness_of bs l h a k))) w.lead e)

  by_decoded : (x : Decoded) → decode bs ≡ x → Says (by_routine bs r m x) → Found bs r f
  by_decoded (rejected refusal) d e = let z : ◌≡◌ {A = ℕ} 0 1 = cc in absurd (omega arith)
  by_decoded (routine h a k) d e = by_opened_lem h a k d (opened r h k) refl e

  holds : Says (judgement bs r m) → Found bs r f
  unfolding judgement
  holds e = by_decoded (decode bs) refl e

-- demand 3 follows from what `translate` promises of every admitted claim and from what the proof's check promises of every verdict
pub follows : (bs r : List ℕ) (m : Room) → ((t : Target) (ds : List ℕ) → Demand2 bs t ds)
    → ((cs : List Clause) (L : Limits) (from : ℕ) → Refutes cs (check_proof cs L r from).verdict) → Demand3 bs r (judgement bs r m)
follows bs r m translated refuted = record { holds = λ f e. holds bs r m translated refuted f e }

-- whatever is judged so
pub demand : (bs r : List ℕ) (m : Room) (j : Result Finding Refusal) → j ≡ judgement bs r m → Demand3 bs r j
demand bs r m j is = subst (Demand3 bs r) (sym is) (follows bs r m (translation.demand bs) (λ cs L from. sound cs L r from))
