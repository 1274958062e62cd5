-- Whether there is a run, from what the calls answered. Assumes nothing.
use mathlib.Core.Path.{◌≡◌, refl, sym, ap, ◌∙◌}
use mathlib.Core.List.{List, ◌++◌}
use mathlib.Core.Bool.{Bool, true, false, cond}
use Prim.Native.Nat.{ℕ, ◌≤◌}
use native.Mathlib.Omega.{arith}
use lib.ListN.{length, take, drop}
use lib.Dec.{leb}
use borrow.Author.Tests.{leb-true}
use Rattle.std.proofs.Common.{Result, Ok, Err}
use Rattle.slices.specs.declared.Buffer.{Buffer}
use Rattle.routine.specs.Routine.{Arm, done}
use Rattle.routine.specs.Decode.{Decoded, rejected, routine, decode, commands_in, checked, IsRoutine}
use Rattle.routine_header.specs.declared.Header.{Header}
use Rattle.routine_faults.specs.declared.Counts.{Counts}
use Rattle.routine.specs.declared.Accepted.{Accepted}
use Rattle.routine.specs.declared.Refusal as declared
use Rattle.routine.specs.Inner.Known.{IsRoutineWith}
use Rattle.routine.proofs.Decoded.{accepted, refused_by_lem, decoded, commands_are}
use Rattle.routine.proofs.Counting.{few-ifs}
use Rattle.routine_faults.proofs.Fine.{fine}
use Rattle.run_inputs.specs.Inputs.{listed}
use Rattle.run_state.proofs.Laid.{laid_is}
use Rattle.run_state.specs.Run.{run_of}
use Rattle.run.specs.Answer.{RunAdmission, refused, runs, roomy, by_list, run_by_routine, run_admission, run_answer, RunAnswers}
use Rattle.run.specs.Inner.Admitted.{run_without_tree, passes, admitted_inputs, admitted_room, run_admitted}
use Rattle.run_inputs.specs.declared.Refusal as listing
use Rattle.run.specs.declared.Refusal.{Refusal}
use Rattle.run_state.specs.declared.State.{State}

-- ---- the routine

module _ (bs : List ℕ) (a : Accepted) (e : checked bs ≡ Ok a) where
  arm_of : Arm
  arm_of = (accepted bs a.header a.counts (checked bs) refl e).arm

  decodes_to : decode bs ≡ routine a.header arm_of a.counts
  unfolding arm_of
  decodes_to = (accepted bs a.header a.counts (checked bs) refl e).decodes

  pub is_counted : IsRoutineWith bs a.header a.counts
  is_counted = record { commands = arm_of; decodes = decodes_to }

-- ---- what `admit` answers

-- a refusal is the same, of whatever was refused
same_refusal : {A B : Type 0} {x y : Refusal} → ◌≡◌ {A = Result A Refusal} (Err x) (Err y) → ◌≡◌ {A = Result B Refusal} (Err x) (Err y)
same_refusal {x = x} {y = y} e = let z : x ≡ y = cc in ap Err z

module _ (bs ins : List ℕ) (values trail : ℕ) where
  pub no_routine : (refusal : declared.Refusal) → checked bs ≡ Err refusal → Err (Refusal.Routine refusal) ≡ run_admitted bs ins values trail
  unfolding run_admitted run_admission
  no_routine refusal e = rw (refused_by_lem bs refusal (checked bs) refl e)

  module _ (a : Accepted) (e : checked bs ≡ Ok a) where
    abbrev h : Header
    h = a.header

    abbrev k : Counts
    k = a.counts

    -- what 9 and 10 say to the routine
    abbrev inputs : Result (Unit {0}) Refusal
    inputs = admitted_inputs (length ins) (listed bs ins h (commands_in bs) k)

    admitted_by : run_admitted bs ins values trail ≡ run_without_tree (by_list (length ins) values trail h (arm_of bs a e) k (listed bs ins h (commands_in bs) k))
    unfolding run_admitted run_admission
    admitted_by =
        let d = decodes_to bs a e in
        let z : listed bs ins h (arm_of bs a e) k ≡ listed bs ins h (commands_in bs) k = ap (λ (b : Arm). listed bs ins h b k) (sym (commands_are bs h _ k d)) in
        rw (d, z)

    pub inputs_refused : (refusal : Refusal) → Err refusal ≡ inputs → Err refusal ≡ run_admitted bs ins values trail
    inputs_refused refusal q = go (listed bs ins h (commands_in bs) k) q ∙ sym admitted_by
      where
        go : (l : Result (Unit {0}) listing.Refusal) → Err refusal ≡ admitted_inputs (length ins) l → Err refusal ≡ run_without_tree (by_list (length ins) values trail h (arm_of bs a e) k l)
        go (Ok fit) u = let z : ◌≡◌ {A = ℕ} 0 1 = cc in absurd (omega arith)
        go (Err why) u = same_refusal u

    -- where 9 and 10 refuse nothing, 16 decides
    by_room : Ok tt ≡ inputs → run_admitted bs ins values trail ≡ run_without_tree (roomy values trail h (arm_of bs a e) k)
    by_room q = admitted_by ∙ sym (go (listed bs ins h (commands_in bs) k) q)
      where
        go : (l : Result (Unit {0}) listing.Refusal) → Ok tt ≡ admitted_inputs (length ins) l
            → run_without_tree (roomy values trail h (arm_of bs a e) k) ≡ run_without_tree (by_list (length ins) values trail h (arm_of bs a e) k l)
        go (Ok fit) u = refl
        go (Err why) u = let z : ◌≡◌ {A = ℕ} 0 1 = cc in absurd (omega arith)

    pub room_refused : Ok tt ≡ inputs → (refusal : Refusal) → Err refusal ≡ admitted_room values trail h k → Err refusal ≡ run_admitted bs ins values trail
    unfolding admitted_room
    room_refused q refusal u = go (leb h.variables values) (leb k.ifs trail) u ∙ sym (by_room q)
      where
        go : (b c : Bool) → Err refusal ≡ passes (cond b (cond c (runs h done k) (refused (Refusal.TooSmall Buffer.Trail))) (refused (Refusal.TooSmall Buffer.Values)))
            → Err refusal ≡ run_without_tree (cond b (cond c (runs h (arm_of bs a e) k) (refused (Refusal.TooSmall Buffer.Trail))) (refused (Refusal.TooSmall Buffer.Values)))
        go true true u = let z : ◌≡◌ {A = ℕ} 0 1 = cc in absurd (omega arith)
        go true false u = same_refusal u
        go false c u = same_refusal u

    pub roomed : Ok tt ≡ inputs → Ok tt ≡ admitted_room values trail h k → Ok a ≡ run_admitted bs ins values trail
    unfolding admitted_room
    roomed q u = go (leb h.variables values) (leb k.ifs trail) u ∙ sym (by_room q)
      where
        go : (b c : Bool) → Ok tt ≡ passes (cond b (cond c (runs h done k) (refused (Refusal.TooSmall Buffer.Trail))) (refused (Refusal.TooSmall Buffer.Values)))
            → Ok (record { header = h; counts = k }) ≡ run_without_tree (cond b (cond c (runs h (arm_of bs a e) k) (refused (Refusal.TooSmall Buffer.Trail))) (refused (Refusal.TooSmall Buffer.Values)))
        go true true u = refl
        go true false u = let z : ◌≡◌ {A = ℕ} 0 1 = cc in absurd (omega arith)
        go false c u = let z : ◌≡◌ {A = ℕ} 0 1 = cc in absurd (omega arith)

-- ---- what an admitted run has

-- the tree, and room in both buffers
pub record Admits (bs ins : List ℕ) (values trail : ℕ) (h : Header) (k : Counts) : Type 0 where
  pub commands : Arm
  pub decodes : decode bs ≡ routine h commands k
  pub admits : run_admission bs ins values trail ≡ runs h commands k
  pub values-room : h.variables ≤ values
  pub trail-room : k.ifs ≤ trail

module _ (bs ins : List ℕ) (values trail : ℕ) where
  abbrev Of : RunAdmission → Type 0
  Of (refused refusal) = Unit {0}
  Of (runs h a k) = (decode bs ≡ routine h a k) × (h.variables ≤ values) × (k.ifs ≤ trail)

  of_room : (h : Header) (a : Arm) (k : Counts) → decode bs ≡ routine h a k → (b c : Bool) → leb h.variables values ≡ b → leb k.ifs trail ≡ c
      → Of (cond b (cond c (runs h a k) (refused (Refusal.TooSmall Buffer.Trail))) (refused (Refusal.TooSmall Buffer.Values)))
  of_room h a k d true true p q = (d, leb-true _ _ p, leb-true _ _ q)
  of_room h a k d true false p q = tt
  of_room h a k d false c p q = tt

  of_list : (h : Header) (a : Arm) (k : Counts) → decode bs ≡ routine h a k → (l : Result (Unit {0}) listing.Refusal) → Of (by_list (length ins) values trail h a k l)
  of_list h a k d (Ok fit) = of_room h a k d (leb h.variables values) (leb k.ifs trail) refl refl
  of_list h a k d (Err refusal) = tt

  of_routine : (d : Decoded) → decode bs ≡ d → Of (run_by_routine bs ins values trail d)
  of_routine (rejected refusal) e = tt
  of_routine (routine h a k) e = of_list h a k e (listed bs ins h a k)

  of_admission : Of (run_admission bs ins values trail)
  unfolding run_admission
  of_admission = of_routine (decode bs) refl

  admits_by : (h : Header) (k : Counts) (x : RunAdmission) → run_admission bs ins values trail ≡ x → Of x → run_without_tree x ≡ Ok (record { header = h; counts = k })
      → Admits bs ins values trail h k
  admits_by h k (refused refusal) e o q = let z : ◌≡◌ {A = ℕ} 0 1 = cc in absurd (omega arith)
  admits_by h k (runs h₁ a k₁) e o q =
      let z : ◌≡◌ {A = Accepted} (record { header = h₁; counts = k₁ }) (record { header = h; counts = k }) = cc in
      let x : h₁ ≡ h = ap (λ (p : Accepted). p.header) z in
      let y : k₁ ≡ k = ap (λ (p : Accepted). p.counts) z in
      rw (← x, ← y) (record { commands = a; decodes = o.0; admits = e; values-room = o.1; trail-room = o.2 })

  pub admits : (h : Header) (k : Counts) → Ok (record { header = h; counts = k }) ≡ run_admitted bs ins values trail → Admits bs ins values trail h k
  unfolding run_admitted
  admits h k e = admits_by h k (run_admission bs ins values trail) refl of_admission (sym e)

  pub refuses : (refusal : Refusal) → Err refusal ≡ run_admitted bs ins values trail → run_admission bs ins values trail ≡ refused refusal
  unfolding run_admitted
  refuses refusal e = go (run_admission bs ins values trail) (sym e)
    where
      go : (x : RunAdmission) → run_without_tree x ≡ Err refusal → x ≡ refused refusal
      go (refused refusal₁) q = cc
      go (runs h a k) q = let z : ◌≡◌ {A = ℕ} 0 1 = cc in absurd (omega arith)

-- what the parts of the whole call ask
module _ (bs ins : List ℕ) (values trail : ℕ) (a : Accepted) (e : Ok a ≡ run_admitted bs ins values trail) where
  run_admits : Admits bs ins values trail a.header a.counts
  run_admits = admits bs ins values trail a.header a.counts e

  pub run_routine : IsRoutine bs a.header
  run_routine = record { commands = run_admits.commands; counts = a.counts; decodes = run_admits.decodes }

  pub values_fit : (a.header.variables ≤ 32) × (a.header.variables ≤ values)
  values_fit = ((fine bs a.header (decoded bs a.header _ a.counts run_admits.decodes).header).few, run_admits.values-room)

  pub trail_fits : (a.counts.ifs ≤ 32) × (a.counts.ifs ≤ trail)
  trail_fits = (few-ifs bs a.header _ a.counts run_admits.decodes, run_admits.trail-room)

-- what the whole call answers, from what its parts answered
module _ (bs ins values trail : List ℕ) where
  pub answers_refusal : (refusal : Refusal) → Err refusal ≡ run_admitted bs ins (length values) (length trail) → RunAnswers bs ins values trail values trail (Err refusal)
  unfolding run_answer
  answers_refusal refusal e = record { equal = rw (refuses bs ins (length values) (length trail) refusal e) }

  pub answers_run : (a : Accepted) → Ok a ≡ run_admitted bs ins (length values) (length trail) → (s : State) → s ≡ (run_of bs ins a.header (commands_in bs)).state → length s.values ≡ 32 → length s.trail ≡ 32
      → (values₁ trail₁ : List ℕ) → values₁ ≡ take a.header.variables s.values ++ drop a.header.variables values → trail₁ ≡ take a.counts.ifs s.trail ++ drop a.counts.ifs trail
      → RunAnswers bs ins values trail values₁ trail₁ (Ok s.stop)
  unfolding run_answer
  answers_run a e s x vl tl values₁ trail₁ v w =
      let r = run_admits bs ins (length values) (length trail) a e in
      let f = values_fit bs ins (length values) (length trail) a e in
      let g = trail_fits bs ins (length values) (length trail) a e in
      let z : s ≡ (run_of bs ins a.header r.commands).state = x ∙ ap (λ (c : Arm). (run_of bs ins a.header c).state) (commands_are bs a.header r.commands a.counts r.decodes) in
      let p = v ∙ laid_is a.header.variables s.values values (omega (arith, f.0, vl)) f.1 in
      let q = w ∙ laid_is a.counts.ifs s.trail trail (omega (arith, g.0, tl)) g.1 in
      record { equal = rw (r.admits, ← z, p, q) }
