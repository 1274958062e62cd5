-- The clauses of a translation have literals of its variables only. Assumes nothing.
use Rattle.std.proofs.Common.{Option, None, Some}
use mathlib.Core.Path.{◌≡◌, refl}
use mathlib.Core.List.{List, [], ◌∷◌, ◌++◌}
use Prim.Native.Nat.{ℕ, zero, suc, ◌+◌, ◌/◌, ◌<◌, ◌≤◌}
use native.Mathlib.Omega.{arith}
use lib.ListN.{length, get_or}
use Rattle.routine_header.specs.Header.{first_command}
use Rattle.routine_header.specs.declared.Header.{Header}
use Rattle.routine_faults.specs.declared.Counts.{Counts}
use Rattle.routine_faults.proofs.Fine.{fine}
use Rattle.routine.specs.Routine.{Arm}
use Rattle.routine.specs.Decode.{routine, decode, no_counts}
use Rattle.routine.proofs.Decoded.{decoded}
use Rattle.cnf.specs.Clause.{Clause}
use Rattle.netlist.specs.Node.{netlist_clauses}
use Rattle.netlist.proofs.Formed.{before-opp}
use Rattle.netlist.proofs.Within.{Within, AllWithin, within_append, nodes-within}
use Rattle.translation_state.specs.declared.Claim.{Claim}
use Rattle.lead.specs.declared.Target.{Target}
use Rattle.translation_meaning.specs.Translation.{translation_of, last_clauses, clauses_of_all}
use Rattle.translation_meaning.proofs.Formed.{whole-formed, whole-named}
use Rattle.proof_check.proofs.Laying.{Proper}

-- ---- by number

place : (g : ℕ) (c : Clause) → Within g c → (j : ℕ) → j < length c → (2 ≤ get_or c j 0) × (get_or c j 0 / 2 < g)
place g [] w j l = absurd (omega arith)
place g (x ∷ c) w zero l = (w.0.low, omega (arith, w.0.high))
place g (x ∷ c) w (suc j) l = place g c w.1 j (omega arith)

proper : (g : ℕ) (cs : List Clause) → AllWithin g cs → Proper g cs
proper g [] w i j l m = absurd (omega arith)
proper g (c ∷ cs) w zero j l m = place g c w.0 j m
proper g (c ∷ cs) w (suc i) j l m = proper g cs w.1 i j (omega arith) m

-- ---- the whole

module _ (bs : List ℕ) (t : Target) (ds : List ℕ) (h : Header) (a : Arm) (k : Counts) (d : decode bs ≡ routine h a k) where
  abbrev n : ℕ
  n = 1 + length (translation_of bs t ds h a).nodes

  last_within : (c : Option Claim) → (translation_of bs t ds h a).wires.claim ≡ c → AllWithin n (last_clauses c)
  last_within None e = tt
  last_within (Some made) e =
      let w = decoded bs h a k d in
      let p = whole-named bs h (fine bs h w.header) t ds a (first_command h) no_counts (length bs) k w.stands made.arrival made.side e in
      ((p.0, tt), ((before-opp p.1, tt), tt))

  pub whole_proper : Proper n (clauses_of_all (translation_of bs t ds h a))
  unfolding clauses_of_all
  whole_proper =
      let w = decoded bs h a k d in
      proper n (netlist_clauses 1 (translation_of bs t ds h a).nodes ++ last_clauses (translation_of bs t ds h a).wires.claim)
      (within_append n (netlist_clauses 1 (translation_of bs t ds h a).nodes) (last_clauses (translation_of bs t ds h a).wires.claim)
      (nodes-within 1 n (omega arith) (translation_of bs t ds h a).nodes (omega arith)
      (whole-formed bs h (fine bs h w.header) t ds a (first_command h) no_counts (length bs) k w.stands))
      (last_within (translation_of bs t ds h a).wires.claim refl))
