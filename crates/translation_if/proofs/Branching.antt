-- The beginning and the end of an if, from what their parts made. Assumes nothing.
use Rattle.std.proofs.Common.{None}
use mathlib.Core.Path.{◌≡◌, refl, sym, ap, subst, ◌∙◌}
use mathlib.Core.List.{List, [], ◌∷◌, ◌++◌}
use mathlib.Core.Bool.{Bool, true, false, cond}
use Prim.Native.Nat.{ℕ, zero, suc, ◌+◌, ◌*◌, ◌-◌, ◌<◌, ◌≤◌}
use native.Mathlib.Omega.{arith}
use native.Mathlib.Numerals.{add-one}
use lib.ListN.{length, take, drop, set, get_or, length-append}
use lib.Seq.{sets, drop-set-lt, get_or-take, get_or-drop}
use lib.Dec.{eqb}
use Rattle.routine_header.specs.Header.{width}
use Rattle.routine_faults.specs.Inner.Sound.{SoundIf, Fine}
use Rattle.routine_faults.proofs.Fine.{condition_fine}
use Rattle.routine_header.specs.declared.Header.{Header}
use Rattle.routine_command.specs.declared.Condition.{Condition}
use borrow.Author.Tests.{eq-eqb, ne_eqb}
use Rattle.netlist.specs.Literal.{opp, pos, neg}
use Rattle.netlist.specs.declared.Node.{Node}
use Rattle.netlist.specs.declared.Node.TheVariants.{And, Mux}
use Rattle.netlist.specs.Inner.Emit.{Emitted, Ready}
use Rattle.netlist.specs.declared.Net.{Net}
use Rattle.netlist.proofs.Emitting.{emitted-none, emitted_then, ready-after}
use Rattle.arithmetic.specs.Bits.{Bits, bits_at, lit_at, tabulate}
use Rattle.arithmetic.specs.Circuit.{Predicate}
use Rattle.arithmetic.specs.Inner.Results.{Decides}
use Rattle.arithmetic.specs.Join.{join, joiner, join_bit}
use Rattle.arithmetic.specs.declared.Test.{Test}
use Rattle.arithmetic.proofs.Values.{length-tabulate}
use Rattle.arithmetic.proofs.Join.{join-lit, join-turn, length-joiner}
use Rattle.comparison.specs.Relation.{relation}
use Rattle.comparison.proofs.Compare.{decides_as}
use Rattle.comparison.proofs.Relating.{relation-short}
use Rattle.translation_state.specs.Wires.{Wires, all_places, place_of}
use Rattle.translation_if.specs.If.{arm_arrival, condition_of, join_groups, join_arms}
use Rattle.translation_command.specs.Inner.Encodes.{Encodes}
use Rattle.translation_if.specs.Inner.BeginsIf.{BeginsIf}
use Rattle.translation_state.proofs.Overlay.{set_own, sets_after, table_more}
use Rattle.translation_state.proofs.Ranges.{part-bits, part_length, ranged, ranged_as}

-- ---- the beginning

-- an arm's arrival takes at most one gate
pub arm-few : (other : Bool) (g arrival c : ℕ) → length (arm_arrival other g arrival c).nodes + 1 ≤ 2
arm-few true g arrival c = omega arith
arm-few false g arrival c = omega arith

-- after any relation of words there is room for both arrivals
pub relation_ready : {W U W₁ U₁ : List ℕ} {n : Net} {t : Test} (r w : ℕ) (a b : Bits) → Decides W U n (relation r n.next a b w) W₁ U₁ t → w ≤ 32 → Ready n 8192
    → Ready t.net 2
relation_ready {n = n} r w a b p l q = ready-after 2 p.emitted q (omega (arith, relation-short r n.next a b w))

-- the condition, from the places of its two variables
module _ (bs : List ℕ) (h : Header) (c : Condition) (lits : List ℕ) (sound : SoundIf bs h c) (fine : Fine bs h) (long : length lits ≡ all_places h) {a b w : ℕ}
    (ea : a ≡ place_of c.s) (eb : b ≡ place_of c.t) (ew : w ≡ width bs c.s)
    {W U W₁ U₁ : List ℕ} {n : Net} {t : Test}
    (p : Decides W U n
    (relation c.relation n.next (lit_at (take (a + w - a) (drop a lits))) (lit_at (take (b + w - b) (drop b lits))) (length (take (a + w - a) (drop a lits)))) W₁ U₁ t) where
  in_range : (c.relation < 10) × (c.s < h.variables) × (c.t < h.variables) × (width bs c.s ≡ width bs c.t)
  in_range = condition_fine bs h c sound

  wide : length (take (a + w - a) (drop a lits)) ≡ w
  wide = part_length bs h c.s a w fine in_range.1 ea ew lits long

  pub condition_made : (s : Wires) → s.lits ≡ lits → Decides W U n (condition_of bs n.next c s) W₁ U₁ t
  condition_made s is =
      let x = part-bits bs h c.s a w fine in_range.1 ea ew lits long in
      let y = part-bits bs h c.t b w fine in_range.2 eb (ew ∙ in_range.3) lits long in
      rw is (decides_as (λ i. relation c.relation n.next (x i) (y i) ((wide ∙ ew) i)) p)

  -- after it there is room for both arrivals
  pub condition_ready : Ready n 8192 → Ready t.net 2
  condition_ready q =
      let r = ranged_as bs h c.s a w fine in_range.1 ea ew in
      relation_ready c.relation _ _ _ p (omega (arith, wide, r)) q

-- the condition, and then both arrivals
module _ {W U W₁ U₁ W₂ U₂ W₃ U₃ : List ℕ} {n : Net} {t a b : Test} (bs : List ℕ) (c : Condition) (d : ℕ) (s : Wires) (fails : ℕ)
    (p : Decides W U n (condition_of bs n.next c s) W₁ U₁ t)
    (q : Decides W₁ U₁ t.net (arm_arrival (eqb d 1) t.net.next s.arrival t.lit) W₂ U₂ a) (o : fails ≡ opp t.lit)
    (r : Decides W₂ U₂ a.net (arm_arrival (eqb d 0) a.net.next s.arrival fails) W₃ U₃ b) where
  abbrev x : Predicate
  x = condition_of bs n.next c s

  abbrev arrival : ℕ
  arrival = s.arrival

  abbrev at : ℕ
  at = n.next + length x.nodes

  first : Decides W₁ U₁ t.net (arm_arrival (eqb d 1) at arrival x.lit) W₂ U₂ a
  first = subst (λ (z : Predicate). Decides W₁ U₁ t.net z W₂ U₂ a) (λ i. arm_arrival (eqb d 1) (p.emitted.next i) arrival (p.lit i)) q

  there : a.net.next ≡ at + length (arm_arrival (eqb d 1) at arrival x.lit).nodes
  there = first.emitted.next ∙ ap (λ (k : ℕ). k + length (arm_arrival (eqb d 1) at arrival x.lit).nodes) p.emitted.next

  second : Decides W₂ U₂ a.net (arm_arrival (eqb d 0) (at + length (arm_arrival (eqb d 1) at arrival x.lit).nodes) arrival (opp x.lit)) W₃ U₃ b
  second = subst (λ (z : Predicate). Decides W₂ U₂ a.net z W₃ U₃ b) (λ i. arm_arrival (eqb d 0) (there i) arrival ((o ∙ ap opp p.lit) i)) r

  pub branch_made : BeginsIf bs W U n c d s W₃ U₃ (record { net = b.net; condition = t.lit; first = a.lit; second = b.lit })
  branch_made = record {
    emitted = emitted_then p.emitted (emitted_then first.emitted second.emitted);
    condition = p.lit;
    first = first.lit;
    second = second.lit;
  }

-- ---- the end

-- the literal in a place of a group
pub bits-there : (lits : List ℕ) (place w j : ℕ) → j < w → bits_at lits place w j ≡ get_or lits (place + j) 0
bits-there lits place w j h = get_or-take w (drop place lits) j 0 h ∙ get_or-drop place lits j 0

-- a group takes at most a gate for each place
pub group_ready : {W U W₁ U₁ : List ℕ} {n n₁ : Net} (c : ℕ) (a b : Bits) (w j : ℕ) → Emitted W U n (joiner c a b j) W₁ U₁ n₁ → Ready n w → j < w → Ready n₁ 1
group_ready c a b w j p r h = ready-after 1 p r (omega (arith, length-joiner c a b j))

-- one place more of a group: the literals are l, in which the places from j on are x still
module _ {W U W₁ U₁ : List ℕ} {n n₁ : Net} {l : List ℕ} (x y : List ℕ) (place w c j : ℕ) (h : j < w)
    (p : Emitted W U n (joiner c (bits_at x place w) (bits_at y place w) j) W₁ U₁ n₁)
    (e : l ≡ sets x place (tabulate (join_bit n.next c (bits_at x place w) (bits_at y place w)) j)) where
  abbrev a : Bits
  a = bits_at x place w

  abbrev b : Bits
  b = bits_at y place w

  abbrev f : Bits
  f = join_bit n.next c a b

  mine : get_or l (place + j) 0 ≡ a j
  mine = ap (λ (z : List ℕ). get_or z (place + j) 0) e ∙ sets_after (tabulate f j) x place (place + j) (omega (arith, length-tabulate f j)) ∙ sym (bits-there x place w j h)

  its : get_or y (place + j) 0 ≡ b j
  its = sym (bits-there y place w j h)

  -- the literals are the same: no gate
  pub same_group : get_or l (place + j) 0 ≡ get_or y (place + j) 0
      → Emitted W U n (joiner c a b (j + 1)) W₁ U₁ n₁ × (l ≡ sets x place (tabulate f (j + 1)))
  same_group q =
      let z = eq-eqb _ _ q in (
        join-turn c a b j _ _ p mine its (rw z (emitted-none _ _ _)),
        sym (set_own l (place + j))
            ∙ table_more x f place j (get_or l (place + j) 0) e
            (ap (λ (t : Bool). cond t (get_or l (place + j) 0) (pos n₁.next)) (sym z) ∙ join-lit c a b j _ _ p mine its),
      )

  -- they differ: a MUX
  pub other_group : {W₂ U₂ : List ℕ} {n₂ : Net} → (get_or l (place + j) 0 ≡ get_or y (place + j) 0 → ⊥)
      → Emitted W₁ U₁ n₁ (Mux c (get_or l (place + j) 0) (get_or y (place + j) 0) ∷ []) W₂ U₂ n₂
      → Emitted W U n (joiner c a b (j + 1)) W₂ U₂ n₂
      × (set l (place + j) (2 * n₁.next) ≡ sets x place (tabulate f (j + 1)))
  other_group q m =
      let z = ne_eqb _ _ q in (
        join-turn c a b j _ _ p mine its (rw z m),
        table_more x f place j (2 * n₁.next) e
            (ap (λ (t : Bool). cond t (get_or l (place + j) 0) (pos n₁.next)) (sym z) ∙ join-lit c a b j _ _ p mine its),
      )

module _ (bs : List ℕ) (h : Header) (fine : Fine bs h) (g c : ℕ) (x y : List ℕ) where
  -- the first v groups take few gates
  pub join-few : (v : ℕ) → v ≤ h.variables → length (join_groups bs g c x y v).nodes ≤ 32 * v
  unfolding join_groups
  join-few zero l = omega arith
  join-few (suc v) l =
      let r = ranged bs h v fine (omega arith) in
      simp length-append (omega (
        arith,
        join-few v (omega arith),
        length-joiner c (bits_at x (place_of v) (width bs v)) (bits_at y (place_of v) (width bs v)) (width bs v),
        r.few,
      ))

  -- after all groups there is room for arrival
  pub joined_ready : {W U W₁ U₁ : List ℕ} {n n₁ : Net} → Emitted W U n (join_groups bs g c x y h.variables).nodes W₁ U₁ n₁ → Ready n 8192 → Ready n₁ 1
  joined_ready p q = ready-after 1 p q (omega (arith, join-few h.variables (omega arith), fine.few))

-- an overlay leaves what stands after it
drop_sets : (vs l : List ℕ) (i k : ℕ) → i + length vs ≤ k → drop k (sets l i vs) ≡ drop k l
drop_sets [] l i k h = refl
drop_sets (v ∷ vs) l i k h = drop_sets vs (set l i v) (suc i) k (omega arith) ∙ drop-set-lt k l i v (omega arith)

module _ (bs : List ℕ) (h : Header) (fine : Fine bs h) (g c : ℕ) (x y : List ℕ) where
  -- the first v groups, joined in place, leave what stands after them
  join_leaves : (v : ℕ) → v ≤ h.variables → (k : ℕ) → 32 * v ≤ k → drop k (join_groups bs g c x y v).lits ≡ drop k x
  unfolding join_groups
  join_leaves zero l k q = refl
  join_leaves (suc v) l k q =
      let r = ranged bs h v fine (omega arith) in
      let j = join_groups bs g c x y v in
      let f = join_bit (g + length j.nodes) c (bits_at x (place_of v) (width bs v)) (bits_at y (place_of v) (width bs v)) in
      drop_sets (tabulate f (width bs v)) j.lits (place_of v) k (omega (arith, length-tabulate f (width bs v), r.few))
      ∙ join_leaves v (omega arith) k (omega arith)

-- one group more; the literals are l, in which the groups from v on are the first arm's still
module _ {W U W₁ U₁ W₂ U₂ : List ℕ} (n n₁ n₂ : Net) (bs : List ℕ) (h : Header) (fine : Fine bs h) (c : ℕ) (x y l : List ℕ) (v place w : ℕ) (few : v ≤ h.variables)
    (d : place ≡ place_of v) (e : w ≡ width bs v) (p : Emitted W U n (join_groups bs n.next c x y v).nodes W₁ U₁ n₁)
    (a : l ≡ (join_groups bs n.next c x y v).lits)
    (q : Emitted W₁ U₁ n₁ (join n₁.next c (bits_at l place w) (bits_at y place w) w).nodes W₂ U₂ n₂) where
  unjoined : drop place l ≡ drop (place_of v) x
  unjoined =
      (λ i. drop (d i) (a i)) ∙ join_leaves bs h fine n.next c x y v few (place_of v) (omega arith)

  left : bits_at l place w ≡ bits_at x (place_of v) (width bs v)
  left = λ i. λ j. get_or (take (e i) (unjoined i)) j 0

  pub group_joined : Emitted W U n (join_groups bs n.next c x y (v + 1)).nodes W₂ U₂ n₂
  unfolding join_groups
  group_joined =
      rw (add-one v)
      (subst (λ (ns : List Node). Emitted W U n ((join_groups bs n.next c x y v).nodes ++ ns) W₂ U₂ n₂)
      (λ i. joiner c (left i) (bits_at y (d i) (e i)) (e i)) (emitted_then p q))

  pub group_literals : (l₁ : List ℕ) → l₁ ≡ sets l place (tabulate (join n₁.next c (bits_at l place w) (bits_at y place w) w).bits w)
      → l₁ ≡ (join_groups bs n.next c x y (v + 1)).lits
  unfolding join_groups
  group_literals l₁ b =
      rw (add-one v)
      (b ∙ (λ i. sets (a i) (d i) (tabulate (join_bit (p.next i) c (left i) (bits_at y (d i) (e i))) (e i))))

-- all groups, then arrival
pub arms_joined : {W U W₁ U₁ W₂ U₂ : List ℕ} {n n₁ n₂ : Net} (bs : List ℕ) (h : Header) (c : ℕ) (x y : Wires) (l : List ℕ) (a b : ℕ)
    → Emitted W U n (join_groups bs n.next c x.lits y.lits h.variables).nodes W₁ U₁ n₁
    → l ≡ (join_groups bs n.next c x.lits y.lits h.variables).lits
    → a ≡ opp x.arrival → b ≡ opp y.arrival → Emitted W₁ U₁ n₁ (And a b ∷ []) W₂ U₂ n₂
    → Encodes W U n (join_arms bs h n.next c x y) W₂ U₂ l (record { net = n₂; reach = record { arrival = 2 * n₁.next + 1; claim = None } })
unfolding join_arms
arms_joined {W} {U} {W₂ = W₂} {U₂ = U₂} {n} {n₂ = n₂} bs h c x y l a b p s e f q = record {
  emitted =
      subst (λ (ns : List Node). Emitted W U n ((join_groups bs n.next c x.lits y.lits h.variables).nodes ++ ns) W₂ U₂ n₂) (λ i. And (e i) (f i) ∷ [])
      (emitted_then p q);
  wires = λ i. record { lits = s i; arrival = neg (p.next i); claim = None };
}
