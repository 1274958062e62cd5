-- How many variables a translation takes at most. Assumes nothing.
use Rattle.routine_command.specs.declared.Operation.{Operation}
use Rattle.routine_command.specs.declared.Mark.{Mark}
use Rattle.std.proofs.Common.{Option, None, Some}
use Rattle.cnf.specs.Clause.{flatten}
use Rattle.cnf.proofs.Appending.{flatten_append}
use Rattle.netlist.specs.Node.{node_clauses, netlist_clauses}
use Rattle.netlist.specs.declared.Node.{Node}
use Rattle.netlist.proofs.Nodes.{clauses_of-few, clauses_of-short}
use Rattle.translation_meaning.specs.Translation.{last_clauses, clauses_of_all, translation_size, given_nodes, initial_wires, translation_of}
use Rattle.translation_meaning.specs.Bound.{most_variables, Bounded}
use Rattle.translation_state.specs.declared.Claim.{Claim}
use mathlib.Core.Path.{◌≡◌, ap, sym, ◌∙◌}
use mathlib.Core.List.{List, ◌++◌}
use mathlib.Core.Bool.{Bool, true, false}
use Prim.Native.Nat.{ℕ, zero, suc, ◌+◌, ◌*◌, ◌^◌, ◌<◌, ◌≤◌}
use native.Mathlib.Nat.{mul_assoc, mul_comm, mul-suc, mul-add, mul-le-mul, mul-le-mul_left}
use native.Mathlib.Numerals.{add-one}
use native.Mathlib.Omega.{arith}
use lib.ListN.{length, length-append}
use lib.Dec.{eqb}
use Rattle.slices.specs.Bytes.{entry}
use Rattle.routine_header.specs.Header.{width, array_size}
use Rattle.routine.specs.Routine.{Arm, done, plain, if_else}
use Rattle.routine.specs.Decode.{routine, decode}
use Rattle.routine.specs.Extent.{greatest_width, command_count}
use Rattle.routine.specs.Inner.Stands.{Stands}
use Rattle.routine_faults.specs.Inner.Sound.{Sound, SoundIf, Fine}
use Rattle.routine_header.specs.declared.Header.{Header}
use Rattle.routine_command.specs.declared.Condition.{Condition}
use Rattle.routine_faults.specs.declared.Counts.{Counts}
use Rattle.routine_faults.specs.Inputs.{given, input_number}
use Rattle.routine_command.specs.declared.Conversion.{Conversion}
use Rattle.routine_command.specs.declared.Simple.{Simple}
use Rattle.routine.proofs.Views.{induction}
use Rattle.routine.proofs.Decoded.{decoded}
use Rattle.routine_faults.proofs.Fine.{fine, compute_fine, read_fine, write_fine, condition_fine}
use Rattle.routine.proofs.Counting.{few-ifs}
use Rattle.routine.proofs.Extent.{width_at_most, ifs_in, all_ifs, few-commands}
use Rattle.netlist.specs.Literal.{opp}
use Rattle.netlist.specs.Inner.Emit.{Ready}
use Rattle.netlist.specs.declared.Net.{Net}
use Rattle.arithmetic.specs.Bits.{Bits}
use Rattle.arithmetic.specs.Adder.{opp_bits}
use Rattle.arithmetic.proofs.Adder.{length-adder}
use Rattle.arithmetic.proofs.Product.{rows_short}
use Rattle.division.proofs.Division.{steps-sized}
use Rattle.arithmetic.proofs.Input.{length-inputs}
use Rattle.arithmetic.proofs.Join.{length-joiner}
use Rattle.comparison.proofs.Relating.{relation-short}
use Rattle.translation_state.specs.Wires.{Wires, bits_in, bits_of}
use Rattle.translation_command.specs.Command.{Encoding, still, passed, access, read_into, simple}
use Rattle.translation_command.specs.Operation.{computation}
use Rattle.translation_access.proofs.Gates.{passing-short, claim-short}
use Rattle.translation_meaning.specs.Walk.{encode_on, encode_if, encode_arm}
use Rattle.translation_if.specs.If.{condition_of, arm_arrival, arrivals, join_groups, join_arms}
use Rattle.lead.specs.declared.Target.{Target}
use Rattle.translation_meaning.proofs.Computing.{by_computation}
use Rattle.translation_meaning.proofs.Stretches.{then_by, access_by_lem, fork_by, front_of, first_from, first_wires, first_of, second_from, second_wires, second_of, join_from, join_of}

-- m variables are enough for every command with operands of at most w bits
record Enough (w m : ℕ) : Type 0 where
  access : 4 * w + 2 ≤ m
  product : (v : ℕ) → v ≤ w → 4 * v * v ≤ m
  division : (v : ℕ) → v ≤ w → 4 * suc v * v ≤ m

-- an access and the bits of a read take at most 4 w + 2, a multiplication at most 4 w w, and a division all 4 w (w + 1)
enough : (w : ℕ) → 1 ≤ w → Enough w (4 * w * (w + 1))
enough w l = record {
  access = omega (arith, mul-add (4 * w) w 1, mul-le-mul_left (4 * w) l);
  product = λ v n. let z : 4 * v ≤ 4 * w = omega arith in omega (arith, mul-add (4 * w) w 1, mul-le-mul z n);
  division = λ v n.
      let z : 4 * suc v ≤ 4 * suc w = omega arith in
      let e : 4 * suc w * w ≡ 4 * w * (w + 1) = mul_assoc 4 (suc w) w ∙ ap (λ (k : ℕ). 4 * k) (mul_comm (suc w) w) ∙ sym (rw (add-one w) (mul_assoc 4 w (suc w))) in
      omega (arith, e, mul-le-mul z n);
}

-- ---- gates

arrivals-few : (d g arrival c : ℕ) → length (arrivals d g arrival c).nodes ≤ 2
arrivals-few d g arrival c = pick (eqb d 1) (eqb d 0)
  where
    pick : (p q : Bool) → length ((arm_arrival p g arrival c).nodes ++ (arm_arrival q (g + length (arm_arrival p g arrival c).nodes) arrival (opp c)).nodes) ≤ 2
    pick true true = omega arith
    pick true false = omega arith
    pick false true = omega arith
    pick false false = omega arith

-- ---- an arm

-- what an arm may take: m for each command, and j more for each if
unfoldable allowed : (m j : ℕ) → Arm → ℕ
allowed m j done = 0
allowed m j (plain at c k rest) = m + allowed m j rest
allowed m j (if_else at c k first second rest) = m + j + allowed m j first + allowed m j second + allowed m j rest

-- the same by the counts, in which the commands that end the arms are too
allowed_few : (m j : ℕ) (a : Arm) → allowed m j a ≤ m * command_count a + j * ifs_in a
unfolding allowed command_count ifs_in
allowed_few m j done = omega arith
allowed_few m j (plain at c k rest) = simp mul-add (omega (arith, allowed_few m j rest))
allowed_few m j (if_else at c k first second rest) =
    simp mul-add (omega (arith, allowed_few m j first, allowed_few m j second, allowed_few m j rest))

module _ (bs : List ℕ) (h : Header) (w : ℕ) (narrow : (v : ℕ) → v < h.variables → width bs v ≤ w) where
  -- the bits of the first n variables
  given-short : (n : ℕ) → n ≤ h.variables → length (given_nodes bs n) ≤ w * n
  unfolding given_nodes
  given-short zero l = omega arith
  given-short (suc p) l =
      simp length-append (omega (arith, given-short p (omega arith), length-inputs p (width bs p), narrow p (omega arith), mul-suc w p))

  -- the gates that join the first n variables
  joins_few : (g c : ℕ) (x y : List ℕ) (n : ℕ) → n ≤ h.variables → length (join_groups bs g c x y n).nodes ≤ w * n
  unfolding join_groups
  joins_few g c x y zero l = omega arith
  joins_few g c x y (suc v) l =
      simp length-append (omega (
        arith,
        joins_few g c x y v (omega arith),
        length-joiner c (bits_in bs x v) (bits_in bs y v) (width bs v),
        narrow v (omega arith),
        mul-suc w v,
      ))

  module _ (few : h.variables ≤ 32) (m : ℕ) (big : Enough w m) (t : Target) where
    -- the end of an if
    joined_few : (g c : ℕ) (x y : Wires) → length (join_arms bs h g c x y).nodes ≤ 32 * w + 1
    unfolding join_arms
    joined_few g c x y =
        simp length-append (omega (arith, joins_few g c x.lits y.lits h.variables (omega arith), mul-le-mul_left w few))

    -- ---- commands

    compute_few : (op : Operation) (g : ℕ) (a b : Bits) (v : ℕ) → v ≤ w → length (computation op g a b v).nodes ≤ m
    compute_few op g a b v l =
        by_computation (λ z n. length z.nodes ≤ m) g a b v 0 0 op
        (omega (arith, length-adder g a b 3 v, big.access))
        (omega (arith, length-adder g a (opp_bits b) 2 v, big.access))
        (omega (arith, rows_short g a b v v (omega arith), big.product v l))
        (omega (arith, (steps-sized g a b v v).nodes, big.division v l))
        (omega (arith, (steps-sized g a b v v).nodes, big.division v l))

    -- an access, and what goes on after it
    at_access : (g array i : ℕ) (k : Counts) (s : Wires) (go : ℕ → Wires → Encoding) → i < h.variables
        → ((g₁ : ℕ) (u : Wires) → length (go g₁ u).nodes ≤ w) → length (access bs h t g array i k s go).nodes ≤ m
    at_access g array i k s go l f =
        let a : Bits = bits_of bs s i in
        let size : ℕ = array_size bs h array in
        let v : ℕ = width bs i in
        let p : Encoding = passed bs h g array i s in
        let x : Encoding = go (g + length p.nodes) p.wires in
        access_by_lem (λ (z : Encoding). length z.nodes ≤ m) bs h t g array i k s go
        (λ e. omega (arith, claim-short t.side g a size v, narrow i l, big.access))
        (λ e. omega (
          arith,
          length-append p.nodes x.nodes,
          passing-short g a size v s.arrival,
          f (g + length p.nodes) p.wires,
          narrow i l,
          big.access,
        ))

    simple-few : (g : ℕ) (c : Simple Conversion Operation) (k : Counts) (s : Wires) → Sound bs h c → length (simple bs h t g c k s).nodes ≤ m
    unfolding simple
    simple-few g (Simple.Set d c) k s q = omega arith
    simple-few g (Simple.Convert op d a) k s q = omega arith
    simple-few g (Simple.Compute op d a b) k s q =
        compute_few op g (bits_of bs s a) (bits_of bs s b) (width bs d) (narrow d (compute_fine bs h op d a b q).0)
    simple-few g (Simple.Read d array i) k s q =
        let p = read_fine bs h d array i q in
        at_access g array i k s (read_into bs h d k) p.2
        (λ g₁ u. omega (arith, length-inputs (input_number h k) (width bs d), narrow d p.0))
    simple-few g (Simple.Write array i a) k s q = at_access g array i k s (λ g₁. still) (write_fine bs h array i a q).1 (λ g₁ u. omega arith)

    -- ---- ifs

    -- an encoding takes at most so many variables, wherever it begins
    abbrev Few : ℕ → (ℕ → Wires → Encoding) → Type 0
    Few n go = (g : ℕ) (s : Wires) → length (go g s).nodes ≤ n

    -- the gates of the condition and of the arms' arrivals
    front-few : (d g : ℕ) (c : Condition) (s : Wires) → SoundIf bs h c
        → length ((condition_of bs g c s).nodes ++ (arrivals d (g + length (condition_of bs g c s).nodes) s.arrival (condition_of bs g c s).lit).nodes) ≤ m
    front-few d g c s q =
        let x = condition_of bs g c s in
        let k : ℕ = g + length x.nodes in
        omega (
          arith,
          length-append x.nodes (arrivals d k s.arrival x.lit).nodes,
          relation-short c.relation g (bits_of bs s c.s) (bits_of bs s c.t) (width bs c.s),
          arrivals-few d k s.arrival x.lit,
          narrow c.s (condition_fine bs h c q).1,
          big.access,
        )

    -- an if, whose arms take at most n₁ and n₂
    fork_few : (first second : ℕ → Wires → Encoding) (n₁ n₂ : ℕ) → Few n₁ first → Few n₂ second → (d g : ℕ) (c : Condition) (s : Wires) → SoundIf bs h c
        → length (encode_if bs h d g c s first second).nodes ≤ m + (32 * w + 1) + n₁ + n₂
    fork_few first second n₁ n₂ one two d g c s q =
        let ns : List Node = front_of bs h d g c s first second in
        let x = first_of bs h d g c s first second in
        let y = second_of bs h d g c s first second in
        let j = join_of bs h d g c s first second in
        let l₀ : length ns ≤ m = front-few d g c s q in
        let l₁ : length x.nodes ≤ n₁ = one (first_from bs h d g c s first second) (first_wires bs h d g c s first second) in
        let l₂ : length y.nodes ≤ n₂ = two (second_from bs h d g c s first second) (second_wires bs h d g c s first second) in
        let l₃ : length j.nodes ≤ 32 * w + 1 = joined_few (join_from bs h d g c s first second) (condition_of bs g c s).lit x.wires y.wires in
        fork_by bs h d g c s first second (λ (z : Encoding). length z.nodes ≤ m + (32 * w + 1) + n₁ + n₂)
        (λ e. omega (arith, length-append ns x.nodes, l₀, l₁))
        (λ e e₁. omega (arith, length-append ns (x.nodes ++ y.nodes), length-append x.nodes y.nodes, l₀, l₁, l₂))
        (λ e e₁. omega (
          arith,
          length-append ns (x.nodes ++ (y.nodes ++ j.nodes)),
          length-append x.nodes (y.nodes ++ j.nodes),
          length-append y.nodes j.nodes,
          l₀,
          l₁,
          l₂,
          l₃,
        ))

    -- an encoding, and what goes on after it: where the claim was made there is less
    goes_on : (n₁ n₂ g : ℕ) (x : Encoding) (go : ℕ → Wires → Encoding) → length x.nodes ≤ n₁ → Few n₂ go → length (encode_on g x go).nodes ≤ n₁ + n₂
    goes_on n₁ n₂ g x go l f =
        then_by (λ (z : Encoding). length z.nodes ≤ n₁ + n₂) g x go (λ e. omega (arith, l))
        (λ e.
        let y : Encoding = go (g + length x.nodes) x.wires in
        omega (arith, length-append x.nodes y.nodes, l, f (g + length x.nodes) x.wires))

    -- an arm that stands
    arm-few : (ds : List ℕ) (a : Arm) (depth : ℕ) (close : Mark) (at : ℕ) (k : Counts) (end : ℕ) (k₁ : Counts) → Stands bs h depth close at k a end k₁
        → Few (allowed m (32 * w + 1) a) (encode_arm bs h t ds a)
    unfolding encode_arm allowed
    arm-few ds =
        induction bs h (λ depth close at k a end k₁. Few (allowed m (32 * w + 1) a) (encode_arm bs h t ds a))
        (λ depth close at k mark e l g s. omega arith)
        (λ depth close at k c rest end k₁ v go g s.
        goes_on m (allowed m (32 * w + 1) rest) g (simple bs h t g c k s) (encode_arm bs h t ds rest) (simple-few g c k s v.sound) go)
        (λ depth close at k c first second rest end k₁ v go₁ go₂ go₃ g s.
        goes_on (m + (32 * w + 1) + allowed m (32 * w + 1) first + allowed m (32 * w + 1) second) (allowed m (32 * w + 1) rest) g
        (encode_if bs h (entry ds k.ifs) g c s (encode_arm bs h t ds first) (encode_arm bs h t ds second)) (encode_arm bs h t ds rest)
        (fork_few (encode_arm bs h t ds first) (encode_arm bs h t ds second) (allowed m (32 * w + 1) first) (allowed m (32 * w + 1) second) go₁ go₂
        (entry ds k.ifs) g c s v.sound)
        go₃)

  -- an arm takes at most 4 w (w + 1) variables for each command, and 32 w + 1 more for each if
  pub arm_bound : 1 ≤ w → Fine bs h → (t : Target) (ds : List ℕ) (a : Arm) (depth : ℕ) (close : Mark) (at : ℕ) (k : Counts) (end : ℕ) (k₁ : Counts)
      → Stands bs h depth close at k a end k₁ → (g : ℕ) (s : Wires)
      → length (encode_arm bs h t ds a g s).nodes ≤ 4 * w * (w + 1) * command_count a + (32 * w + 1) * ifs_in a
  arm_bound l f t ds a depth close at k end k₁ st g s =
      omega (arith, arm-few f.few (4 * w * (w + 1)) (enough w l) t ds a depth close at k end k₁ st g s, allowed_few (4 * w * (w + 1)) (32 * w + 1) a)

-- ---- a routine

-- the bits that the variables begin with
pub given-few : (bs : List ℕ) (h : Header) → Fine bs h → length (given_nodes bs (given h)) ≤ 1024
given-few bs h f =
    omega (arith, given-short bs h 32 (λ v l. (f.widths v l).1) (given h) (omega arith), f.few)

-- a translation whose widths are at most w takes at most so many variables
pub whole_bound : (bs : List ℕ) (t : Target) (ds : List ℕ) (h : Header) (a : Arm) (k : Counts) → decode bs ≡ routine h a k → (w : ℕ) → 1 ≤ w
    → ((v : ℕ) → v < h.variables → width bs v ≤ w)
    → length (translation_of bs t ds h a).nodes ≤ most_variables w (command_count a) k.ifs
unfolding translation_of
whole_bound bs t ds h a k e w l narrow =
    let d = decoded bs h a k e in
    let f = fine bs h d.header in
    let ns : List Node = given_nodes bs (given h) in
    let s : Wires = initial_wires bs h in
    let x : Encoding = encode_arm bs h t ds a (2 + length ns) s in
    let p = given-short bs h w narrow (given h) (omega arith) in
    let n : given h ≤ 32 = f.few in
    let q : length x.nodes ≤ 4 * w * (w + 1) * command_count a + (32 * w + 1) * k.ifs =
    rw (← all_ifs bs h a k e) (arm_bound bs h w narrow l f t ds a 0 Mark.End _ _ _ k d.stands (2 + length ns) s) in
    omega (arith, length-append ns x.nodes, p, mul-le-mul_left w n, q)

-- after these there is room for all commands of a routine, and for 2 ^ 25 variables more
pub roomy : (bs : List ℕ) (t : Target) (ds : List ℕ) (h : Header) (a : Arm) (k : Counts) → decode bs ≡ routine h a k → (n : Net)
    → n.store.words ≤ 24 * n.next → n.store.clauses ≤ 6 * n.next → n.next ≤ 2048 → (g : ℕ) (s : Wires)
    → Ready n (2 ^ 25 + length (encode_arm bs h t ds a g s).nodes)
roomy bs t ds h a k e n words clauses next g s =
    let d = decoded bs h a k e in
    let f = fine bs h d.header in
    let b = arm_bound bs h 32 (λ v l. (f.widths v l).1) (omega arith) f t ds a 0 Mark.End _ _ _ k d.stands g s in
    record { words = words; clauses = clauses; next = omega (arith, next, b, few-commands bs h a k e, all_ifs bs h a k e, few-ifs bs h a k e) }

-- ---- clauses and words

last-few : (c : Option Claim) → (length (last_clauses c) ≤ 2) × (length (flatten (last_clauses c)) ≤ 4)
last-few None = (omega arith, omega arith)
last-few (Some made) = (omega arith, omega arith)

module _ (bs : List ℕ) (t : Target) (ds : List ℕ) (h : Header) (a : Arm) where
  -- at most 6 clauses for each variable: variable 1 has one, which leaves room for the last two
  pub clauses_bound : length (clauses_of_all (translation_of bs t ds h a)) ≤ 6 * length (translation_of bs t ds h a).nodes
  unfolding clauses_of_all netlist_clauses node_clauses translation_of
  clauses_bound =
      let x = encode_arm bs h t ds a (2 + length (given_nodes bs (given h))) (initial_wires bs h) in
      let ns = given_nodes bs (given h) ++ x.nodes in
      simp length-append (omega (arith, clauses_of-few 2 ns, (last-few x.wires.claim).0, length-append (given_nodes bs (given h)) x.nodes))

  -- and at most 24 words
  pub words_bound : length (flatten (clauses_of_all (translation_of bs t ds h a))) ≤ 24 * length (translation_of bs t ds h a).nodes
  unfolding clauses_of_all netlist_clauses node_clauses translation_of
  words_bound =
      let x = encode_arm bs h t ds a (2 + length (given_nodes bs (given h))) (initial_wires bs h) in
      let ns = given_nodes bs (given h) ++ x.nodes in
      let cs = netlist_clauses 2 ns in
      let ls = last_clauses x.wires.claim in
      let e : length (flatten (cs ++ ls)) ≡ length (flatten cs) + length (flatten ls) = ap length (flatten_append cs ls) ∙ length-append (flatten cs) (flatten ls) in
      omega (arith, e, clauses_of-short 2 ns, (last-few x.wires.claim).1, length-append (given_nodes bs (given h)) x.nodes)

-- note 2's bound holds of every claim on a routine
pub bounded : (bs : List ℕ) (t : Target) (ds : List ℕ) (h : Header) (a : Arm) (k : Counts) → decode bs ≡ routine h a k
    → Bounded bs (translation_size (translation_of bs t ds h a))
bounded bs t ds h a k e =
    let f = fine bs h (decoded bs h a k e).header in
    let below = width_at_most bs h.variables in
    let l : 1 ≤ greatest_width bs h.variables = omega (arith, (f.widths 0 f.some).0, below 0 f.some) in
    let v = whole_bound bs t ds h a k e (greatest_width bs h.variables) l below in
    record {
      header = h;
      commands = a;
      counts = k;
      decodes = e;
      variables = v;
      clauses = omega (arith, v, clauses_bound bs t ds h a);
      words = omega (arith, v, words_bound bs t ds h a);
    }
