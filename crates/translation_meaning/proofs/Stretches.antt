-- What holds of an encoding by how it is put together, and that the number of places of literals stays. Assumes nothing.
use mathlib.Core.Path.{◌≡◌, refl, ◌∙◌}
use mathlib.Core.List.{List, ◌++◌}
use mathlib.Core.Bool.{Bool, true, false, cond}
use Prim.Native.Nat.{ℕ, zero, suc, ◌+◌}
use lib.ListN.{length}
use lib.Dec.{eqb}
use Rattle.slices.specs.Bytes.{entry}
use Rattle.routine_header.specs.Header.{width}
use Rattle.routine_faults.specs.Step.{accesses}
use Rattle.routine.specs.Routine.{Arm, done, plain, if_else}
use Rattle.routine_header.specs.declared.Header.{Header}
use Rattle.routine_command.specs.declared.Condition.{Condition}
use Rattle.routine_faults.specs.declared.Counts.{Counts}
use Rattle.routine_command.specs.declared.Conversion.{Conversion}
use Rattle.routine_command.specs.declared.Operation.{Operation}
use Rattle.routine_command.specs.declared.Simple.{Simple}
use Rattle.netlist.specs.declared.Node.{Node}
use Rattle.arithmetic.specs.Extend.{const_bit}
use Rattle.arithmetic.specs.Input.{in_bit}
use Rattle.translation_state.specs.Wires.{Wires, bits_of, arriving, is_made}
use Rattle.translation_command.specs.Command.{Encoding, nodes_then, still, claimed, passed, access, simple, read_into}
use Rattle.translation_command.specs.Operation.{conversion, computation}
use Rattle.translation_meaning.specs.Walk.{encode_on, encode_if, encode_arm}
use Rattle.arithmetic.specs.Circuit.{Predicate}
use Rattle.translation_if.specs.If.{Arrivals, condition_of, arrivals, join_groups, join_arms}
use Rattle.lead.specs.declared.Target.{Target}
use Rattle.translation_meaning.proofs.Places.{put_length}

-- ---- by cases

pub by_cond : {A : Type 0} (Q : A → Type 0) (b : Bool) (x y : A) → (b ≡ true → Q x) → (b ≡ false → Q y) → Q (cond b x y)
by_cond Q true x y p q = p refl
by_cond Q false x y p q = q refl

module _ (Q : Encoding → Type 0) where
  -- an encoding and what goes on after it
  pub then_by : (g : ℕ) (x : Encoding) (go : ℕ → Wires → Encoding) → (is_made x.wires.claim ≡ true → Q x)
      → (is_made x.wires.claim ≡ false → Q (nodes_then x.nodes (go (g + length x.nodes) x.wires))) → Q (encode_on g x go)
  then_by g x go = by_cond Q (is_made x.wires.claim) x (nodes_then x.nodes (go (g + length x.nodes) x.wires))

  module _ (bs : List ℕ) (h : Header) (t : Target) (g array i : ℕ) (k : Counts) (s : Wires) (go : ℕ → Wires → Encoding) where
    -- the named access, and another one
    pub access_by_lem : (eqb (accesses k) t.access ≡ true → Q (claimed bs h t g array i s))
        → (eqb (accesses k) t.access ≡ false
        → Q (nodes_then (passed bs h g array i s).nodes (go (g + length (passed bs h g array i s).nodes) (passed bs h g array i s).wires)))
        → Q (access bs h t g array i k s go)
    access_by_lem = by_cond Q (eqb (accesses k) t.access) _ _

-- ---- the parts of an if

module _ (bs : List ℕ) (h : Header) (d g : ℕ) (c : Condition) (s : Wires) (first second : ℕ → Wires → Encoding) where
  -- the condition, and the arrivals of the arms
  abbrev condition_here : Predicate
  condition_here = condition_of bs g c s

  abbrev pub after_condition : ℕ
  after_condition = g + length condition_here.nodes

  abbrev arrivals_here : Arrivals
  arrivals_here = arrivals d after_condition s.arrival condition_here.lit

  -- the gates before the arms
  abbrev pub front_of : List Node
  front_of = condition_here.nodes ++ arrivals_here.nodes

  abbrev pub first_from : ℕ
  first_from = after_condition + length arrivals_here.nodes

  -- the wires before the first arm, and its encoding
  abbrev pub first_wires : Wires
  first_wires = arriving s arrivals_here.first

  abbrev pub first_of : Encoding
  first_of = first first_from first_wires

  abbrev pub second_from : ℕ
  second_from = first_from + length first_of.nodes

  -- the wires before the else, and its encoding
  abbrev pub second_wires : Wires
  second_wires = arriving s arrivals_here.second

  abbrev pub second_of : Encoding
  second_of = second second_from second_wires

  abbrev pub join_from : ℕ
  join_from = second_from + length second_of.nodes

  abbrev pub join_of : Encoding
  join_of = join_arms bs h join_from condition_here.lit first_of.wires second_of.wires

  -- the claim was made in the first arm, or in the else, or in neither
  pub fork_by : (Q : Encoding → Type 0) → (is_made first_of.wires.claim ≡ true → Q (nodes_then front_of first_of))
      → (is_made first_of.wires.claim ≡ false → is_made second_of.wires.claim ≡ true → Q (nodes_then front_of (nodes_then first_of.nodes second_of)))
      → (is_made first_of.wires.claim ≡ false → is_made second_of.wires.claim ≡ false
      → Q (nodes_then front_of (nodes_then first_of.nodes (nodes_then second_of.nodes join_of)))) → Q (encode_if bs h d g c s first second)
  fork_by Q p q r =
      by_cond (λ (x : Encoding). Q (nodes_then front_of x)) (is_made first_of.wires.claim) first_of _ p
      (λ e. by_cond (λ (x : Encoding). Q (nodes_then front_of (nodes_then first_of.nodes x))) (is_made second_of.wires.claim) second_of
      (nodes_then second_of.nodes join_of) (q e) (r e))

-- ---- the number of places

joins_length : (bs : List ℕ) (g c : ℕ) (x y : List ℕ) (n : ℕ) → length (join_groups bs g c x y n).lits ≡ length x
unfolding join_groups
joins_length bs g c x y zero = refl
joins_length bs g c x y (suc v) = put_length bs (join_groups bs g c x y v).lits v _ ∙ joins_length bs g c x y v

abbrev Keeps : Wires → Encoding → Type 0
Keeps s x = length x.wires.lits ≡ length s.lits

joined_length : (bs : List ℕ) (h : Header) (g c : ℕ) (x y : Wires) → Keeps x (join_arms bs h g c x y)
unfolding join_arms
joined_length bs h g c x y = joins_length bs g c x.lits y.lits h.variables

module _ (bs : List ℕ) (h : Header) (t : Target) (ds : List ℕ) where
  pub simple-length : (g : ℕ) (c : Simple Conversion Operation) (k : Counts) (s : Wires) → length (simple bs h t g c k s).wires.lits ≡ length s.lits
  unfolding simple
  simple-length g (Simple.Set d c) k s = put_length bs s.lits d (const_bit c)
  simple-length g (Simple.Convert op d a) k s = put_length bs s.lits d (conversion op (bits_of bs s a) (width bs a))
  simple-length g (Simple.Compute op d a b) k s = put_length bs s.lits d (computation op g (bits_of bs s a) (bits_of bs s b) (width bs d)).bits
  simple-length g (Simple.Read d array i) k s =
      access_by_lem (Keeps s) bs h t g array i k s (read_into bs h d k) (λ e. refl)
      (λ e. put_length bs s.lits d (in_bit (g + length (passed bs h g array i s).nodes)))
  simple-length g (Simple.Write array i a) k s = access_by_lem (Keeps s) bs h t g array i k s (λ g₁. still) (λ e. refl) (λ e. refl)

  module _ (first second : ℕ → Wires → Encoding) (one : (g : ℕ) (s : Wires) → Keeps s (first g s)) (two : (g : ℕ) (s : Wires) → Keeps s (second g s)) where
    fork_length : (d g : ℕ) (c : Condition) (s : Wires) → Keeps s (encode_if bs h d g c s first second)
    fork_length d g c s =
        let x = first_of bs h d g c s first second in
        let y = second_of bs h d g c s first second in
        let l : Keeps s x = one (first_from bs h d g c s first second) (first_wires bs h d g c s first second) in
        fork_by bs h d g c s first second (Keeps s) (λ e. l)
        (λ e e₁. two (second_from bs h d g c s first second) (second_wires bs h d g c s first second))
        (λ e e₁. joined_length bs h (join_from bs h d g c s first second) (condition_of bs g c s).lit x.wires y.wires ∙ l)

  -- an arm keeps the number of places
  pub arm-length : (a : Arm) (g : ℕ) (s : Wires) → length (encode_arm bs h t ds a g s).wires.lits ≡ length s.lits
  unfolding encode_arm
  arm-length done g s = refl
  arm-length (plain at c k rest) g s =
      let x = simple bs h t g c k s in
      then_by (Keeps s) g x (encode_arm bs h t ds rest) (λ e. simple-length g c k s)
      (λ e. arm-length rest (g + length x.nodes) x.wires ∙ simple-length g c k s)
  arm-length (if_else at c k first second rest) g s =
      let x = encode_if bs h (entry ds k.ifs) g c s (encode_arm bs h t ds first) (encode_arm bs h t ds second) in
      let l = fork_length (encode_arm bs h t ds first) (encode_arm bs h t ds second) (arm-length first) (arm-length second) (entry ds k.ifs) g c s in
      then_by (Keeps s) g x (encode_arm bs h t ds rest) (λ e. l) (λ e. arm-length rest (g + length x.nodes) x.wires ∙ l)
