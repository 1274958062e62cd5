-- The beginning of an if, the condition and the arms' arrivals, and its end, where the arms are joined.
use Rattle.std.specs.Prelude.{ℕ, zero, suc, ◌+◌, List, [], ◌∷◌, ◌++◌, Bool, cond, length, eqb, None}
use Rattle.std.proofs.lemmas.List.Edits.{sets}
use Rattle.routine_header.specs.Header.{width}
use Rattle.routine_header.specs.declared.Header.{Header}
use Rattle.routine_command.specs.declared.Condition.{Condition}
use Rattle.netlist.specs.Literal.{opp, pos, neg}
use Rattle.netlist.specs.declared.Node.{Node}
use Rattle.netlist.specs.declared.Node.TheVariants.{And}
use Rattle.arithmetic.specs.Bits.{bits_at, tabulate}
use Rattle.arithmetic.specs.Circuit.{Number, Predicate, never}
use Rattle.arithmetic.specs.Join.{join}
use Rattle.comparison.specs.Relation.{relation}
use Rattle.translation_state.specs.Wires.{Wires, bits_of, place_of}
use Rattle.translation_command.specs.Command.{Encoding}

-- the condition of an if
abbrev pub condition_of : List ℕ → (g : ℕ) → Condition → Wires → Predicate
condition_of bs g c s = relation c.relation g (bits_of bs s c.s) (bits_of bs s c.t) (width bs c.s)

-- an arm's arrival: AND(arrival,c), or 3 without a gate if the other arm was decided
abbrev pub arm_arrival : (other : Bool) → (g arrival c : ℕ) → Predicate
arm_arrival other g arrival c = cond other never (record { nodes = And arrival c ∷ []; lit = pos g })

-- the arrivals of both arms: their gates and their literals
pub record Arrivals : Type 0 where
  pub nodes : List Node
  pub first : ℕ
  pub second : ℕ

-- the first arm's, then the else's; d is the decision, c the condition's literal
abbrev pub arrivals : (d g arrival c : ℕ) → Arrivals
arrivals d g arrival c =
    let x : Predicate = arm_arrival (eqb d 1) g arrival c in
    let y : Predicate = arm_arrival (eqb d 0) (g + length x.nodes) arrival (opp c) in
    record { nodes = x.nodes ++ y.nodes; first = x.lit; second = y.lit }

-- a group of bits: its first place and its width
pub record Group : Type 0 where
  pub place : ℕ
  pub width : ℕ

-- the groups of bits are those of the variables
abbrev pub group_of : List ℕ → (v : ℕ) → Group
group_of bs v = record { place = place_of v; width = width bs v }

-- the literals of two arms joined: the gates, and what became of the first arm's literals
pub record Joint : Type 0 where
  pub nodes : List Node
  pub lits : List ℕ

-- one group more; the literals are x after the first arm and y after the else
abbrev pub join_group : (g c : ℕ) → (x y : List ℕ) → Group → Joint → Joint
join_group g c x y p j =
    let b : Number = join (g + length j.nodes) c (bits_at x p.place p.width) (bits_at y p.place p.width) p.width in
    record { nodes = j.nodes ++ b.nodes; lits = sets j.lits p.place (tabulate b.bits p.width) }

-- the first n groups
unfoldable pub join_groups : List ℕ → (g c : ℕ) → (x y : List ℕ) → (n : ℕ) → Joint
join_groups bs g c x y zero = record { nodes = []; lits = x }
join_groups bs g c x y (suc v) = join_group g c x y (group_of bs v) (join_groups bs g c x y v)

-- the end of an if: the variables joined, then arrival, the opposite of AND(-first,-else)
unfoldable pub join_arms : List ℕ → Header → (g c : ℕ) → (x y : Wires) → Encoding
join_arms bs h g c x y =
    let j : Joint = join_groups bs g c x.lits y.lits h.variables in
    record {
      nodes = j.nodes ++ (And (opp x.arrival) (opp y.arrival) ∷ []);
      wires = record { lits = j.lits; arrival = neg (g + length j.nodes); claim = None };
    }
