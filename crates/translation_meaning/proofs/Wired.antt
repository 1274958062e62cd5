-- Wires all of whose literals are of variables before a given one. They stay so after more nodes, where a variable is put, and where two arms are
-- joined. Assumes nothing.
use Rattle.std.proofs.Common.{Option, None, Some}
use mathlib.Core.Path.{◌≡◌, sym, ap, subst, ◌∙◌}
use mathlib.Core.List.{List, [], ◌∷◌, ◌++◌}
use Prim.Native.Nat.{ℕ, zero, suc, ◌+◌, ◌*◌, ◌<◌, ◌≤◌}
use native.Mathlib.Nat.{add_assoc}
use native.Mathlib.Omega.{arith}
use lib.ListN.{length, length-append, get_or}
use Rattle.routine_header.specs.Header.{width}
use Rattle.routine_faults.specs.Inner.Sound.{Fine}
use Rattle.routine_header.specs.declared.Header.{Header}
use Rattle.netlist.specs.Literal.{opp}
use Rattle.netlist.specs.declared.Node.{Node}
use Rattle.netlist.specs.declared.Node.TheVariants.{And}
use Rattle.netlist.proofs.Model.{Before, WellFormed}
use Rattle.netlist.proofs.Formed.{before_later, before-opp, before-neg, formed_append}
use Rattle.arithmetic.specs.Bits.{Bits}
use Rattle.arithmetic.specs.Join.{joiner, join_bit}
use Rattle.arithmetic.proofs.Values.{AllBefore}
use Rattle.arithmetic.proofs.Join.{join-formed, join-before}
use Rattle.translation_state.specs.Wires.{Wires, bits_in, bits_set, bits_of, with_bits, arriving}
use Rattle.translation_command.specs.Command.{Encoding, nodes_then}
use Rattle.translation_if.specs.If.{join_groups, join_arms}
use Rattle.translation_state.specs.declared.Claim.{Claim}
use Rattle.translation_meaning.proofs.Places.{bits-place, put_length, put_keeps}

-- all literals in the places of m variables are of variables before g
pub record Held (m g : ℕ) (lits : List ℕ) : Type 0 where
  pub count : length lits ≡ 32 * m
  pub places : (i : ℕ) → i < 32 * m → Before g (get_or lits i 0)

-- so are the literals of a claim
abbrev pub Named : ℕ → Option Claim → Type 0
Named g None = Unit {0}
Named g (Some made) = Before g made.arrival × Before g made.side

-- so are all literals of the wires
pub record Wired (m g : ℕ) (s : Wires) : Type 0 where
  pub some : 1 < g
  pub held : Held m g s.lits
  pub arrival : Before g s.arrival
  pub claim : Named g s.claim

pub held_later : {m g : ℕ} {lits : List ℕ} (k : ℕ) → g ≤ k → Held m g lits → Held m k lits
held_later k l b = record { count = b.count; places = λ i m. before_later k l (b.places i m) }

pub named_later : {g : ℕ} (k : ℕ) (c : Option Claim) → g ≤ k → Named g c → Named k c
named_later k None l b = tt
named_later k (Some made) l b = (before_later k l b.0, before_later k l b.1)

pub wired_later : {m g : ℕ} {s : Wires} (k : ℕ) → g ≤ k → Wired m g s → Wired m k s
wired_later {s = s} k l b = record {
  some = omega (arith, b.some);
  held = held_later k l b.held;
  arrival = before_later k l b.arrival;
  claim = named_later k s.claim l b.claim;
}

pub wired_arriving : {m g : ℕ} {s : Wires} (l : ℕ) → Wired m g s → Before g l → Wired m g (arriving s l)
wired_arriving l w b = record { some = w.some; held = w.held; arrival = b; claim = w.claim }

-- an encoding whose first variable is g
pub record Made (m g : ℕ) (x : Encoding) : Type 0 where
  pub formed : WellFormed g x.nodes
  pub wired : Wired m (g + length x.nodes) x.wires

-- these nodes first
pub made_after : {m : ℕ} (g : ℕ) (ns : List Node) (x : Encoding) → WellFormed g ns → Made m (g + length ns) x → Made m g (nodes_then ns x)
made_after {m} g ns x f a =
    let e : g + length ns + length x.nodes ≡ g + length (ns ++ x.nodes) =
    add_assoc g (length ns) (length x.nodes) ∙ ap (λ (n : ℕ). g + n) (sym (length-append ns x.nodes)) in
    record { formed = formed_append g ns x.nodes f a.formed; wired = subst (λ (n : ℕ). Wired m n x.wires) e a.wired }

module _ (bs : List ℕ) {n : ℕ} where
  held_bits : (g : ℕ) (lits : List ℕ) → Held n g lits → (v : ℕ) → v < n → width bs v ≤ 32 → AllBefore g (bits_in bs lits v) (width bs v)
  held_bits g lits b v l w j m = subst (Before g) (sym (bits-place bs lits v j m)) (b.places (32 * v + j) (omega arith))

  pub held_put : (g : ℕ) (lits : List ℕ) → Held n g lits → (d : ℕ) (f : Bits) → AllBefore g f (width bs d) → Held n g (bits_set bs lits d f)
  held_put g lits b d f k =
      record { count = put_length bs lits d f ∙ b.count; places = λ i m. put_keeps bs lits d f (Before g) i (b.places i m) k (omega (arith, b.count)) }

  pub wired_put : (g : ℕ) (s : Wires) → Wired n g s → (d : ℕ) (f : Bits) → AllBefore g f (width bs d) → Wired n g (with_bits bs s d f)
  wired_put g s w d f k = record { some = w.some; held = held_put g s.lits w.held d f k; arrival = w.arrival; claim = w.claim }

-- ---- joining

module _ (bs : List ℕ) (m g c : ℕ) (x y : List ℕ) (z : 1 < g) (hc : Before g c) (hx : Held m g x) (hy : Held m g y) where
  -- the gates of the first n variables, and their literals
  record Joined (n : ℕ) : Type 0 where
    gates : WellFormed g (join_groups bs g c x y n).nodes
    lits : Held m (g + length (join_groups bs g c x y n).nodes) (join_groups bs g c x y n).lits

  joins : (n : ℕ) → ((v : ℕ) → v < n → (v < m) × (width bs v ≤ 32)) → Joined n
  unfolding join_groups
  joins zero f = record { gates = tt; lits = held_later (g + 0) (omega arith) hx }
  joins (suc v) f =
      let p = joins v (λ u l. f u (omega arith)) in
      let k : ℕ = g + length (join_groups bs g c x y v).nodes in
      let w : ℕ = width bs v in
      let r = f v (omega arith) in
      let a = held_bits bs k x (held_later k (omega arith) hx) v r.0 r.1 in
      let b = held_bits bs k y (held_later k (omega arith) hy) v r.0 r.1 in
      let ns : List Node = joiner c (bits_in bs x v) (bits_in bs y v) w in
      let e : k + length ns ≡ g + length ((join_groups bs g c x y v).nodes ++ ns) =
      add_assoc g (length (join_groups bs g c x y v).nodes) (length ns) ∙ ap (λ (n : ℕ). g + n) (sym (length-append (join_groups bs g c x y v).nodes ns)) in
      record {
        gates = formed_append g (join_groups bs g c x y v).nodes ns p.gates (join-formed k c (bits_in bs x v) (bits_in bs y v) w (before_later k (omega arith) hc) a b);
        lits = subst (λ (n : ℕ). Held m n (bits_set bs (join_groups bs g c x y v).lits v (join_bit k c (bits_in bs x v) (bits_in bs y v)))) e
            (held_put bs (k + length ns) (join_groups bs g c x y v).lits (held_later (k + length ns) (omega arith) p.lits) v
            (join_bit k c (bits_in bs x v) (bits_in bs y v))
            (join-before k c (bits_in bs x v) (bits_in bs y v) w (before_later k (omega arith) hc) a b (omega arith)));
      }

module _ (bs : List ℕ) (h : Header) (fine : Fine bs h) where
  few : (v : ℕ) → v < h.variables → (v < h.variables) × (width bs v ≤ 32)
  few v l = (l, (fine.widths v l).1)

  pub wide : (v : ℕ) → v < h.variables → 0 < width bs v
  wide v l = omega (arith, fine.widths v l)

  pub var_bits : (g : ℕ) (s : Wires) → Wired h.variables g s → (v : ℕ) → v < h.variables → AllBefore g (bits_of bs s v) (width bs v)
  var_bits g s w v l = let p = few v l in held_bits bs g s.lits w.held v p.0 p.1

  pub joined_made : (g c : ℕ) (x y : Wires) → Wired h.variables g x → Wired h.variables g y → Before g c → Made h.variables g (join_arms bs h g c x y)
  unfolding join_arms
  joined_made g c x y wx wy hc =
      let p = joins bs h.variables g c x.lits y.lits wx.some hc wx.held wy.held h.variables few in
      let ns : List Node = (join_groups bs g c x.lits y.lits h.variables).nodes in
      let k : ℕ = g + length ns in
      let e = length-append ns (And (opp x.arrival) (opp y.arrival) ∷ []) in
      record {
        formed = formed_append g ns (And (opp x.arrival) (opp y.arrival) ∷ []) p.gates
            ((before_later k (omega arith) (before-opp wx.arrival), before_later k (omega arith) (before-opp wy.arrival)), tt);
        wired = record { some = omega (arith, wx.some); held = held_later _ (omega arith) p.lits; arrival = before-neg _ k (omega (arith, wx.some)) (omega arith); claim = tt };
      }
