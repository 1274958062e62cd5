-- What the parts of a command made is what the command makes. Assumes nothing.
use mathlib.Core.Path.{◌≡◌, refl, sym, ap, subst, ◌∙◌}
use mathlib.Core.List.{List, append-nil}
use mathlib.Core.Bool.{Bool, true, false, cond}
use Prim.Native.Nat.{ℕ, suc, ◌+◌, ◌*◌, ◌≤◌}
use native.Mathlib.Nat.{mul-le-mul}
use native.Mathlib.Omega.{arith}
use lib.ListN.{length}
use lib.Dec.{eqb}
use borrow.Author.Tests.{eq-eqb, ne_eqb}
use Rattle.routine_header.specs.Header.{width, array_size}
use Rattle.routine_faults.specs.Step.{accesses}
use Rattle.routine_faults.specs.Inputs.{input_number}
use Rattle.routine_header.specs.declared.Header.{Header}
use Rattle.routine_faults.specs.declared.Counts.{Counts}
use Rattle.routine_command.specs.declared.Simple.{Simple}
use Rattle.netlist.specs.declared.Net.{Net}
use Rattle.netlist.proofs.Emitting.{emitted_then}
use Rattle.arithmetic.specs.Bits.{Bits}
use Rattle.arithmetic.specs.Input.{in_bit}
use Rattle.arithmetic.specs.Inner.Taken.{TakesInputs}
use Rattle.arithmetic.specs.Circuit.{Number}
use Rattle.arithmetic.specs.Inner.Results as made
use Rattle.arithmetic.specs.declared.Bundle.{Bundle}
use Rattle.translation_access.proofs.Gates.{claim-short, passing-short}
use Rattle.translation_state.specs.Wires.{Wires, bits_set, bits_of, with_bits, arriving, claiming, is_made}
use Rattle.translation_state.specs.Inner.Reach.{wires_of}
use Rattle.translation_command.specs.Command.{Encoding, nodes_then, still, claimed, passed, read_into, simple}
use Rattle.translation_access.specs.Index.{claim, passing}
use Rattle.translation_command.specs.Inner.Encodes.{access_of, Encodes}
use Rattle.lead.specs.declared.Target.{Target}
use Rattle.translation_command.specs.declared.Encoded.{Encoded}
use Rattle.routine_faults.proofs.Tests.{not_both}

module _ (bs : List ℕ) (h : Header) (t : Target) (g array i : ℕ) (k : Counts) (s : Wires) (a : Bits) (size w : ℕ) (p : a ≡ bits_of bs s i) (q : size ≡ array_size bs h array)
    (e : w ≡ width bs i) where
  -- the named access, from the bits of its index, its width and its size
  pub claim_at : accesses k ≡ t.access
      → ◌≡◌ {A = Encoding} (record { nodes = (claim t.side g a size w).nodes; wires = claiming s (claim t.side g a size w).lit }) (access_of bs h t g array i k s)
  claim_at f =
      rw (eq-eqb _ _ f)
      (λ j. record { nodes = (claim t.side g (p j) (q j) (e j)).nodes; wires = claiming s (claim t.side g (p j) (q j) (e j)).lit })

  -- another access
  pub pass_at : (accesses k ≡ t.access → ⊥)
      → ◌≡◌ {A = Encoding} (record { nodes = (passing g a size w s.arrival).nodes; wires = arriving s (passing g a size w s.arrival).lit }) (access_of bs h t g array i k s)
  pass_at f =
      rw (ne_eqb _ _ f)
      (λ j. record { nodes = (passing g (p j) (q j) (e j) s.arrival).nodes; wires = arriving s (passing g (p j) (q j) (e j) s.arrival).lit })

module _ (bs : List ℕ) (h : Header) (t : Target) (g array i : ℕ) (k : Counts) (s : Wires) where
  -- an access takes few variables
  pub access-few : width bs i ≤ 32 → length (access_of bs h t g array i k s).nodes ≤ 128
  access-few l = pick (eqb (accesses k) t.access)
    where
      pick : (b : Bool) → length (cond b (claimed bs h t g array i s) (passed bs h g array i s)).nodes ≤ 128
      pick true = omega (arith, claim-short t.side g (bits_of bs s i) (array_size bs h array) (width bs i))
      pick false = omega (arith, passing-short g (bits_of bs s i) (array_size bs h array) (width bs i) s.arrival)

  -- a write is its access
  pub write_is : (a : ℕ) → access_of bs h t g array i k s ≡ simple bs h t g (Simple.Write array i a) k s
  unfolding simple
  write_is a = pick (eqb (accesses k) t.access)
    where
      x : Encoding
      x = passed bs h g array i s

      pick : (b : Bool)
          → cond b (claimed bs h t g array i s) (passed bs h g array i s)
          ≡ cond b (claimed bs h t g array i s) (nodes_then (passed bs h g array i s).nodes (still (passed bs h g array i s).wires))
      pick true = refl
      pick false = λ j. record { nodes = sym (append-nil (passed bs h g array i s).nodes) j; wires = (passed bs h g array i s).wires }

  -- a read that is named is its access
  pub read-claimed : (d : ℕ) → is_made s.claim ≡ false → is_made (access_of bs h t g array i k s).wires.claim ≡ true
      → access_of bs h t g array i k s ≡ simple bs h t g (Simple.Read d array i) k s
  unfolding simple
  read-claimed d o = pick (eqb (accesses k) t.access)
    where
      pick : (b : Bool) → is_made (cond b (claimed bs h t g array i s) (passed bs h g array i s)).wires.claim ≡ true
          → cond b (claimed bs h t g array i s) (passed bs h g array i s)
          ≡ cond b (claimed bs h t g array i s)
          (nodes_then (passed bs h g array i s).nodes (read_into bs h d k (g + length (passed bs h g array i s).nodes) (passed bs h g array i s).wires))
      pick true e = refl
      pick false e = let z = not_both (is_made s.claim) e o in absurd z

  -- another read goes on after its access
  pub read_goes : (d : ℕ) → is_made (access_of bs h t g array i k s).wires.claim ≡ false
      → nodes_then (access_of bs h t g array i k s).nodes
      (read_into bs h d k (g + length (access_of bs h t g array i k s).nodes) (access_of bs h t g array i k s).wires)
      ≡ simple bs h t g (Simple.Read d array i) k s
  unfolding simple
  read_goes d = pick (eqb (accesses k) t.access)
    where
      pick : (b : Bool) → is_made (cond b (claimed bs h t g array i s) (passed bs h g array i s)).wires.claim ≡ false
          → nodes_then (cond b (claimed bs h t g array i s) (passed bs h g array i s)).nodes
          (read_into bs h d k (g + length (cond b (claimed bs h t g array i s) (passed bs h g array i s)).nodes) (cond b (claimed bs h t g array i s) (passed bs h g array i s)).wires)
          ≡ cond b (claimed bs h t g array i s)
          (nodes_then (passed bs h g array i s).nodes (read_into bs h d k (g + length (passed bs h g array i s).nodes) (passed bs h g array i s).wires))
      pick true e = let z : ◌≡◌ {A = Bool} true false = e in absurd (not_both true refl z)
      pick false e = refl

-- the same buffers by an equal encoding
pub makes_as : {w u w₁ u₁ l₁ : List ℕ} {n : Net} {x y : Encoding} {r : Encoded} → x ≡ y → Encodes w u n x w₁ u₁ l₁ r → Encodes w u n y w₁ u₁ l₁ r
makes_as {w} {u} {w₁} {u₁} {l₁} {n} {x} {y} {r} e m = subst (λ (z : Encoding). Encodes w u n z w₁ u₁ l₁ r) e m

-- an access, and then the bits of a read
pub read_makes : {w u w₁ u₁ l₁ : List ℕ} {n : Net} {x : Encoding} {m : Encoded} (bs : List ℕ) (h : Header) (d : ℕ) (k : Counts)
    → Encodes w u n x w₁ u₁ l₁ m → (wd : ℕ) → wd ≡ width bs d → (n₁ : Net) → TakesInputs m.net wd n₁
    → (l₂ : List ℕ) → l₂ ≡ bits_set bs l₁ d (in_bit m.net.next)
    → Encodes w u n (nodes_then x.nodes (read_into bs h d k (n.next + length x.nodes) x.wires)) w₁ u₁ l₂ (record { net = n₁; reach = m.reach })
read_makes {w₁ = w₁} {u₁ = u₁} {n = n} {x = x} {m} bs h d k p wd e n₁ q l₂ z = record {
  emitted = emitted_then p.emitted (rw e at (q.tells w₁ u₁ (input_number h k)));
  wires = ap (λ (l : List ℕ). wires_of l m.reach) z ∙ (λ j. with_bits bs (p.wires j) d (in_bit (p.emitted.next j)));
}

-- there are variables for a multiplication, and for a division
pub square_few : (w : ℕ) → w ≤ 32 → 4 * w * w ≤ 4224
square_few w l = let z : 4 * w ≤ 132 = omega arith in mul-le-mul z l

pub division_few : (w : ℕ) → w ≤ 32 → 4 * suc w * w ≤ 4224
division_few w l = let z : 4 * suc w ≤ 132 = omega arith in mul-le-mul z l

-- an equal number is made alike
pub makes_number : {w t w₁ t₁ : List ℕ} {n : Net} {x y : Number} {r : Bundle} → x ≡ y → made.Makes w t n x w₁ t₁ r → made.Makes w t n y w₁ t₁ r
makes_number {w} {t} {w₁} {t₁} {n} {x} {y} {r} e m = subst (λ (z : Number). made.Makes w t n z w₁ t₁ r) e m
