-- Where the claim is made: in an arm that has the named access, and in no other. Assumes nothing.
use Rattle.routine_command.specs.declared.Mark.{Mark}
use Rattle.std.proofs.Common.{Option, None, Some}
use mathlib.Core.Path.{◌≡◌, refl, sym, ap, ◌∙◌}
use mathlib.Core.List.{List}
use mathlib.Core.Bool.{true, false}
use Prim.Native.Nat.{ℕ, ◌+◌, ◌<◌, ◌≤◌}
use native.Mathlib.Omega.{arith}
use lib.ListN.{length}
use borrow.Author.Tests.{eqb-true, eqb-false}
use Rattle.slices.specs.Bytes.{entry}
use Rattle.routine_faults.specs.Step.{accesses, counts_after, counts_after_if}
use Rattle.routine.specs.Routine.{Arm, done, plain, if_else}
use Rattle.routine.specs.Inner.Stands.{Stands}
use Rattle.routine_header.specs.declared.Header.{Header}
use Rattle.routine_command.specs.declared.Condition.{Condition}
use Rattle.routine_faults.specs.declared.Counts.{Counts}
use Rattle.routine_command.specs.declared.Conversion.{Conversion}
use Rattle.routine_command.specs.declared.Operation.{Operation}
use Rattle.routine_command.specs.declared.Simple.{Simple}
use Rattle.routine.proofs.Views.{induction}
use Rattle.translation_state.specs.Wires.{Wires, claiming, is_made}
use Rattle.translation_command.specs.Command.{Encoding, still, read_into, simple}
use Rattle.translation_meaning.specs.Walk.{encode_on, encode_if, encode_arm}
use Rattle.translation_if.specs.If.{join_arms}
use Rattle.translation_state.specs.declared.Claim.{Claim}
use Rattle.lead.specs.declared.Target.{Target}
use Rattle.run_state.proofs.Ordered.{after_grows, accesses_grow}
use Rattle.routine_faults.proofs.Tests.{not_both}
use Rattle.translation_meaning.proofs.Stretches.{then_by, access_by_lem, fork_by, first_from, first_wires, first_of, second_from, second_wires, second_of}

pub open_of : (c : Option Claim) → is_made c ≡ false → c ≡ None
open_of None e = refl
open_of (Some made) e = let z : ◌≡◌ {A = ℕ} 0 1 = cc in absurd (omega arith)

-- the claim's two fields
pub record MadeBy (c : Option Claim) : Type 0 where
  pub arrival : ℕ
  pub side : ℕ
  pub is : c ≡ Some (record { arrival = arrival; side = side })

pub made_by : (c : Option Claim) → is_made c ≡ true → MadeBy c
made_by None e = let z : ◌≡◌ {A = ℕ} 0 1 = cc in absurd (omega arith)
made_by (Some made) e = record { arrival = made.arrival; side = made.side; is = refl }

module _ (t : Target) where
  -- an encoding between the counts k and k₁ made the claim exactly where it has the named access
  pub record Claims (k k₁ : Counts) (x : Encoding) : Type 0 where
    pub named : is_made x.wires.claim ≡ true → (accesses k ≤ t.access) × (t.access < accesses k₁)
    pub unnamed : is_made x.wires.claim ≡ false → accesses k ≤ t.access → accesses k₁ ≤ t.access

  -- no access, and no claim
  claims-none : (k : Counts) (x : Encoding) → x.wires.claim ≡ None → Claims k k x
  claims-none k x e = record { named = λ f. not_both (is_made x.wires.claim) f (ap is_made e); unnamed = λ f l. l }

  module _ (bs : List ℕ) (h : Header) (ds : List ℕ) where
    pub simple-claims : (g : ℕ) (c : Simple Conversion Operation) (k : Counts) (s : Wires) → s.claim ≡ None → Claims k (counts_after c k) (simple bs h t g c k s)
    unfolding simple
    simple-claims g (Simple.Set d c) k s o = claims-none k (simple bs h t g (Simple.Set d c) k s) o
    simple-claims g (Simple.Convert op d a) k s o = claims-none k (simple bs h t g (Simple.Convert op d a) k s) o
    simple-claims g (Simple.Compute op d a b) k s o = claims-none k (simple bs h t g (Simple.Compute op d a b) k s) o
    simple-claims g (Simple.Read d array i) k s o =
        access_by_lem (Claims k (counts_after (Simple.Read d array i) k)) bs h t g array i k s (read_into bs h d k)
        (λ e. let q = eqb-true (accesses k) t.access e in record { named = λ f. (omega arith, omega arith); unnamed = λ f l. not_both true refl f })
        (λ e.
        let q = eqb-false (accesses k) t.access e in
        record { named = λ f. not_both (is_made s.claim) f (ap is_made o); unnamed = λ f l. omega arith })
    simple-claims g (Simple.Write array i a) k s o =
        access_by_lem (Claims k (counts_after (Simple.Write array i a) k)) bs h t g array i k s (λ g₁. still)
        (λ e. let q = eqb-true (accesses k) t.access e in record { named = λ f. (omega arith, omega arith); unnamed = λ f l. not_both true refl f })
        (λ e.
        let q = eqb-false (accesses k) t.access e in
        record { named = λ f. not_both (is_made s.claim) f (ap is_made o); unnamed = λ f l. omega arith })

    -- what an arm says, from any wires without a claim
    abbrev Arms : Counts → Counts → (ℕ → Wires → Encoding) → Type 0
    Arms k k₁ go = (g : ℕ) (s : Wires) → s.claim ≡ None → Claims k k₁ (go g s)

    module _ (first second : ℕ → Wires → Encoding) (k k₂ k₃ : Counts) (one : Arms (counts_after_if k) k₂ first) (two : Arms k₂ k₃ second)
        (l₁ : accesses k ≤ accesses k₂) (l₂ : accesses k₂ ≤ accesses k₃) where
      pub fork_claims : (d g : ℕ) (c : Condition) (s : Wires) → s.claim ≡ None → Claims k k₃ (encode_if bs h d g c s first second)
      unfolding join_arms
      fork_claims d g c s o =
          let p = one (first_from bs h d g c s first second) (first_wires bs h d g c s first second) o in
          let q = two (second_from bs h d g c s first second) (second_wires bs h d g c s first second) o in
          fork_by bs h d g c s first second (Claims k k₃)
          (λ e. record {
            named = λ f. let r = p.named f in (omega arith, omega arith);
            unnamed = λ f. not_both (is_made (first_of bs h d g c s first second).wires.claim) e f;
          })
          (λ e e₁. record {
            named = λ f. let r = q.named f in (omega arith, omega arith);
            unnamed = λ f. not_both (is_made (second_of bs h d g c s first second).wires.claim) e₁ f;
          })
          (λ e e₁. record {
            named = λ f. not_both false f refl;
            unnamed = λ f l. q.unnamed e₁ (p.unnamed e l);
          })

    -- an encoding, and what goes on after it
    goes_on : (k k₂ k₁ : Counts) (go : ℕ → Wires → Encoding) → Arms k₂ k₁ go → accesses k ≤ accesses k₂ → accesses k₂ ≤ accesses k₁
        → (g : ℕ) (x : Encoding) → Claims k k₂ x → Claims k k₁ (encode_on g x go)
    goes_on k k₂ k₁ go f l m g x p =
        then_by (Claims k k₁) g x go
        (λ e. record {
          named = λ r. let z = p.named r in (z.0, omega arith);
          unnamed = λ r. not_both (is_made x.wires.claim) e r;
        })
        (λ e.
        let q = f (g + length x.nodes) x.wires (open_of x.wires.claim e) in
        record {
          named = λ r. let z = q.named r in (omega arith, z.1);
          unnamed = λ r z. q.unnamed r (p.unnamed e z);
        })

    pub arm-claims : (a : Arm) (depth : ℕ) (close : Mark) (at : ℕ) (k : Counts) (end : ℕ) (k₁ : Counts) → Stands bs h depth close at k a end k₁ → Arms k k₁ (encode_arm bs h t ds a)
    unfolding encode_arm
    arm-claims =
        induction bs h (λ depth close at k a end k₁. Arms k k₁ (encode_arm bs h t ds a))
        (λ depth close at k mark e l g s o. claims-none k (still s) o)
        (λ depth close at k c rest end k₁ v go g s o. goes_on k (counts_after c k) k₁ (encode_arm bs h t ds rest) go (after_grows c k)
        (accesses_grow bs h rest depth close _ (counts_after c k) end k₁ v.stands) g (simple bs h t g c k s) (simple-claims g c k s o))
        (λ depth close at k c first second rest end k₁ v go₁ go₂ go₃ g s o.
        let l₁ = accesses_grow bs h first (depth + 1) Mark.Else (at + 4) (counts_after_if k) v.else v.k₂ v.stands-first in
        let l₂ = accesses_grow bs h second (depth + 1) Mark.EndIf v.else v.k₂ v.next v.k₃ v.stands-second in
        let l₃ = accesses_grow bs h rest depth close v.next v.k₃ end k₁ v.stands in
        goes_on k v.k₃ k₁ (encode_arm bs h t ds rest) go₃ (omega arith) l₃ g
        (encode_if bs h (entry ds k.ifs) g c s (encode_arm bs h t ds first) (encode_arm bs h t ds second))
        (fork_claims (encode_arm bs h t ds first) (encode_arm bs h t ds second) k v.k₂ v.k₃ go₁ go₂ l₁ l₂ (entry ds k.ifs) g c s o))

    -- ---- the claim's arrival is the last one

    abbrev Settled : Wires → Type 0
    Settled w = (arrival side : ℕ) → w.claim ≡ Some (record { arrival = arrival; side = side }) → arrival ≡ w.arrival

    settled_open : (w : Wires) → w.claim ≡ None → Settled w
    settled_open w o arrival side e = not_both true refl (ap is_made (sym e ∙ o))

    settled-claim : (s : Wires) (l : ℕ) → Settled (claiming s l)
    settled-claim s l arrival side e =
        let q : ◌≡◌ {A = Claim} (record { arrival = arrival; side = side }) (record { arrival = s.arrival; side = l }) = cc in
        ap (λ (z : Claim). z.arrival) q

    simple-settled : (g : ℕ) (c : Simple Conversion Operation) (k : Counts) (s : Wires) → s.claim ≡ None → Settled (simple bs h t g c k s).wires
    unfolding simple
    simple-settled g (Simple.Set d c) k s o = settled_open (simple bs h t g (Simple.Set d c) k s).wires o
    simple-settled g (Simple.Convert op d a) k s o = settled_open (simple bs h t g (Simple.Convert op d a) k s).wires o
    simple-settled g (Simple.Compute op d a b) k s o = settled_open (simple bs h t g (Simple.Compute op d a b) k s).wires o
    simple-settled g (Simple.Read d array i) k s o =
        access_by_lem (λ (x : Encoding). Settled x.wires) bs h t g array i k s (read_into bs h d k) (λ e. settled-claim s _)
        (λ e arrival side f. not_both true refl (ap is_made (sym f ∙ o)))
    simple-settled g (Simple.Write array i a) k s o =
        access_by_lem (λ (x : Encoding). Settled x.wires) bs h t g array i k s (λ g₁. still) (λ e. settled-claim s _)
        (λ e arrival side f. not_both true refl (ap is_made (sym f ∙ o)))

    abbrev Settles : (ℕ → Wires → Encoding) → Type 0
    Settles go = (g : ℕ) (s : Wires) → s.claim ≡ None → Settled (go g s).wires

    fork_settled : (first second : ℕ → Wires → Encoding) → Settles first → Settles second → (d g : ℕ) (c : Condition) (s : Wires) → s.claim ≡ None
        → Settled (encode_if bs h d g c s first second).wires
    unfolding join_arms
    fork_settled first second one two d g c s o =
        fork_by bs h d g c s first second (λ (x : Encoding). Settled x.wires)
        (λ e. one (first_from bs h d g c s first second) (first_wires bs h d g c s first second) o)
        (λ e e₁. two (second_from bs h d g c s first second) (second_wires bs h d g c s first second) o)
        (λ e e₁ arrival side f. not_both true refl (ap is_made (sym f)))

    pub arm-settled : (a : Arm) (g : ℕ) (s : Wires) → s.claim ≡ None → (arrival side : ℕ)
        → (encode_arm bs h t ds a g s).wires.claim ≡ Some (record { arrival = arrival; side = side }) → arrival ≡ (encode_arm bs h t ds a g s).wires.arrival
    unfolding encode_arm
    arm-settled done g s o = settled_open s o
    arm-settled (plain at c k rest) g s o =
        let x = simple bs h t g c k s in
        then_by (λ (z : Encoding). Settled z.wires) g x (encode_arm bs h t ds rest) (λ e. simple-settled g c k s o)
        (λ e. arm-settled rest (g + length x.nodes) x.wires (open_of x.wires.claim e))
    arm-settled (if_else at c k first second rest) g s o =
        let x = encode_if bs h (entry ds k.ifs) g c s (encode_arm bs h t ds first) (encode_arm bs h t ds second) in
        then_by (λ (z : Encoding). Settled z.wires) g x (encode_arm bs h t ds rest)
        (λ e. fork_settled (encode_arm bs h t ds first) (encode_arm bs h t ds second) (arm-settled first) (arm-settled second) (entry ds k.ifs) g c s o)
        (λ e. arm-settled rest (g + length x.nodes) x.wires (open_of x.wires.claim e))
