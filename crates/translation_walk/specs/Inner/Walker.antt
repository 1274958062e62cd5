-- What the walkers over the bytes of an accepted routine tell: of whatever arm stands there.
use Rattle.routine_command.specs.declared.Mark.{Mark}
use Rattle.std.specs.Prelude.{ℕ, ◌+◌, ◌^◌, ◌≡◌, List, false, length, None}
use Rattle.slices.specs.Bytes.{entry}
use Rattle.routine_faults.specs.Step.{counts_after_if}
use Rattle.routine_faults.specs.Inputs.{given}
use Rattle.routine.specs.Routine.{Arm}
use Rattle.routine.specs.Decode.{routine, decode, no_counts}
use Rattle.routine.specs.Inner.Stands.{Stands, SomeArm, SomeIf}
use Rattle.routine_header.specs.declared.Header.{Header}
use Rattle.routine_command.specs.declared.Condition.{Condition}
use Rattle.routine_faults.specs.declared.Counts.{Counts}
use Rattle.cnf.specs.Inner.Append.{Fits, Written}
use Rattle.cnf.specs.declared.Store.{Store}
use Rattle.netlist.specs.Inner.Emit.{Emitted, Ready}
use Rattle.netlist.specs.declared.Net.{Net}
use Rattle.translation_command.specs.Command.{Encoding}
use Rattle.translation_state.specs.Wires.{Wires, all_places, is_made}
use Rattle.translation_state.specs.Inner.Reach.{wires_of, reaching}
use Rattle.translation_meaning.specs.Walk.{encode_if, encode_arm}
use Rattle.translation_meaning.specs.Translation.{given_nodes, given_lits, translation_of, clauses_of_all, translation_size}
use Rattle.lead.specs.declared.Target.{Target}
use Rattle.translation_walk.specs.declared.Walk.{Walk}
use Rattle.translation_if.specs.declared.IfBegun.{IfBegun}
use Rattle.translation_meaning.specs.declared.Size.{Size}

-- the wires where a walk is, the lent literals being lits
abbrev pub wires_at : (lits : List ℕ) → Walk → Wires
wires_at lits p = wires_of lits p.reach

-- the walk at the first command: arrival is 2, and there is no claim
abbrev pub beginning : (next : ℕ) → Net → Walk
beginning next n = record { next = next; counts = no_counts; net = n; reach = record { arrival = 2; claim = None } }

-- the walk at the first arm of the if where p is
abbrev pub in_first : (next : ℕ) → (p : Walk) → IfBegun → Walk
in_first next p b = record { next = next; counts = counts_after_if p.counts; net = b.net; reach = reaching p.reach b.first }

-- the walk at the else, after the first arm x
abbrev pub in_else : (p : Walk) → IfBegun → (x : Walk) → Walk
in_else p b x = record { next = x.next; counts = x.counts; net = x.net; reach = reaching p.reach b.second }

-- the buffers w and u became w₁ and u₁ by the encoding x; where no claim was made the literals became l₁, and the walk is at `end` with the counts k
pub record WalksTo (w u : List ℕ) (n : Net) (x : Encoding) (end : ℕ) (k : Counts) (w₁ u₁ l₁ : List ℕ) (r : Walk) : Type 0 where
  pub emitted : Emitted w u n x.nodes w₁ u₁ r.net
  pub claim : r.reach.claim ≡ x.wires.claim
  pub wires : is_made r.reach.claim ≡ false → wires_at l₁ r ≡ x.wires
  pub next : is_made r.reach.claim ≡ false → r.next ≡ end
  pub counts : is_made r.reach.claim ≡ false → r.counts ≡ k

-- there is room for the encoding, and half of all variables to spare
abbrev pub Roomy : Net → Encoding → Type 0
Roomy n x = Ready n (2 ^ 25 + length x.nodes)

-- an arm, translated from where the walk p is, with the literals l
pub record ArmEncoded (bs : List ℕ) (h : Header) (t : Target) (ds : List ℕ) (depth : ℕ) (close : Mark) (w u l : List ℕ) (p : Walk) (w₁ u₁ l₁ : List ℕ) (r : Walk) : Type 0 where
  pub tells : (a : Arm) (end : ℕ) (k₁ : Counts) → Stands bs h depth close p.next p.counts a end k₁
      → WalksTo w u p.net (encode_arm bs h t ds a p.net.next (wires_at l p)) end k₁ w₁ u₁ l₁ r

-- some arm stands there, there is room for it, and the literals have their places
pub record ArmReady (bs : List ℕ) (h : Header) (t : Target) (ds : List ℕ) (depth : ℕ) (close : Mark) (l : List ℕ) (p : Walk) : Type 0 where
  pub some : SomeArm bs h depth close p.next p.counts
  pub room : Roomy p.net (encode_arm bs h t ds some.arm p.net.next (wires_at l p))
  pub places : length l ≡ all_places h

-- an if with these arms, from where the walk p is
abbrev pub if_of : List ℕ → Header → Target → (ds : List ℕ) → Condition → (l : List ℕ) → Walk → (first second : Arm) → Encoding
if_of bs h t ds c l p first second =
    encode_if bs h (entry ds p.counts.ifs) p.net.next c (wires_at l p) (encode_arm bs h t ds first) (encode_arm bs h t ds second)

-- an if, translated from where the walk p is, with the literals l
pub record IfEncoded (bs : List ℕ) (h : Header) (t : Target) (ds : List ℕ) (depth : ℕ) (c : Condition) (w u l : List ℕ) (p : Walk) (w₁ u₁ l₁ : List ℕ) (r : Walk) : Type 0 where
  pub tells : (first : Arm) (else : ℕ) (k₁ : Counts) (second : Arm) (end : ℕ) (k₂ : Counts)
      → Stands bs h (depth + 1) Mark.Else (p.next + 4) (counts_after_if p.counts) first else k₁ → Stands bs h (depth + 1) Mark.EndIf else k₁ second end k₂
      → WalksTo w u p.net (if_of bs h t ds c l p first second) end k₂ w₁ u₁ l₁ r

-- two arms stand there, there is room for their if, and the literals have their places
pub record IfReady (bs : List ℕ) (h : Header) (t : Target) (ds : List ℕ) (depth : ℕ) (c : Condition) (l : List ℕ) (p : Walk) : Type 0 where
  pub some : SomeIf bs h depth p.next (counts_after_if p.counts)
  pub room : Roomy p.net (if_of bs h t ds c l p some.first some.second)
  pub places : length l ≡ all_places h

-- the bits of the variables take no clauses, so that no buffer changes; the literals became l₁
pub record Begun (bs : List ℕ) (h : Header) (n : Net) (l₁ : List ℕ) (r : Net) : Type 0 where
  pub emitted : (w u : List ℕ) → Emitted w u n (given_nodes bs (given h)) w u r
  pub lits : l₁ ≡ given_lits bs (all_places h) (given h)

-- nothing is stored yet
abbrev pub no_store : Store
no_store = record { words = 0; clauses = 0 }

-- the whole translation of whatever was decoded: its size, and what it leaves in the buffers where they hold it
pub record ClaimEncoded (bs : List ℕ) (h : Header) (t : Target) (ds : List ℕ) (w u w₁ u₁ : List ℕ) (r : Size) : Type 0 where
  pub size : (a : Arm) (k : Counts) → decode bs ≡ routine h a k → r ≡ translation_size (translation_of bs t ds h a)
  pub written : (a : Arm) (k : Counts) → decode bs ≡ routine h a k → Fits (length w) (length u) no_store (clauses_of_all (translation_of bs t ds h a))
      → Written w u 0 0 (clauses_of_all (translation_of bs t ds h a)) w₁ u₁
  pub words_long : length w₁ ≡ length w
  pub starts_long : length u₁ ≡ length u
