-- How the code holds a state, and what its functions ask and tell each other.
use Rattle.std.specs.Prelude.{◌≡◌, ℕ, ◌+◌, ◌*◌, ◌<◌, ◌≤◌, true, false, List, length, replicate, Result, Ok, Err}
use Rattle.std.proofs.Math.Seq.{slice}
use Rattle.cnf.specs.Clause.{Clause, flatten}
use Rattle.proof_reader.specs.Inner.Literals.{literals_at}
use Rattle.proof_reader.specs.Inner.Runs.{Ones, RunsFor}
use Rattle.proof_propagation.specs.Marks.{undecided}
use Rattle.proof_propagation.specs.Stored.{start_of}
use Rattle.proof_propagation.specs.Inner.Clear.{clear}
use Rattle.proof_propagation.specs.Inner.Standing.{stored_of, HasMarks, Stands, InPart}
use Rattle.proof_propagation.specs.Inner.Store.{proof_of}
use Rattle.proof_propagation.specs.declared.stored.ClauseStore.{ClauseStore}
use Rattle.proof_check.specs.Phase.{going, in_literals, conflicted}
use Rattle.proof_check.specs.State.{State, Next, more, stop, down}
use Rattle.proof_check.specs.Check as Check
use Rattle.proof_check.specs.Lent.{limits_of}
use Rattle.proof_check.specs.Inner.Undo.{Clean}
use Rattle.proof_check.specs.declared.Phase.{Phase}
use Rattle.proof_check.specs.declared.Progress.{Progress}
use Rattle.proof_check.specs.declared.Refusal.{Refusal}
use Rattle.proof_check.specs.declared.Turn.{Turn}

-- the first `given` clauses stand in the words and the others, up to `count`, in the proof; in the words all would take `used`
pub record Store (words starts r : List ℕ) (given marks count used : ℕ) : Type 0 where
  pub entries : count ≤ length starts
  pub over : given ≤ count
  pub room : used ≤ length words
  pub each : (i : ℕ) → i < count → Stands words starts r given marks i
  pub sized : used ≡ length (flatten (stored_of words starts r given count))

-- the step's literals stand in the proof where the step begins
abbrev pub literals_of : List ℕ → Progress → List ℕ
literals_of r p = literals_at r p.begin p.literals

-- the state that is held
abbrev pub state_of : (words starts marks r : List ℕ) → Progress → State
state_of words starts marks r p =
    record {
      clauses = stored_of words starts r p.given p.count;
      literals = literals_of r p;
      marks = marks;
      phase = p.phase;
      steps = p.steps;
      hints = p.hints;
      at = p.at;
    }

-- the clauses that a store has so far
abbrev pub clauses_in : ClauseStore → (starts : List ℕ) → Progress → List Clause
clauses_in c starts p = stored_of c.words.now starts (proof_of c) p.given p.count

-- the state that is held over a store
abbrev pub state_in : ClauseStore → (starts marks : List ℕ) → Progress → State
state_in c starts marks p = state_of c.words.now starts marks (proof_of c) p

-- the rest of a store's proof, from a state on
abbrev pub finish_in : (base : ℕ) → ClauseStore → (starts marks : List ℕ) → State → Check.Outcome
finish_in base c starts marks s = Check.finish (limits_of base c.words.now starts marks) (proof_of c) s

-- where the trail had room for every literal that the step's hints made true, clearing these and the step's own leaves every variable undecided
unfoldable pub Trailed : (marks trail r : List ℕ) → Progress → Type 0
Trailed marks trail r p = p.decided ≤ length trail → clear (clear marks (slice 0 p.decided trail)) (literals_of r p) ≡ replicate (length marks) 0

-- what is known between two commands
pub record Ready (words starts marks trail r : List ℕ) (p : Progress) : Type 0 where
  pub store : Store words starts r p.given (length marks) p.count p.used
  pub fits : HasMarks (length marks) (literals_of r p)
  -- while no hint came, only literals did, and just their variables are decided
  pub among : in_literals p.phase ≡ true → (p.at ≡ p.begin + p.literals * 5) × Ones r p.begin p.literals
  pub fresh : in_literals p.phase ≡ true → (l : ℕ) → undecided marks l ≡ Check.fresh (literals_of r p) l
  -- after the first hint the literals are a run
  pub past : going p.phase ≡ true → in_literals p.phase ≡ false → RunsFor r p.begin p.literals
  -- after the conflict every variable is undecided
  pub undone : conflicted p.phase ≡ true → marks ≡ replicate (length marks) 0
  -- the step's commands, and the trail with its literals, each undo it
  pub clean : Clean r p.begin (stored_of words starts r p.given p.count) marks p.at
  pub trailed : Trailed marks trail r p
  pub marked : 1 ≤ length marks
  pub short : length words ≤ 16777216
  pub begun : p.begin ≤ p.at
  pub few : p.literals ≤ p.at
  pub noted : p.decided ≤ p.at
  pub numbered : p.count ≡ p.given + p.steps
  pub stepped : p.steps ≤ p.at
  pub hinted : p.hints ≤ p.at
  pub within : p.at ≤ length r
  pub limit : length r ≤ 16777216

-- what follows a command, as the definition has it
abbrev pub next_is : (words starts marks r : List ℕ) → Result Turn Refusal → Next
next_is words starts marks r (Ok (Turn.More p)) = more (state_of words starts marks r p)
next_is words starts marks r (Ok (Turn.Ended tally)) = stop (Ok tally)
next_is words starts marks r (Err refusal) = down refusal

-- what follows a command after which the proof goes on, where it is not turned down
abbrev pub turn_of : Result Progress Refusal → Result Turn Refusal
turn_of (Ok p) = Ok (Turn.More p)
turn_of (Err refusal) = Err refusal

-- of starts only the entries of clauses that were closed on the way from p to q were written, with offsets from the step of p on
pub record Onward (starts starts₁ : List ℕ) (p q : Progress) : Type 0 where
  pub given : q.given ≡ p.given
  pub more : p.count ≤ q.count
  pub begun : p.begin ≤ q.begin
  pub before : (i : ℕ) → i < p.count → start_of starts₁ i ≡ start_of starts i
  pub between : (i : ℕ) → p.count ≤ i → i < q.count → p.begin ≤ start_of starts₁ i
  pub after : (i : ℕ) → q.count ≤ i → start_of starts₁ i ≡ start_of starts i

-- of a proof in two parts: the step begins in the second, and each clause of a step that begins in the first ends there
pub record Parted (first starts : List ℕ) (p : Progress) : Type 0 where
  pub begun : length first ≤ p.begin
  pub each : (i : ℕ) → i < p.count → InPart first starts p.given i

-- a store holds the clauses so far: they stand there, of variables that have a mark, and each of a step lies in one slice
pub record Holds (c : ClauseStore) (starts : List ℕ) (marks : ℕ) (p : Progress) : Type 0 where
  pub store : Store c.words.now starts (proof_of c) p.given marks p.count p.used
  pub parted : Parted c.closed.now starts p

-- what is known of a store between two commands
abbrev pub ReadyIn : ClauseStore → (starts marks trail : List ℕ) → Progress → Type 0
ReadyIn c starts marks trail p = Ready c.words.now starts marks trail (proof_of c) p

-- the same, and that its proof is parted as the check stands
pub record Between (c : ClauseStore) (starts marks trail : List ℕ) (p : Progress) : Type 0 where
  pub ready : ReadyIn c starts marks trail p
  pub parted : Parted c.closed.now starts p

-- what is known between two commands but for the trail, which not every command needs
abbrev pub ReadyBut : ClauseStore → (starts marks : List ℕ) → Progress → Type 0
ReadyBut c starts marks p = (trail : List ℕ) × ReadyIn c starts marks trail p

-- a command that is gone on from leaves this, further on in the proof; a verdict leaves the buffers as they were
abbrev pub Kept : (words starts marks trail r : List ℕ) → Progress → (starts₁ marks₁ trail₁ : List ℕ) → Result Turn Refusal → Type 0
Kept words starts marks trail r p starts₁ marks₁ trail₁ (Ok (Turn.More q)) = Ready words starts₁ marks₁ trail₁ r q × (p.at < q.at) × Onward starts starts₁ p q
Kept words starts marks trail r p starts₁ marks₁ trail₁ (Ok (Turn.Ended tally)) = (starts₁ ≡ starts) × (marks₁ ≡ marks) × (trail₁ ≡ trail)
Kept words starts marks trail r p starts₁ marks₁ trail₁ (Err refusal) = (starts₁ ≡ starts) × (marks₁ ≡ marks) × (trail₁ ≡ trail)

-- what one command did: it is what the definition says
pub record Did (words starts marks trail r : List ℕ) (p : Progress) (starts₁ marks₁ trail₁ : List ℕ) (t : Result Turn Refusal) (n : Next) : Type 0 where
  pub same : next_is words starts₁ marks₁ r t ≡ n
  pub kept : Kept words starts marks trail r p starts₁ marks₁ trail₁ t

-- what the next command of a store's proof did: it is what the definition says
abbrev pub Turned : (base : ℕ) → ClauseStore → (starts marks trail : List ℕ) → Progress → (starts₁ marks₁ trail₁ : List ℕ) → Result Turn Refusal → Type 0
Turned base c starts marks trail p starts₁ marks₁ trail₁ t =
    Did c.words.now starts marks trail (proof_of c) p starts₁ marks₁ trail₁ t (Check.step (limits_of base c.words.now starts marks) (proof_of c) (state_in c starts marks p))

-- after a literal
abbrev pub with_literal : Progress → Progress
with_literal p =
    record {
      at = p.at + 5;
      begin = p.begin;
      given = p.given;
      used = p.used;
      count = p.count;
      literals = p.literals + 1;
      decided = p.decided;
      phase = Phase.Literals;
      steps = p.steps;
      hints = p.hints;
    }

-- after a hint
abbrev pub with_hint : Progress → Phase → (decided : ℕ) → Progress
with_hint p phase decided =
    record {
      at = p.at + 5;
      begin = p.begin;
      given = p.given;
      used = p.used;
      count = p.count;
      literals = p.literals;
      decided = decided;
      phase = phase;
      steps = p.steps;
      hints = p.hints + 1;
    }

-- after a close
abbrev pub with_close : Progress → Phase → Progress
with_close p phase =
    record {
      at = p.at + 1;
      begin = p.at + 1;
      given = p.given;
      used = p.used + 1 + p.literals;
      count = p.count + 1;
      literals = 0;
      decided = 0;
      phase = phase;
      steps = p.steps + 1;
      hints = p.hints;
    }
