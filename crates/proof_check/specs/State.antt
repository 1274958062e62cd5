-- The state of a check, and what follows a command.
use Rattle.std.specs.Prelude.{ℕ, ◌+◌, List, [], ◌∷◌, ◌++◌, length, replicate, slice_set, Result, Err}
use Rattle.cnf.specs.Clause.{Clause, flatten}
use Rattle.proof_propagation.specs.Marks.{variable_of, false_mark}
use Rattle.proof_check.specs.Phase.{phase_after}
use Rattle.proof_check.specs.declared.Phase.{Phase}
use Rattle.proof_check.specs.declared.Refusal.{Refusal}
use Rattle.proof_check.specs.declared.Tally.{Tally}

-- the clauses so far; the step's literals; the marks; the step's phase; the steps closed and the hints read; the offset of the next command
pub record State : Type 0 where
  pub clauses : List Clause
  pub literals : Clause
  pub marks : List ℕ
  pub phase : Phase
  pub steps : ℕ
  pub hints : ℕ
  pub at : ℕ

-- what is fixed over a proof: how many variables there are, for how many words and starts there is room, and what is added to an offset to have its place
pub record Limits : Type 0 where
  pub variables : ℕ
  pub words : ℕ
  pub starts : ℕ
  pub base : ℕ

-- a further command, or the verdict
pub data Next : Type 0 where
  more : State → Next
  stop : Result Tally Refusal → Next

-- the proof is turned down
abbrev pub down : Refusal → Next
down refusal = stop (Err refusal)

-- the place of the next command
abbrev pub place_of : Limits → State → ℕ
place_of L s = L.base + s.at

-- every variable is undecided
abbrev pub undecided_all : Limits → List ℕ
undecided_all L = replicate (L.variables + 1) 0

-- the words that the clauses so far take
abbrev pub size : State → ℕ
size s = length (flatten s.clauses)

-- after a literal: it is one of the step's, and is taken as false
abbrev pub after_literal : State → ℕ → State
after_literal s l =
    record {
      clauses = s.clauses;
      literals = s.literals ++ (l ∷ []);
      marks = slice_set s.marks (variable_of l) (false_mark l);
      phase = Phase.Literals;
      steps = s.steps;
      hints = s.hints;
      at = s.at + 5;
    }

-- after a hint that leaves these marks and this phase
abbrev pub hinted : State → List ℕ → Phase → State
hinted s marks phase =
    record {
      clauses = s.clauses;
      literals = s.literals;
      marks = marks;
      phase = phase;
      steps = s.steps;
      hints = s.hints + 1;
      at = s.at + 5;
    }

-- after a close: the step's clause takes the next number, and the next step begins with every variable undecided
abbrev pub after_close : Limits → State → State
after_close L s =
    record {
      clauses = s.clauses ++ (s.literals ∷ []);
      literals = [];
      marks = undecided_all L;
      phase = phase_after (length s.literals);
      steps = s.steps + 1;
      hints = s.hints;
      at = s.at + 1;
    }

-- before the first command, at its offset
abbrev pub begin : Limits → List Clause → (from : ℕ) → State
begin L cs from = record { clauses = cs; literals = []; marks = undecided_all L; phase = Phase.Literals; steps = 0; hints = 0; at = from }
