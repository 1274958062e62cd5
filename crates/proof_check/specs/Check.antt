-- The checking of a proof, as document 01 has it under "The proof" and in rows 17 to 25.
use Rattle.std.specs.Prelude.{ℕ, zero, suc, ◌+◌, ◌-◌, Bool, true, not, ◌&&◌, List, [], ◌∷◌, length, ◌==◌, nat_le, nat_lt, slice_index_or, slice_set, Result, Ok, Err}
use Rattle.cnf.specs.Clause.{Clause}
use Rattle.proof_propagation.specs.Marks.{variable_of, true_mark}
use Rattle.proof_propagation.specs.Hint.{hint_of}
use Rattle.proof_propagation.specs.declared.Hint.{Hint}
use Rattle.proof_reader.specs.Command.{command_at}
use Rattle.proof_check.specs.Phase.{going, in_literals, conflicted}
use Rattle.slices.specs.Guard.{unless}
use Rattle.proof_check.specs.State.{State, Limits, Next, more, stop, down, place_of, undecided_all, size, after_literal, hinted, after_close, begin}
use Rattle.proof_reader.specs.declared.Command.{Command}
use Rattle.proof_check.specs.declared.Phase.{Phase}
use Rattle.proof_check.specs.declared.Refusal.{Refusal}
use Rattle.proof_check.specs.declared.Tally.{Tally}

-- a literal of one of n variables
abbrev pub of_variable : (n l : ℕ) → Bool
of_variable n l = nat_le 2 l && nat_le (variable_of l) n

-- neither the literal nor its opposite was given: none that was is of its variable
unfoldable pub fresh : Clause → ℕ → Bool
fresh [] l = true
fresh (k ∷ ks) l = not (variable_of k == variable_of l) && fresh ks l

-- a literal: 23, 18, and 25 where there is no word for the step's count and its literals with this one
unfoldable pub on_literal : Limits → State → ℕ → Next
unfolding fresh
on_literal L s l =
    unless (going s.phase) (down (Refusal.OutOfPlace (place_of L s)))
    (unless (in_literals s.phase) (down (Refusal.Literal (place_of L s)))
    (unless (of_variable L.variables l) (down (Refusal.Literal (place_of L s)))
    (unless (fresh s.literals l) (down (Refusal.Literal (place_of L s)))
    (unless (nat_le (size s + 1 + length s.literals + 1) L.words) (down (Refusal.Full (place_of L s)))
    (more (after_literal s l))))))

-- what a hint's clause says: a conflict, after which the step reads no mark, so that every variable is undecided again; a literal that becomes true; or 20
unfoldable pub after_hint : Limits → State → Hint → Next
after_hint L s Hint.Conflict = more (hinted s (undecided_all L) Phase.Conflict)
after_hint L s (Hint.Unit l) = more (hinted s (slice_set s.marks (variable_of l) (true_mark l)) Phase.Hints)
after_hint L s Hint.Neither = down (Refusal.Neither (place_of L s))

-- a hint: 23, 19, 22, 20
unfoldable pub on_hint : Limits → State → ℕ → Next
unfolding after_hint
on_hint L s h =
    unless (going s.phase) (down (Refusal.OutOfPlace (place_of L s)))
    (unless (nat_lt h (length s.clauses)) (down (Refusal.NoClause (place_of L s)))
    (unless (not (conflicted s.phase)) (down (Refusal.AfterConflict (place_of L s)))
    (after_hint L s (hint_of s.marks (slice_index_or s.clauses h [])))))

-- a close: 23, 21, and 25 where there is no word for the count, or no entry in the starts
unfoldable pub on_close : Limits → State → Next
on_close L s =
    unless (going s.phase) (down (Refusal.OutOfPlace (place_of L s)))
    (unless (conflicted s.phase) (down (Refusal.NoConflict (place_of L s)))
    (unless (nat_le (size s + 1 + length s.literals) L.words) (down (Refusal.Full (place_of L s)))
    (unless (nat_lt (length s.clauses) L.starts) (down (Refusal.Full (place_of L s)))
    (more (after_close L s)))))

-- the end: 23 without the empty clause, 24 where bytes follow
unfoldable pub on_end : Limits → List ℕ → State → Next
on_end L r s =
    unless (not (going s.phase)) (down (Refusal.OutOfPlace (place_of L s)))
    (unless (nat_le (length r) (s.at + 1)) (down (Refusal.Trailing (place_of L s + 1)))
    (stop (Ok (record { steps = s.steps; hints = s.hints }))))

-- one command: 17, then by its kind
unfoldable pub obey : Limits → List ℕ → State → Command → Next
unfolding on_literal on_hint on_close on_end
obey L r s (Command.Literal l) = on_literal L s l
obey L r s (Command.Hint h) = on_hint L s h
obey L r s Command.Close = on_close L s
obey L r s Command.End = on_end L r s
obey L r s Command.Unreadable = down (Refusal.Unreadable (place_of L s))

-- the command where the state stands
unfoldable pub step : Limits → List ℕ → State → Next
unfolding obey
step L r s = obey L r s (command_at r s.at)

-- the verdict, and the state in which it was given
pub record Outcome : Type 0 where
  pub verdict : Result Tally Refusal
  pub last : State

-- what follows a command: the rest of the proof, or the verdict
abbrev pub follow : (State → Outcome) → State → Next → Outcome
follow rest s (more t) = rest t
follow rest s (stop v) = record { verdict = v; last = s }

-- so many commands at most, one after another
unfoldable pub run : ℕ → Limits → List ℕ → State → Outcome
unfolding step
run zero L r s = record { verdict = Err (Refusal.Unreadable (place_of L s)); last = s }
run (suc n) L r s = follow (λ t. run n L r t) s (step L r s)

-- the rest of a proof. Each command takes a byte at least, so one more of them than bytes are left is enough: a larger number gives the same
unfoldable pub finish : Limits → List ℕ → State → Outcome
unfolding run
finish L r s = run (suc (length r - s.at)) L r s

-- a proof that begins at an offset of the bytes, over these clauses
unfoldable pub check_proof : List Clause → Limits → List ℕ → (from : ℕ) → Outcome
unfolding finish
check_proof cs L r from = finish L r (begin L cs from)
