-- The bench's reports of document 01, their proof part: the clauses {2}, {2}, {3} of one variable. Assumes nothing.
use Rattle.std.proofs.Common.{◌≡◌, ℕ, List, [], ◌∷◌, refl, Result, Ok, Err}
use Rattle.slices.specs.Bytes.{word}
use Rattle.cnf.specs.Clause.{Clause}
use Rattle.proof_propagation.specs.Hint.{not_false, all_same, of_left, hint_of}
use Rattle.proof_reader.specs.Command.{command_at}
use Rattle.slices.specs.Guard.{unless}
use Rattle.proof_check.specs.State.{Limits}
use Rattle.proof_check.specs.Check.{fresh, on_literal, after_hint, on_hint, on_close, on_end, obey, step, run, finish, check_proof}
use Rattle.proof_check.specs.declared.Refusal.{Refusal}
use Rattle.proof_check.specs.declared.Tally.{Tally}

abbrev clauses : List Clause
clauses = (2 ∷ []) ∷ (2 ∷ []) ∷ (3 ∷ []) ∷ []

abbrev room : Limits
room = record { variables = 1; words = 16384; starts = 16384; base = 0 }

-- the proof begins at offset 2
abbrev verdict : List ℕ → Result Tally Refusal
verdict r = (check_proof clauses room r 2).verdict

good : verdict (0 ∷ 0 ∷ 2 ∷ 0 ∷ 0 ∷ 0 ∷ 0 ∷ 2 ∷ 2 ∷ 0 ∷ 0 ∷ 0 ∷ 3 ∷ 0 ∷ []) ≡ Ok (record { steps = 1; hints = 2 })
unfolding check_proof finish run step obey on_literal on_hint on_close on_end after_hint hint_of of_left all_same not_false word command_at fresh unless
good = refl

hint_1 : verdict (0 ∷ 0 ∷ 2 ∷ 0 ∷ 0 ∷ 0 ∷ 0 ∷ 2 ∷ 1 ∷ 0 ∷ 0 ∷ 0 ∷ 3 ∷ 0 ∷ []) ≡ Err (Refusal.Neither 7)
unfolding check_proof finish run step obey on_literal on_hint on_close on_end after_hint hint_of of_left all_same not_false word command_at fresh unless
hint_1 = refl

hint_after : verdict (0 ∷ 0 ∷ 2 ∷ 0 ∷ 0 ∷ 0 ∷ 0 ∷ 2 ∷ 2 ∷ 0 ∷ 0 ∷ 0 ∷ 2 ∷ 1 ∷ 0 ∷ 0 ∷ 0 ∷ 3 ∷ 0 ∷ []) ≡ Err (Refusal.AfterConflict 12)
unfolding check_proof finish run step obey on_literal on_hint on_close on_end after_hint hint_of of_left all_same not_false word command_at fresh unless
hint_after = refl

cut : verdict (0 ∷ 0 ∷ 2 ∷ 0 ∷ 0 ∷ 0 ∷ 0 ∷ 2 ∷ 2 ∷ 0 ∷ 0 ∷ 0 ∷ 3 ∷ []) ≡ Err (Refusal.Unreadable 13)
unfolding check_proof finish run step obey on_literal on_hint on_close on_end after_hint hint_of of_left all_same not_false word command_at fresh unless
cut = refl
