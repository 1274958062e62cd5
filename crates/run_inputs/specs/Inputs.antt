-- The input list: one word for each variable, parameter or not, then one for each read in text order, each below 2 to the width of its variable.
use Rattle.std.specs.Prelude.{ℕ, zero, suc, ◌+◌, ◌^◌, List, [], ◌∷◌, ◌++◌, length, ltb, eqb, Result, Ok, Err}
use Rattle.slices.specs.Bytes.{entry}
use Rattle.slices.specs.Guard.{unless}
use Rattle.routine_header.specs.Header.{width}
use Rattle.routine.specs.Routine.{Arm, text_of}
use Rattle.routine_header.specs.declared.Header.{Header}
use Rattle.routine_faults.specs.declared.Counts.{Counts}
use Rattle.routine_faults.specs.Inputs.{given, input_count}
use Rattle.routine_command.specs.Command.{touches}
use Rattle.routine_command.specs.declared.Conversion.{Conversion}
use Rattle.routine_command.specs.declared.Operation.{Operation}
use Rattle.routine_command.specs.declared.Simple.{Simple}
use Rattle.routine_command.specs.declared.Touch.{Touch}
use Rattle.run_inputs.specs.declared.TooGreat.{TooGreat}
use Rattle.run_inputs.specs.declared.Refusal.{Refusal}

-- n variables from v on
unfoldable pub variables_from : (v n : ℕ) → List ℕ
variables_from v zero = []
variables_from v (suc n) = v ∷ variables_from (v + 1) n

-- the variable that a read writes, before the others
abbrev pub read_first : Touch → List ℕ → List ℕ
read_first Touch.Nothing vs = vs
read_first (Touch.Reads d array i) vs = d ∷ vs
read_first (Touch.Writes array i) vs = vs

-- the variables that the reads among the commands write
unfoldable pub read_variables : List (Simple Conversion Operation) → List ℕ
read_variables [] = []
read_variables (c ∷ cs) = read_first (touches c) (read_variables cs)

-- which variable each input word is for: all variables in order, then the one that each read writes, in text order
abbrev pub input_variables : Header → Arm → List ℕ
input_variables h a = variables_from 0 (given h) ++ read_variables (text_of a)

-- the word of this number is too great for its variable
abbrev pub too_great : ℕ → Result (Unit {0}) TooGreat
too_great n = Err (record { 0 = n })

-- the first word, from number n on, that is too great for its variable
unfoldable pub first_great : (bs ins : List ℕ) (n : ℕ) → List ℕ → Result (Unit {0}) TooGreat
unfolding unless
first_great bs ins n [] = Ok tt
first_great bs ins n (v ∷ vs) = unless (ltb (entry ins n) (2 ^ width bs v)) (too_great n) (first_great bs ins (n + 1) vs)

-- 10: whether each word of an input list fits its variable
unfoldable pub words_fit : (bs ins : List ℕ) → Header → Arm → Result (Unit {0}) TooGreat
words_fit bs ins h a = first_great bs ins 0 (input_variables h a)

-- what is said of an input list that is not miscounted
abbrev pub by_words : Result (Unit {0}) TooGreat → Result (Unit {0}) Refusal
by_words (Ok fit) = Ok tt
by_words (Err word) = Err (Refusal.TooGreat word.0)

-- what is said of an input list: 9, then 10. It is accepted when it passes both.
unfoldable pub listed : (bs ins : List ℕ) → Header → Arm → Counts → Result (Unit {0}) Refusal
unfolding unless
listed bs ins h a k = unless (eqb (length ins) (input_count h k)) (Err Refusal.Miscounted) (by_words (words_fit bs ins h a))
