-- The state of a run, and how it moves on by one command.
use Rattle.routine_command.specs.declared.Conversion.{Conversion}
use Rattle.routine_command.specs.declared.Operation.{Operation}
use Rattle.std.specs.Prelude.{ℕ, zero, suc, List, Bool, cond, set, replicate, leb, Option, None, Some}
use Rattle.slices.specs.Bytes.{entry}
use Rattle.bitvec.specs.Word.{add, subtract, multiply, quotient, remainder, cut, zero_extend}
use Rattle.bitvec.specs.Signed.{signed, sign_extend}
use Rattle.bitvec.specs.Relation.{relates}
use Rattle.bitvec.specs.declared.Whole.{Whole}
use Rattle.routine_header.specs.Header.{width, array_size}
use Rattle.routine_command.specs.Command.{touches}
use Rattle.routine_faults.specs.Step.{accesses}
use Rattle.routine_faults.specs.Inputs.{input_number}
use Rattle.routine_header.specs.declared.Header.{Header}
use Rattle.routine_command.specs.declared.Condition.{Condition}
use Rattle.routine_faults.specs.declared.Counts.{Counts}
use Rattle.routine_command.specs.declared.Simple.{Simple}
use Rattle.routine_command.specs.declared.Touch.{Touch}
use Rattle.run_state.specs.declared.Side.{Side}
use Rattle.run_state.specs.declared.Side.TheVariants.{Below, Above}
use Rattle.run_state.specs.declared.Stop.{Stop}
use Rattle.run_state.specs.declared.State.{State}

-- the first n entries of xs, laid over those of ys
unfoldable pub over : (n : ℕ) → (xs ys : List ℕ) → List ℕ
over zero xs ys = ys
over (suc n) xs ys = set (over n xs ys) n (entry xs n)

-- the beginning: the n variables have their input words, the entries behind them are no variable's, and no if was come to
unfoldable pub initial : (ins : List ℕ) → (n : ℕ) → State
initial ins n = record { values = over n ins (replicate 32 0); trail = replicate 32 2; stop = None }

-- the value of a variable
abbrev pub value : State → ℕ → ℕ
value s v = entry s.values v

-- the state with another value for a variable
abbrev pub assigned : State → ℕ → ℕ → State
assigned s v x = record { values = set s.values v x; trail = s.trail; stop = s.stop }

-- the state after an arm was taken at an if: 0 first arm, 1 else
abbrev pub with_arm : State → (number arm : ℕ) → State
with_arm s number arm = record { values = s.values; trail = set s.trail number arm; stop = s.stop }

-- the access that stopped a run
abbrev pub stop_at : (access : ℕ) → Whole → Side → Stop
stop_at access index side = record { access = access; index = index; side = side }

-- the state that an access stopped
abbrev pub stop : State → (access : ℕ) → Whole → Side → State
stop s access index side = record { values = s.values; trail = s.trail; stop = Some (stop_at access index side) }

-- a copy, cut, extended by zeros or by the sign: from w bits to v bits
unfoldable pub converted : Conversion → (v w a : ℕ) → ℕ
converted Conversion.Copy v w a = a
converted Conversion.Cut v w a = cut v a
converted Conversion.ZeroExtend v w a = zero_extend a
converted Conversion.SignExtend v w a = sign_extend v w a

-- the sum, the difference, the product, the quotient or the remainder
unfoldable pub computed : Operation → (w a b : ℕ) → ℕ
computed Operation.Add w a b = add w a b
computed Operation.Subtract w a b = subtract w a b
computed Operation.Multiply w a b = multiply w a b
computed Operation.Quotient w a b = quotient w a b
computed Operation.Remainder w a b = remainder w a b

-- the condition of an if holds
unfoldable pub holds : List ℕ → Condition → State → Bool
holds bs c s = relates c.relation (width bs c.s) (value s c.s) (value s c.t)

-- an index as a whole number: the two's complement number of its variable's width
unfoldable pub index_of : List ℕ → State → (i : ℕ) → Whole
index_of bs s i = signed (width bs i) (value s i)

-- the side on which an index lies outside: below 0, or at or above the size; none where it lies inside
unfoldable pub lies : (size : ℕ) → Whole → Option Side
lies size (Whole.Negative n) = Some Below
lies size (Whole.Natural n) = cond (leb size n) (Some Above) None

-- an access outside stops the run, and one inside leaves the state `next`
abbrev pub arrive : State → (access : ℕ) → Whole → Option Side → (next : State) → State
arrive s access index None next = next
arrive s access index (Some side) next = stop s access index side

-- an access, of the number that the counts before it give
abbrev pub accessed : List ℕ → Header → (array i : ℕ) → Counts → State → (next : State) → State
accessed bs h array i k s next = arrive s (accesses k) (index_of bs s i) (lies (array_size bs h array) (index_of bs s i)) next

-- an access outside stops the run; whatever else leaves the state `next`
abbrev pub accessed_by : List ℕ → Header → Touch → Counts → State → (next : State) → State
accessed_by bs h Touch.Nothing k s next = next
accessed_by bs h (Touch.Reads d array i) k s next = accessed bs h array i k s next
accessed_by bs h (Touch.Writes array i) k s next = accessed bs h array i k s next

-- the values after a command that does not stop the run: a read gives the input word of its own number, and a write changes none
unfoldable pub moved : (bs ins : List ℕ) → Header → Simple Conversion Operation → Counts → State → State
moved bs ins h (Simple.Set d c) k s = assigned s d c
moved bs ins h (Simple.Convert op d a) k s = assigned s d (converted op (width bs d) (width bs a) (value s a))
moved bs ins h (Simple.Compute op d a b) k s = assigned s d (computed op (width bs d) (value s a) (value s b))
moved bs ins h (Simple.Read d array i) k s = assigned s d (entry ins (input_number h k))
moved bs ins h (Simple.Write array i a) k s = s

-- the state moves on by one command
unfoldable pub executed : (bs ins : List ℕ) → Header → Simple Conversion Operation → Counts → State → State
unfolding moved
executed bs ins h c k s = accessed_by bs h (touches c) k s (moved bs ins h c k s)
