-- The witness: the words of its input list fit, and its run goes the way of the lead, comes to the named access, and has its index there on the side.
use Rattle.std.specs.Prelude.{ℕ, List, Result, Ok, Err}
use Rattle.slices.specs.Guard.{unless}
use Rattle.routine_header.specs.Header.{array_size}
use Rattle.routine_header.specs.declared.Header.{Header}
use Rattle.routine_faults.specs.declared.Counts.{Counts}
use Rattle.routine.specs.Routine.{Arm}
use Rattle.routine.specs.Access.{ifs_before}
use Rattle.run_state.specs.Side.{is_on}
use Rattle.run_state.specs.State.{lies}
use Rattle.run_inputs.specs.Inputs.{words_fit}
use Rattle.run_inputs.specs.declared.TooGreat.{TooGreat}
use Rattle.run_state.specs.Run.{run_of}
use Rattle.run_state.specs.Course.{course}
use Rattle.run_state.specs.declared.Course.{Course}
use Rattle.run_state.specs.declared.Landing.{Landing}
use Rattle.lead.specs.declared.Target.{Target}
use Rattle.report_witness.specs.Lead.{decisions_of, inputs_of}
use Rattle.report_witness.specs.declared.Lead.{Lead}
use Rattle.report_witness.specs.declared.Refusal.{Refusal}

-- 13 or 14, then 15
unfoldable pub by_course : List ℕ → Header → Target → Course → Result Landing Refusal
unfolding unless
by_course bs h t (Course.Astray number) = Err (Refusal.Astray number)
by_course bs h t Course.Passing = Err (Refusal.Missed t.access)
by_course bs h t (Course.Arrived landing) =
    unless (is_on t.side (lies (array_size bs h landing.array) landing.index)) (Err (Refusal.OffSide t.access)) (Ok landing)

-- 10, then the course
abbrev pub by_words : List ℕ → Header → Target → Course → Result (Unit {0}) TooGreat → Result Landing Refusal
by_words bs h t x (Ok fit) = by_course bs h t x
by_words bs h t x (Err word) = Err (Refusal.Input word.0)

-- the course of the witness's run
abbrev pub witness_course : List ℕ → Lead → Header → Arm → Counts → Course
witness_course bs l h a k = course (decisions_of l k) l.target.access (ifs_before a l.target.access) (run_of bs (inputs_of l h k) h a).events

-- where the witness in a lead lands at the named access, or why it is turned down
unfoldable pub witness_of : List ℕ → Lead → Header → Arm → Counts → Result Landing Refusal
witness_of bs l h a k = by_words bs h l.target (witness_course bs l h a k) (words_fit bs (inputs_of l h k) h a)
