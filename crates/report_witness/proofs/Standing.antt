-- What a witness that stands has. Assumes nothing.
use Rattle.std.specs.Prelude.{Result, Ok, Err}
use mathlib.Core.Path.{◌≡◌, refl, ap}
use mathlib.Core.List.{List}
use mathlib.Core.Bool.{Bool, true, false, cond}
use Prim.Native.Nat.{ℕ}
use native.Mathlib.Omega.{arith}
use Rattle.routine_header.specs.Header.{array_size}
use Rattle.routine_header.specs.declared.Header.{Header}
use Rattle.routine_faults.specs.declared.Counts.{Counts}
use Rattle.routine.specs.Routine.{Arm}
use Rattle.run_state.specs.Side.{is_on}
use Rattle.run_state.specs.State.{lies}
use Rattle.run_inputs.specs.Inputs.{words_fit}
use Rattle.run_inputs.specs.declared.TooGreat.{TooGreat}
use Rattle.run_state.specs.declared.Course.{Course}
use Rattle.run_state.specs.declared.Landing.{Landing}
use Rattle.lead.specs.declared.Target.{Target}
use Rattle.report_witness.specs.Lead.{inputs_of}
use Rattle.report_witness.specs.Witness.{by_course, by_words, witness_course, witness_of}
use Rattle.report_witness.specs.declared.Lead.{Lead}
use Rattle.report_witness.specs.declared.Refusal.{Refusal}

-- its input words, and its course
pub record Stood (bs : List ℕ) (l : Lead) (h : Header) (a : Arm) (k : Counts) (landing : Landing) : Type 0 where
  pub fits : words_fit bs (inputs_of l h k) h a ≡ Ok tt
  pub arrived : witness_course bs l h a k ≡ Course.Arrived landing

module _ (bs : List ℕ) (h : Header) (t : Target) (landing : Landing) where
  -- 15
  by_side : (b : Bool) (there : Landing) → cond b (Ok there) (Err (Refusal.OffSide t.access)) ≡ Ok landing → Course.Arrived there ≡ Course.Arrived landing
  by_side true there e = let q : there ≡ landing = cc in ap Course.Arrived q
  by_side false there e = let z : ◌≡◌ {A = ℕ} 0 1 = cc in absurd (omega arith)

  -- 13 and 14
  by_course_lem : (x : Course) → by_course bs h t x ≡ Ok landing → x ≡ Course.Arrived landing
  unfolding by_course
  by_course_lem (Course.Astray number) e = let z : ◌≡◌ {A = ℕ} 0 1 = cc in absurd (omega arith)
  by_course_lem Course.Passing e = let z : ◌≡◌ {A = ℕ} 0 1 = cc in absurd (omega arith)
  by_course_lem (Course.Arrived there) e = by_side (is_on t.side (lies (array_size bs h there.array) there.index)) there e

  -- 10
  by_words_lem : (x : Course) (w : Result (Unit {0}) TooGreat) → by_words bs h t x w ≡ Ok landing → (w ≡ Ok tt) × (x ≡ Course.Arrived landing)
  by_words_lem x (Ok tt) e = (refl, by_course_lem x e)
  by_words_lem x (Err word) e = let z : ◌≡◌ {A = ℕ} 0 1 = cc in absurd (omega arith)

pub stood : (bs : List ℕ) (l : Lead) (h : Header) (a : Arm) (k : Counts) (landing : Landing) → witness_of bs l h a k ≡ Ok landing → Stood bs l h a k landing
unfolding witness_of
stood bs l h a k landing e =
    let p = by_words_lem bs h l.target landing (witness_course bs l h a k) (words_fit bs (inputs_of l h k) h a) e in
    record { fits = p.0; arrived = p.1 }
