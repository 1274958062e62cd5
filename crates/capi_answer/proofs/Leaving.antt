-- What a call leaves, from what its layer and the filling of the answer said. Assumes nothing.
use Rattle.std.specs.Prelude.{Bool, Option, Result}
use mathlib.Core.Path.{◌≡◌, ap, subst}
use mathlib.Core.List.{List, [], ◌∷◌}
use mathlib.Core.Bool.{true, false}
use Prim.Native.Nat.{ℕ}
use lib.ListN.{length}
use lib.Dec.{ltb}
use Rattle.routine.specs.Decode.{checked}
use Rattle.report.specs.Alike.{alike}
use Rattle.run.specs.Answer.{RunAnswer, RunAnswers}
use Rattle.lead.specs.Lead.{target_of}
use Rattle.translation_space.specs.Space.{space_answer}
use Rattle.translation.specs.Answer.{TranslationAnswer, TranslationAnswers}
use Rattle.proof.specs.Checking.{Checking, Checks}
use Rattle.report.specs.Zeroed.{Judges}
use Rattle.routine.specs.declared.Accepted.{Accepted}
use Rattle.routine.specs.declared.Refusal as routine
use Rattle.run_state.specs.declared.Stop.{Stop}
use Rattle.run.specs.declared.Refusal as run
use Rattle.lead.specs.declared.Refusal as lead
use Rattle.translation_meaning.specs.declared.Size.{Size}
use Rattle.translation.specs.declared.Refusal as translation
use Rattle.proof_check.specs.declared.Tally.{Tally}
use Rattle.proof.specs.declared.Refusal as proof
use Rattle.report_witness.specs.declared.Refusal as witness
use Rattle.report_judgement.specs.declared.Finding.{Finding}
use Rattle.report_judgement.specs.declared.Refusal as report
use Rattle.capi_answer.specs.Entry.{answer_entries}
use Rattle.capi_answer.specs.Reply.{Reply, Fills, alike_fills, check_fills, run_fills, translate_fills, space_fills, prove_fills, judge_fills}
use Rattle.capi_answer.specs.Left.{Leaves, unless_short, check_leaves, alike_leaves, ran_left, run_leaves, translated_left, translate_leaves, space_leaves, proved_left, prove_leaves, judge_leaves}

-- an answer that is short, and one that is not
abbrev pub Short : List ℕ → Type 0
Short ans = ltb (length ans) answer_entries ≡ true

abbrev pub Long : List ℕ → Type 0
Long ans = ltb (length ans) answer_entries ≡ false

module _ (before after : List (List ℕ)) (ans : List ℕ) (reply : Reply) where
  pub short : Short ans → Leaves (unless_short before ans after reply) before ans 255
  short e = record { equal = rw e }

  pub filled : (ans₁ : List ℕ) (r : ℕ) → Fills reply ans₁ r → Long ans → Leaves (unless_short before ans after reply) after ans₁ r
  filled ans₁ r f e = record { equal = rw e (ap (λ (y : Reply). record { code = y.code; buffers = after; answer = y.answer }) f.equal) }

pub check_leaves_lem : (bs ans ans₁ : List ℕ) (r : ℕ) {x : Result Accepted routine.Refusal} → Fills (check_fills x ans) ans₁ r → x ≡ checked bs → Long ans
    → Leaves (check_leaves bs ans) [] ans₁ r
unfolding check_leaves
check_leaves_lem bs ans ans₁ r f e q = rw (← e) (filled [] [] ans _ ans₁ r f q)

pub alike_leaves_lem : (bs first second ans ans₁ : List ℕ) (r : ℕ) {x : Result Bool witness.Refusal} → Fills (alike_fills x ans) ans₁ r → x ≡ alike bs first second → Long ans
    → Leaves (alike_leaves bs first second ans) [] ans₁ r
unfolding alike_leaves
alike_leaves_lem bs first second ans ans₁ r f e q = rw (← e) (filled [] [] ans _ ans₁ r f q)

pub run_leaves_lem : (bs ins values trail ans values₁ trail₁ ans₁ : List ℕ) (r : ℕ) {o : Result (Option Stop) run.Refusal} → Fills (run_fills o ans) ans₁ r
    → RunAnswers bs ins values trail values₁ trail₁ o → Long ans
    → Leaves (run_leaves bs ins values trail ans) (values₁ ∷ trail₁ ∷ []) ans₁ r
unfolding run_leaves
run_leaves_lem bs ins values trail ans values₁ trail₁ ans₁ r f x e =
    subst (λ (y : RunAnswer). Leaves (ran_left values trail ans y) (values₁ ∷ trail₁ ∷ []) ans₁ r) x.equal (filled _ _ ans _ ans₁ r f e)

pub translate_leaves_lem : (bs : List ℕ) (access side : ℕ) (ds words starts ans words₁ starts₁ ans₁ : List ℕ) (r : ℕ) {t : Result Size translation.Refusal}
    → Fills (translate_fills t ans) ans₁ r → TranslationAnswers bs (target_of access side) ds words starts words₁ starts₁ t → Long ans
    → Leaves (translate_leaves bs access side ds words starts ans) (words₁ ∷ starts₁ ∷ []) ans₁ r
unfolding translate_leaves
translate_leaves_lem bs access side ds words starts ans words₁ starts₁ ans₁ r f x e =
    subst (λ (y : TranslationAnswer). Leaves (translated_left words starts ans y) (words₁ ∷ starts₁ ∷ []) ans₁ r) x.equal (filled _ _ ans _ ans₁ r f e)

pub space_leaves_lem : (bs : List ℕ) (access side : ℕ) (ds ans ans₁ : List ℕ) (r : ℕ) {x : Result Size lead.Refusal} → Fills (space_fills x ans) ans₁ r
    → x ≡ space_answer bs (target_of access side) ds → Long ans → Leaves (space_leaves bs access side ds ans) [] ans₁ r
unfolding space_leaves
space_leaves_lem bs access side ds ans ans₁ r f e q = rw (← e) (filled [] [] ans _ ans₁ r f q)

pub prove_leaves_lem : (r : List ℕ) (from clauses variables : ℕ) (words starts marks ans starts₁ marks₁ ans₁ : List ℕ) (code : ℕ) {c : Result Tally proof.Refusal}
    → Fills (prove_fills c ans) ans₁ code → Checks words starts marks r from clauses variables starts₁ marks₁ c → Long ans
    → Leaves (prove_leaves r from clauses variables words starts marks ans) (starts₁ ∷ marks₁ ∷ []) ans₁ code
unfolding prove_leaves
prove_leaves_lem r from clauses variables words starts marks ans starts₁ marks₁ ans₁ code f x e =
    subst (λ (y : Checking). Leaves (proved_left starts marks ans y) (starts₁ ∷ marks₁ ∷ []) ans₁ code) x.equal (filled _ _ ans _ ans₁ code f e)

module _ (bs r words starts marks values trail ans words₁ starts₁ marks₁ values₁ trail₁ : List ℕ) {j : Result Finding report.Refusal} where
  pub judge_short : Judges bs r words starts marks values trail words₁ starts₁ marks₁ values₁ trail₁ j → Short ans
      → Leaves (judge_leaves bs r words starts marks values trail ans) (words₁ ∷ starts₁ ∷ marks₁ ∷ values₁ ∷ trail₁ ∷ []) ans 255
  unfolding judge_leaves
  judge_short x e = rw (x.words_left, x.starts_left, x.marks_left, x.values_left, x.trail_left) (short _ _ ans _ e)

  pub judge_leaves_lem : (ans₁ : List ℕ) (code : ℕ) → Fills (judge_fills j ans) ans₁ code
      → Judges bs r words starts marks values trail words₁ starts₁ marks₁ values₁ trail₁ j → Long ans
      → Leaves (judge_leaves bs r words starts marks values trail ans) (words₁ ∷ starts₁ ∷ marks₁ ∷ values₁ ∷ trail₁ ∷ []) ans₁ code
  unfolding judge_leaves
  judge_leaves_lem ans₁ code f x e =
      rw (← x.answer, x.words_left, x.starts_left, x.marks_left, x.values_left, x.trail_left) (filled _ _ ans (judge_fills j ans) ans₁ code f e)
