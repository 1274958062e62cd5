-- What the C interface returns and leaves in what it was lent: what the layer's answer gives, or 255 where `answer` is short. On 255 nothing is changed,
-- except that `pellet_judge` zeroes its buffers on every return.
use Rattle.std.specs.Prelude.{ℕ, ◌≡◌, List, [], ◌∷◌, cond, length, ltb}
use Rattle.std.proofs.lemmas.List.Edits.{sets}
use Rattle.routine.specs.Decode.{checked}
use Rattle.run.specs.Answer.{RunAnswer, run_answer}
use Rattle.lead.specs.Lead.{target_of}
use Rattle.translation_space.specs.Space.{space_answer}
use Rattle.translation.specs.Answer.{TranslationAnswer, translation_answer}
use Rattle.proof.specs.Checking.{Checking, checking}
use Rattle.report_judgement.specs.Judging.{judgement}
use Rattle.slices.specs.Lent.{zeroed}
use Rattle.report.specs.Zeroed.{room_in}
use Rattle.report_judgement.specs.Demand.{Found}
use Rattle.report.specs.Alike.{alike}
use Rattle.report_judgement.specs.declared.Finding.{Finding}
use Rattle.capi_answer.specs.Entry.{answer_entries, judged_of}
use Rattle.capi_answer.specs.Reply.{Reply, check_fills, run_fills, translate_fills, space_fills, prove_fills, judge_fills, alike_fills}

-- the number returned, what stands in the buffers, in the order in which they are lent, and what stands in `answer`
pub record Left : Type 0 where
  pub code : ℕ
  pub buffers : List (List ℕ)
  pub answer : List ℕ

-- what is returned and stands there is this
pub record Leaves (left : Left) (buffers : List (List ℕ)) (ans : List ℕ) (r : ℕ) : Type 0 where
  pub equal : ◌≡◌ {A = Left} (record { code = r; buffers = buffers; answer = ans }) left

-- where the answer is short: 255, beside the buffers `before` and the answer as it was; else the reply, beside the buffers `after`
abbrev pub unless_short : (before : List (List ℕ)) → (ans : List ℕ) → (after : List (List ℕ)) → Reply → Left
unless_short before ans after reply =
    cond (ltb (length ans) answer_entries)
    (record { code = 255; buffers = before; answer = ans })
    (record { code = reply.code; buffers = after; answer = reply.answer })

-- `pellet_check`
unfoldable pub check_leaves : (bs ans : List ℕ) → Left
check_leaves bs ans = unless_short [] ans [] (check_fills (checked bs) ans)

-- a run's answer
abbrev pub ran_left : (values trail ans : List ℕ) → RunAnswer → Left
ran_left values trail ans x = unless_short (values ∷ trail ∷ []) ans (x.values ∷ x.trail ∷ []) (run_fills x.ran ans)

-- `pellet_run`
unfoldable pub run_leaves : (bs ins values trail ans : List ℕ) → Left
run_leaves bs ins values trail ans = ran_left values trail ans (run_answer bs ins values trail)

-- a translation's answer
abbrev pub translated_left : (words starts ans : List ℕ) → TranslationAnswer → Left
translated_left words starts ans x = unless_short (words ∷ starts ∷ []) ans (x.words ∷ x.starts ∷ []) (translate_fills x.translated ans)

-- `pellet_translate`
unfoldable pub translate_leaves : (bs : List ℕ) → (access side : ℕ) → (ds words starts ans : List ℕ) → Left
translate_leaves bs access side ds words starts ans = translated_left words starts ans (translation_answer bs (target_of access side) ds words starts)

-- `pellet_space`
unfoldable pub space_leaves : (bs : List ℕ) → (access side : ℕ) → (ds ans : List ℕ) → Left
space_leaves bs access side ds ans = unless_short [] ans [] (space_fills (space_answer bs (target_of access side) ds) ans)

-- the answer of a proof's check, whose words are only read
abbrev pub proved_left : (starts marks ans : List ℕ) → Checking → Left
proved_left starts marks ans x = unless_short (starts ∷ marks ∷ []) ans (x.starts ∷ x.marks ∷ []) (prove_fills x.checked ans)

-- `pellet_prove`
unfoldable pub prove_leaves : (r : List ℕ) → (from clauses variables : ℕ) → (words starts marks ans : List ℕ) → Left
prove_leaves r from clauses variables words starts marks ans = proved_left starts marks ans (checking words starts marks r from clauses variables)

-- `pellet_judge`: the buffers are zeroed on every return, 255 too
unfoldable pub judge_leaves : (bs r words starts marks values trail ans : List ℕ) → Left
judge_leaves bs r words starts marks values trail ans =
    let left = zeroed words ∷ zeroed starts ∷ zeroed marks ∷ zeroed values ∷ zeroed trail ∷ [] in
    unless_short left ans left (judge_fills (judgement bs r (room_in words starts marks values trail)) ans)

-- the answer tells a finding, and demand 3 holds of it
pub record Tells (bs r ans ans₁ : List ℕ) : Type 0 where
  pub finding : Finding
  pub told : ans₁ ≡ sets ans 0 (judged_of finding)
  pub found : Found bs r finding

-- demand 3: what a return of 0 says
pub record Finds (bs r ans ans₁ : List ℕ) (code : ℕ) : Type 0 where
  pub tells : code ≡ 0 → Tells bs r ans ans₁

-- `pellet_alike`
unfoldable pub alike_leaves : (bs first second ans : List ℕ) → Left
alike_leaves bs first second ans = unless_short [] ans [] (alike_fills (alike bs first second) ans)
