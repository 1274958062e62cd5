-- The buffers after judging: the parts that are used are zeroed, and what lies beyond is as it was. Assumes nothing.
use Rattle.std.specs.Prelude.{Result}
use mathlib.Core.Path.{◌≡◌, refl, ◌∙◌}
use mathlib.Core.List.{List, ◌++◌}
use Prim.Native.Nat.{ℕ}
use lib.ListN.{take, drop}
use Rattle.slices.specs.Lent.{usable}
use Rattle.slices.proofs.Used.{used-length, used-zeroed}
use Rattle.report.specs.Inner.Parts.{JudgesParts}
use Rattle.report.specs.Zeroed.{Judges}
use Rattle.report_judgement.specs.declared.Finding.{Finding}
use Rattle.report_judgement.specs.declared.Refusal.{Refusal}

module _ (bs r words starts marks values trail : List ℕ) (w s m v t : ℕ)
    (w-is : w ≡ usable words) (s-is : s ≡ usable starts) (m-is : m ≡ usable marks) (v-is : v ≡ usable values) (t-is : t ≡ usable trail) where
  pub judged_over : (w₁ s₁ m₁ v₁ t₁ : List ℕ) (j : Result Finding Refusal) → JudgesParts bs r (take w words) (take s starts) (take m marks) (take v values) (take t trail) w₁ s₁ m₁ v₁ t₁ j
      → Judges bs r words starts marks values trail (w₁ ++ drop w words) (s₁ ++ drop s starts) (m₁ ++ drop m marks) (v₁ ++ drop v values) (t₁ ++ drop t trail) j
  judged_over w₁ s₁ m₁ v₁ t₁ j p = record {
    answer = p.answer ∙ rw (← used-length words w w-is, ← used-length starts s s-is, ← used-length marks m m-is, ← used-length values v v-is, ← used-length trail t t-is, w-is, s-is, m-is, v-is, t-is) refl;
    words_left = used-zeroed words w w-is w₁ p.words_left;
    starts_left = used-zeroed starts s s-is s₁ p.starts_left;
    marks_left = used-zeroed marks m m-is m₁ p.marks_left;
    values_left = used-zeroed values v v-is v₁ p.values_left;
    trail_left = used-zeroed trail t t-is t₁ p.trail_left;
  }
