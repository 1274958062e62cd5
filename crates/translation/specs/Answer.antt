-- What a translation answers, and what it leaves in the lent buffers.
use Rattle.std.specs.Prelude.{ℕ, ◌≡◌, List, cond, leb, Result, Ok, Err}
use Rattle.std.proofs.lemmas.List.Edits.{sets}
use Rattle.slices.specs.Lent.{usable}
use Rattle.slices.specs.declared.Buffer.{Buffer}
use Rattle.cnf.specs.Clause.{flatten, offsets}
use Rattle.lead.specs.Lead.{ClaimAdmission, refused, translates, claim_admission}
use Rattle.lead.specs.declared.Target.{Target}
use Rattle.translation_command.specs.Command.{Encoding}
use Rattle.translation_meaning.specs.Translation.{translation_of, clauses_of_all, translation_size}
use Rattle.translation_meaning.specs.declared.Size.{Size}
use Rattle.translation.specs.declared.Refusal.{Refusal}

-- the answer, and both buffers
pub record TranslationAnswer : Type 0 where
  pub translated : Result Size Refusal
  pub words : List ℕ
  pub starts : List ℕ

-- 16: words, then starts; what was too small leaves both as they were
abbrev pub fitted : (words starts : List ℕ) → Encoding → TranslationAnswer
fitted words starts x =
    cond (leb (translation_size x).words (usable words))
    (cond (leb (translation_size x).clauses (usable starts))
    (record { translated = Ok (translation_size x); words = sets words 0 (flatten (clauses_of_all x)); starts = sets starts 0 (offsets 0 (clauses_of_all x)) })
    (record { translated = Err (Refusal.TooSmall Buffer.Starts); words = words; starts = starts }))
    (record { translated = Err (Refusal.TooSmall Buffer.Words); words = words; starts = starts })

-- a refusal leaves both buffers unchanged
abbrev pub translation_answer_by : (bs : List ℕ) → Target → (ds words starts : List ℕ) → ClaimAdmission → TranslationAnswer
translation_answer_by bs t ds words starts (refused refusal) = record { translated = Err (Refusal.Lead refusal); words = words; starts = starts }
translation_answer_by bs t ds words starts (translates h a k) = fitted words starts (translation_of bs t ds h a)

-- what `translate` answers
unfoldable pub translation_answer : (bs : List ℕ) → Target → (ds words starts : List ℕ) → TranslationAnswer
translation_answer bs t ds words starts = translation_answer_by bs t ds words starts (claim_admission bs t ds)

-- the answer is r, and the buffers became words₁ and starts₁
pub record TranslationAnswers (bs : List ℕ) (t : Target) (ds words starts words₁ starts₁ : List ℕ) (r : Result Size Refusal) : Type 0 where
  pub equal : ◌≡◌ {A = TranslationAnswer} (record { translated = r; words = words₁; starts = starts₁ }) (translation_answer bs t ds words starts)
