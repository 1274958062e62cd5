-- 16 and the proof, from what the translation and the check answered. Assumes nothing.
use Rattle.std.specs.Prelude.{Result, Ok, Err}
use mathlib.Core.Path.{◌≡◌, refl, sym, ap, subst, ◌∙◌}
use mathlib.Core.List.{List}
use mathlib.Core.Bool.{Bool, true, false, cond}
use Prim.Native.Nat.{ℕ, ◌+◌, ◌<◌, ◌≤◌}
use native.Mathlib.Nat.{min-eq_left}
use native.Mathlib.Omega.{arith}
use lib.ListN.{length, take}
use lib.Seq.{sets, length-sets, length-take-le}
use lib.Dec.{leb}
use borrow.Author.Tests.{le-leb, lt-leb, leb-true}
use Rattle.slices.specs.Lent.{usable}
use Rattle.slices.specs.declared.Buffer.{Buffer}
use Rattle.routine_header.specs.declared.Header.{Header}
use Rattle.routine_faults.specs.declared.Counts.{Counts}
use Rattle.routine.specs.Routine.{Arm}
use Rattle.routine.specs.Decode.{routine, decode, commands_in}
use Rattle.routine.specs.Inner.Known.{IsRoutineWith}
use Rattle.routine.proofs.Decoded.{commands_are}
use Rattle.cnf.specs.Clause.{Clause, flatten, offsets}
use Rattle.translation_command.specs.Command.{Encoding}
use Rattle.translation.specs.Answer.{TranslationAnswer, fitted}
use Rattle.translation.specs.Inner.Fitted.{Fitted}
use Rattle.translation_meaning.specs.Translation.{translation_of, clauses_of_all, translation_size}
use Rattle.translation.specs.declared.Refusal as translating
use Rattle.translation_meaning.specs.declared.Size.{Size}
use Rattle.proof_propagation.specs.Stored.{clauses_of}
use Rattle.proof_check.specs.Inner.Begins.{Begins}
use Rattle.proof_check.specs.Lent.{limits_of}
use Rattle.proof_check.specs.Check.{check_proof}
use Rattle.proof_check.proofs.Laying.{Proper, begins-laid, clauses-laid}
use Rattle.report_witness.specs.Lead.{decisions_of}
use Rattle.report_witness.specs.declared.Lead.{Lead}
use Rattle.report_judgement.specs.Proof.{Room, by_verdict, proved_by}
use Rattle.report.specs.Inner.Parts.{room_of}
use Rattle.report.specs.Inner.Translation.{by_translation}
use Rattle.report_judgement.specs.declared.Refusal.{Refusal}
use Rattle.proof_check.specs.declared.Tally.{Tally}
use Rattle.report.proofs.Proper.{whole_proper}

-- a buffer that is not too long is used whole
used-whole : (xs : List ℕ) → length xs ≤ 16777216 → usable xs ≡ length xs
used-whole xs l = min-eq_left l

-- ---- the translation

-- what was made: of this size, in buffers that have room for it
pub record Made (words starts words₁ starts₁ : List ℕ) (size : Size) (x : Encoding) : Type 0 where
  pub sized : size ≡ translation_size x
  pub words-room : (translation_size x).words ≤ length words
  pub starts-room : (translation_size x).clauses ≤ length starts
  pub words_are : words₁ ≡ sets words 0 (flatten (clauses_of_all x))
  pub starts_are : starts₁ ≡ sets starts 0 (offsets 0 (clauses_of_all x))

module _ (words starts words₁ starts₁ : List ℕ) (short : length words ≤ 16777216) (few : length starts ≤ 16777216) (z : Result Size translating.Refusal) (x : Encoding)
    (e : ◌≡◌ {A = TranslationAnswer} (record { translated = z; words = words₁; starts = starts₁ }) (fitted words starts x)) where
  abbrev by : (b c : Bool) → TranslationAnswer
  by b c =
      cond b
      (cond c
      (record { translated = Ok (translation_size x); words = sets words 0 (flatten (clauses_of_all x)); starts = sets starts 0 (offsets 0 (clauses_of_all x)) })
      (record { translated = Err (translating.Refusal.TooSmall Buffer.Starts); words = words; starts = starts }))
      (record { translated = Err (translating.Refusal.TooSmall Buffer.Words); words = words; starts = starts })

  made_by : (size : Size) → z ≡ Ok size → (b c : Bool) → leb (translation_size x).words (usable words) ≡ b → leb (translation_size x).clauses (usable starts) ≡ c
      → ◌≡◌ {A = TranslationAnswer} (record { translated = z; words = words₁; starts = starts₁ }) (by b c) → Made words starts words₁ starts₁ size x
  made_by size is true true p q f =
      let y : Ok size ≡ Ok (translation_size x) = sym is ∙ ap (λ (v : TranslationAnswer). v.translated) f in
      record {
        sized = cc;
        words-room = rw (used-whole words short) at (leb-true (translation_size x).words (usable words) p);
        starts-room = rw (used-whole starts few) at (leb-true (translation_size x).clauses (usable starts) q);
        words_are = ap (λ (v : TranslationAnswer). v.words) f;
        starts_are = ap (λ (v : TranslationAnswer). v.starts) f;
      }
  made_by size is true false p q f =
      let y : Ok size ≡ Err (translating.Refusal.TooSmall Buffer.Starts) = sym is ∙ ap (λ (v : TranslationAnswer). v.translated) f in
      let n : ◌≡◌ {A = ℕ} 0 1 = cc in
      absurd (omega arith)
  made_by size is false c p q f =
      let y : Ok size ≡ Err (translating.Refusal.TooSmall Buffer.Words) = sym is ∙ ap (λ (v : TranslationAnswer). v.translated) f in
      let n : ◌≡◌ {A = ℕ} 0 1 = cc in
      absurd (omega arith)

  made : (size : Size) → z ≡ Ok size → Made words starts words₁ starts₁ size x
  made size is = made_by size is (leb (translation_size x).words (usable words)) (leb (translation_size x).clauses (usable starts)) refl refl e

  -- what was not made has no room in words, or in starts
  refused_by_lem : (r : List ℕ) (from base : ℕ) (m : Room) (h : Header) (k : Counts) → m.words ≡ length words → m.starts ≡ length starts
      → (refusal : translating.Refusal) → z ≡ Err refusal → (b c : Bool) → leb (translation_size x).words (usable words) ≡ b → leb (translation_size x).clauses (usable starts) ≡ c
      → ◌≡◌ {A = TranslationAnswer} (record { translated = z; words = words₁; starts = starts₁ }) (by b c) → Err (by_translation refusal) ≡ proved_by r from base m h k x
  unfolding proved_by
  refused_by_lem r from base m h k mw ms refusal is true true p q f =
      let y : Err refusal ≡ Ok (translation_size x) = sym is ∙ ap (λ (v : TranslationAnswer). v.translated) f in
      let n : ◌≡◌ {A = ℕ} 0 1 = cc in
      absurd (omega arith)
  refused_by_lem r from base m h k mw ms refusal is true false p q f =
      let y : Err refusal ≡ Err (translating.Refusal.TooSmall Buffer.Starts) = sym is ∙ ap (λ (v : TranslationAnswer). v.translated) f in
      let n : refusal ≡ translating.Refusal.TooSmall Buffer.Starts = cc in
      rw (n, mw, ms, ← used-whole words short, ← used-whole starts few, p, q) refl
  refused_by_lem r from base m h k mw ms refusal is false c p q f =
      let y : Err refusal ≡ Err (translating.Refusal.TooSmall Buffer.Words) = sym is ∙ ap (λ (v : TranslationAnswer). v.translated) f in
      let n : refusal ≡ translating.Refusal.TooSmall Buffer.Words = cc in
      rw (n, mw, ← used-whole words short, p) refl

  not_made : (r : List ℕ) (from base : ℕ) (m : Room) (h : Header) (k : Counts) → m.words ≡ length words → m.starts ≡ length starts
      → (refusal : translating.Refusal) → z ≡ Err refusal → Err (by_translation refusal) ≡ proved_by r from base m h k x
  not_made r from base m h k mw ms refusal is =
      refused_by_lem r from base m h k mw ms refusal is (leb (translation_size x).words (usable words)) (leb (translation_size x).clauses (usable starts)) refl refl e

-- ---- what `prove` answers

begins-same : (w w₁ s s₁ m r : List ℕ) (from base count count₁ used used₁ : ℕ) → w₁ ≡ w → s₁ ≡ s → count₁ ≡ count → used₁ ≡ used
    → Begins r from base count used w s m → Begins r from base count₁ used₁ w₁ s₁ m
begins-same w w₁ s s₁ m r from base count count₁ used used₁ p q y z b = rw (p, q, y, z) b

clauses-same : (w w₁ s s₁ : List ℕ) (n n₁ : ℕ) → w₁ ≡ w → s₁ ≡ s → n₁ ≡ n → clauses_of w₁ s₁ n₁ ≡ clauses_of w s n
clauses-same w w₁ s s₁ n n₁ p q x = rw (p, q, x) refl

verdict-same : (r : List ℕ) (from base : ℕ) (cs cs₁ : List Clause) (v v₁ w w₁ s s₁ : ℕ) → cs ≡ cs₁ → v ≡ v₁ → w ≡ w₁ → s ≡ s₁
    → by_verdict (check_proof cs (record { variables = v; words = w; starts = s; base = base }) r from).verdict
    ≡ by_verdict (check_proof cs₁ (record { variables = v₁; words = w₁; starts = s₁; base = base }) r from).verdict
verdict-same r from base cs cs₁ v v₁ w w₁ s s₁ p q x y = rw (p, q, x, y) refl

module _ (bs r : List ℕ) (from base : ℕ) (h : Header) (k : Counts) (i : IsRoutineWith bs h k) (lead : Lead) (words starts marks : List ℕ) (values trail : ℕ)
    (short : length words ≤ 16777216) (few : length starts ≤ 16777216)
    (words₁ starts₁ : List ℕ) (z : Result Size translating.Refusal) (fit : Fitted bs h lead.target (decisions_of lead k) words starts words₁ starts₁ z) where
  abbrev room : Room
  room = room_of words starts marks values trail

  -- the translation of the claim
  abbrev x : Encoding
  x = translation_of bs lead.target (decisions_of lead k) h (commands_in bs)

  d : decode bs ≡ routine h (commands_in bs) k
  d = i.decodes ∙ ap (λ (a : Arm). routine h a k) (sym (commands_are bs h i.commands k i.decodes))

  -- what is answered
  abbrev Answer : Result Tally Refusal → Type 0
  Answer p = p ≡ proved_by r from base room h k x

  pub prove_refused : (refusal : translating.Refusal) → z ≡ Err refusal → (why : Refusal) → why ≡ by_translation refusal → Answer (Err why)
  prove_refused refusal is why by =
      ap Err by ∙ not_made words starts words₁ starts₁ short few z x (fit.tells (commands_in bs) k d) r from base room h k refl refl refusal is

  module _ (size : Size) (is : z ≡ Ok size) where
    y : Made words starts words₁ starts₁ size x
    y = made words starts words₁ starts₁ short few z x (fit.tells (commands_in bs) k d) size is

    variables_are : size.variables ≡ (translation_size x).variables
    variables_are = ap (λ (v : Size). v.variables) y.sized

    -- the clauses that stand in the buffers
    clauses_are : clauses_of words₁ starts₁ size.clauses ≡ clauses_of_all x
    clauses_are =
        clauses-same _ words₁ _ starts₁ _ size.clauses y.words_are y.starts_are (ap (λ (v : Size). v.clauses) y.sized)
        ∙ clauses-laid words starts (clauses_of_all x) y.words-room y.starts-room

    pub prove_marks : length marks < size.variables + 1 → Answer (Err (Refusal.TooSmall Buffer.Marks))
    unfolding proved_by
    prove_marks l = rw (le-leb _ _ y.words-room, le-leb _ _ y.starts-room, lt-leb _ _ (rw variables_are at l)) refl

    module _ (enough : size.variables + 1 ≤ length marks) where
      pub prove_values : values < h.variables → Answer (Err (Refusal.TooSmall Buffer.Values))
      unfolding proved_by
      prove_values l = rw (le-leb _ _ y.words-room, le-leb _ _ y.starts-room, le-leb _ _ (rw variables_are at enough), lt-leb _ _ l) refl

      module _ (valued : h.variables ≤ values) where
        pub prove_trail : trail < k.ifs → Answer (Err (Refusal.TooSmall Buffer.Trail))
        unfolding proved_by
        prove_trail l =
            rw (le-leb _ _ y.words-room, le-leb _ _ y.starts-room, le-leb _ _ (rw variables_are at enough), le-leb _ _ valued, lt-leb _ _ l) refl

        -- the clauses are laid out as the check asks
        pub prove_begins : from ≤ length r → length r ≤ 16777216 → base ≤ 16777216 → Begins r from base size.clauses size.words words₁ starts₁ (take (size.variables + 1) marks)
        prove_begins within limit based =
            let m : List ℕ = take (size.variables + 1) marks in
            let l : length m ≡ 1 + length x.nodes = length-take-le (size.variables + 1) marks enough ∙ omega (arith, variables_are) in
            begins-same _ words₁ _ starts₁ m r from base _ size.clauses _ size.words y.words_are y.starts_are
            (ap (λ (v : Size). v.clauses) y.sized) (ap (λ (v : Size). v.words) y.sized)
            (begins-laid words starts (clauses_of_all x) y.words-room y.starts-room m r from base
            (subst (λ (v : ℕ). Proper v (clauses_of_all x)) (sym l) (whole_proper bs lead.target (decisions_of lead k) h (commands_in bs) k d))
            (omega (arith, l)) short within limit based)

        pub proved : k.ifs ≤ trail → (p : Result Tally Refusal)
            → p ≡ by_verdict (check_proof (clauses_of words₁ starts₁ size.clauses) (limits_of base words₁ starts₁ (take (size.variables + 1) marks)) r from).verdict
            → Answer p
        unfolding proved_by
        proved trailed p by =
            let l : length (take (size.variables + 1) marks) ≡ size.variables + 1 = length-take-le (size.variables + 1) marks enough in
            rw (le-leb _ _ y.words-room, le-leb _ _ y.starts-room, le-leb _ _ (rw variables_are at enough), le-leb _ _ valued, le-leb _ _ trailed)
            (by ∙ verdict-same r from base _ _ _ _ _ _ _ _ clauses_are (omega (arith, variables_are)) (ap length y.words_are ∙ length-sets words 0 (flatten (clauses_of_all x)))
            (ap length y.starts_are ∙ length-sets starts 0 (offsets 0 (clauses_of_all x))))
