-- Clauses that were written into two buffers, one after another from the beginning, are what `check_proof` asks for. Assumes nothing.
use Rattle.std.proofs.Common.{◌≡◌, ℕ, zero, suc, ◌+◌, ◌/◌, ◌<◌, ◌≤◌, List, [], ◌∷◌, ◌++◌, length, get_or, take, drop, sym, ap, ◌∙◌, append_assoc, add-zero, zero-add, arith, length-append, take_at, ext_get_or, drop_at}
use lib.ListN.{get_or-append}
use lib.Seq.{slice, sets, length-sets, get_or-append_seam}
use Rattle.cnf.specs.Clause.{Clause, flatten, offsets}
use Rattle.cnf.proofs.Appending.{sets_front, length-offsets}
use Rattle.proof_propagation.specs.Stored.{start_of, end_of, clause_at, clauses_of}
use Rattle.proof_propagation.specs.Inner.Standing.{Stands}
use Rattle.proof_propagation.proofs.Standing.{first-length, first_at, stored_given, stored_all_given, fits_by}
use Rattle.proof_check.specs.Inner.Begins.{Begins}
use Rattle.proof_check.specs.Inner.Held.{Store}

-- literals of variables that have a mark
abbrev pub Proper : ℕ → List Clause → Type 0
Proper marks cs = (i j : ℕ) → i < length cs → j < length (get_or cs i []) → (2 ≤ get_or (get_or cs i []) j 0) × (get_or (get_or cs i []) j 0 / 2 < marks)

-- a clause that stands after a list p of words
first_count : (p c q : List ℕ) → get_or (p ++ ((length c ∷ c) ++ q)) (length p) 0 ≡ length c
first_count p c q = get_or-append_seam p (length c) (c ++ q) 0

first_clause : (p c q : List ℕ) → slice (length p + 1) (length p + 1 + length c) (p ++ ((length c ∷ c) ++ q)) ≡ c
first_clause p c q =
    let w : p ++ ((length c ∷ c) ++ q) ≡ ((p ++ (length c ∷ [])) ++ c) ++ q = simp append_assoc in
    let l : length (p ++ (length c ∷ [])) ≡ length p + 1 = length-append p (length c ∷ []) in
    let k : length ((p ++ (length c ∷ [])) ++ c) ≡ length p + 1 + length c = length-append (p ++ (length c ∷ [])) c ∙ ap (λ (x : ℕ). x + length c) l in
    rw (w, take_at ((p ++ (length c ∷ [])) ++ c) q (length p + 1 + length c) k) (drop_at (p ++ (length c ∷ [])) c (length p + 1) l)

record Here (w : List ℕ) (o : ℕ) (c : Clause) : Type 0 where
  count : get_or w o 0 ≡ length c
  clause : slice (o + 1) (o + 1 + length c) w ≡ c

here : (cs : List Clause) (p q : List ℕ) (i : ℕ) → i < length cs → Here (p ++ (flatten cs ++ q)) (length p + length (flatten (take i cs))) (get_or cs i [])
here [] p q i h = absurd (omega arith)
here (c ∷ cs) p q zero h =
    rw (add-zero, append_assoc c (flatten cs) q) (record { count = first_count p c (flatten cs ++ q); clause = first_clause p c (flatten cs ++ q) })
here (c ∷ cs) p q (suc i) h =
    let w : p ++ (((length c ∷ c) ++ flatten cs) ++ q) ≡ (p ++ (length c ∷ c)) ++ (flatten cs ++ q) = simp append_assoc in
    let o : length p + length (flatten (c ∷ take i cs)) ≡ length (p ++ (length c ∷ c)) + length (flatten (take i cs)) = omega (arith, length-append p (length c ∷ c), length-append c (flatten (take i cs))) in
    rw (w, o) (here cs (p ++ (length c ∷ c)) q i (omega arith))

flatten-before : (cs : List Clause) (i : ℕ) → i < length cs → length (flatten (take i cs)) + 1 + length (get_or cs i []) ≤ length (flatten cs)
flatten-before [] i h = absurd (omega arith)
flatten-before (c ∷ cs) zero h = omega (arith, length-append c (flatten cs))
flatten-before (c ∷ cs) (suc i) h = omega (arith, flatten-before cs i (omega arith), length-append c (flatten cs), length-append c (flatten (take i cs)))

offset_at : (n : ℕ) (cs : List Clause) (i : ℕ) → i < length cs → get_or (offsets n cs) i 0 ≡ n + length (flatten (take i cs))
offset_at n [] i h = absurd (omega arith)
offset_at n (c ∷ cs) zero h = sym (add-zero n)
offset_at n (c ∷ cs) (suc i) h = offset_at (n + suc (length c)) cs i (omega arith) ∙ omega (arith, length-append c (flatten (take i cs)))

module _ (w₀ s₀ : List ℕ) (cs : List Clause) (hw : length (flatten cs) ≤ length w₀) (hs : length cs ≤ length s₀) where
  abbrev w : List ℕ
  w = sets w₀ 0 (flatten cs)

  abbrev s : List ℕ
  s = sets s₀ 0 (offsets 0 cs)

  start_is : (i : ℕ) → i < length cs → start_of s i ≡ length (flatten (take i cs))
  start_is i h =
      ap (λ (l : List ℕ). get_or l i 0) (sets_front s₀ (offsets 0 cs) (rw (length-offsets 0 cs) hs))
      ∙ get_or-append (offsets 0 cs) (drop (length (offsets 0 cs)) s₀) 0 i (rw (length-offsets 0 cs) h)
      ∙ offset_at 0 cs i h ∙ zero-add (length (flatten (take i cs)))

  at_start : (i : ℕ) → i < length cs → Here w (start_of s i) (get_or cs i [])
  at_start i h =
      rw (start_is i h, sets_front w₀ (flatten cs) hw, ← zero-add (length (flatten (take i cs)))) (here cs [] (drop (length (flatten cs)) w₀) i h)

  is_clause : (i : ℕ) → i < length cs → clause_at w s i ≡ get_or cs i []
  unfolding clause_at
  is_clause i h = rw (at_start i h).count (at_start i h).clause

  -- the clauses that stand there
  pub clauses-laid : clauses_of w s (length cs) ≡ cs
  clauses-laid =
      ext_get_or [] (clauses_of w s (length cs)) cs (first-length (clause_at w s) (length cs))
      (λ i h. let k : i < length cs = omega (arith, first-length (clause_at w s) (length cs)) in first_at (clause_at w s) (length cs) i k ∙ is_clause i k)

  laid_end : (i : ℕ) → i < length cs → end_of w s i ≤ length (flatten cs)
  laid_end i h = omega (arith, (at_start i h).count, start_is i h, flatten-before cs i h)

  laid-stands : (r : List ℕ) (n : ℕ) → Proper n cs → (i : ℕ) → i < length cs → Stands w s r (length cs) n i
  laid-stands r n ok i h =
      record {
        listed = rw length-sets (omega arith);
        inside = λ _. rw length-sets (omega (arith, laid_end i h));
        runs = λ k. absurd (omega arith);
        fits = rw (stored_given w s r (length cs) i h, is_clause i h) (fits_by n (get_or cs i []) (λ j k. ok i j h k));
      }

  laid-store : (r : List ℕ) (n : ℕ) → Proper n cs → Store w s r (length cs) n (length cs) (length (flatten cs))
  laid-store r n ok =
      record {
        entries = rw length-sets hs;
        over = omega arith;
        room = rw length-sets hw;
        each = λ i h. laid-stands r n ok i h;
        sized = ap (λ (x : List Clause). length (flatten x)) (sym (stored_all_given w s r (length cs) ∙ clauses-laid));
      }

  -- what `check_proof` asks for
  pub begins-laid : (m r : List ℕ) (from base : ℕ) → Proper (length m) cs → 1 ≤ length m → length w₀ ≤ 16777216 → from ≤ length r → length r ≤ 16777216
      → base ≤ 16777216 → Begins r from base (length cs) (length (flatten cs)) w s m
  begins-laid m r from base ok one short within limit based =
      record {
        store = laid-store r (length m) ok;
        marked = one;
        short = rw length-sets short;
        within = within;
        limit = limit;
        based = based;
      }
