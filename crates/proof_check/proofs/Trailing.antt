-- The trail: what each command leaves of it, and that it undoes a step. Assumes nothing.
use Rattle.std.proofs.Common.{◌≡◌, ℕ, ◌+◌, ◌/◌, ◌<◌, ◌≤◌, List, [], ◌∷◌, ◌++◌, length, take, set, replicate, ap, ◌∙◌, add-one, arith, length-set, take-suc-set}
use lib.ListN.{length-replicate}
use lib.Seq.{slice, drop-append-le}
use Rattle.proof_reader.specs.Inner.Literals.{literals_at, run_at}
use Rattle.proof_reader.specs.Inner.Runs.{RunsFor}
use Rattle.proof_reader.proofs.Running.{run_is}
use Rattle.proof_propagation.specs.Marks.{true_mark, false_mark}
use Rattle.proof_propagation.specs.Inner.Clear.{clear}
use Rattle.proof_propagation.proofs.Clearing.{clear_zeros, mark_undone_first, mark_undone_second}
use Rattle.proof_check.specs.Inner.Held.{literals_of, Ready, Trailed, with_literal, with_hint}
use Rattle.proof_check.specs.declared.Phase.{Phase}
use Rattle.proof_check.specs.declared.Progress.{Progress}

-- a part and the element stored after it
slice_snoc : (w : List ℕ) (t x : ℕ) → t < length w → slice 0 (t + 1) (set w t x) ≡ slice 0 t w ++ (x ∷ [])
slice_snoc w t x k = rw (add-one, take-suc-set w t x k) (drop-append-le 0 (take t w) (x ∷ []) (omega arith))

-- where no variable is decided
pub trailed_zeros : (m t r : List ℕ) (n : ℕ) (p : Progress) → m ≡ replicate n 0 → Trailed m t r p
unfolding Trailed
trailed_zeros m t r n p e _ =
    let l : length m ≡ n = ap length e ∙ length-replicate n 0 in
    rw (l, e, clear_zeros n (slice 0 p.decided t)) (clear_zeros n (literals_of r p))

module _ (m t r : List ℕ) (p : Progress) (h : Trailed m t r p) (l : ℕ) where
  pub trailed_literal : literals_at r p.begin (p.literals + 1) ≡ literals_of r p ++ (l ∷ []) → Trailed (set m (l / 2) (false_mark l)) t r (with_literal p)
  unfolding Trailed
  trailed_literal e k = rw (e, length-set m (l / 2) (false_mark l)) (mark_undone_second m l (false_mark l) (slice 0 p.decided t) (literals_of r p) (length m) (h k))

  pub trailed_unit : Trailed (set m (l / 2) (true_mark l)) (set t p.decided l) r (with_hint p Phase.Hints (p.decided + 1))
  unfolding Trailed
  trailed_unit k =
      let room : p.decided < length t = omega (arith, length-set t p.decided l) in
      rw (slice_snoc t p.decided l room, length-set m (l / 2) (true_mark l))
      (mark_undone_first m l (true_mark l) (slice 0 p.decided t) (literals_of r p) (length m) (h (omega arith)))

-- the trail and the step's literals undo a step
pub trail_undoes : (m t r m₁ m₂ : List ℕ) (p : Progress) → Trailed m t r p → RunsFor r p.begin p.literals → p.decided ≤ length t → m₁ ≡ clear m (slice 0 p.decided t) → m₂ ≡ clear m₁ (run_at r p.begin)
    → m₂ ≡ replicate (length m) 0
unfolding Trailed
trail_undoes m t r m₁ m₂ p h n k a b = b ∙ ap (clear m₁) (run_is r p.begin p.literals n) ∙ ap (λ (z : List ℕ). clear z (literals_of r p)) a ∙ h k

-- what stands in the trail behind what was kept does not matter
pub other_trail : (w s m t r : List ℕ) (p : Progress) → Ready w s m t r p → (t' : List ℕ) → length t' ≡ length t → slice 0 p.decided t' ≡ slice 0 p.decided t → Ready w s m t' r p
unfolding Trailed
other_trail w s m t r p z t' n e =
    record {
      store = z.store;
      fits = z.fits;
      among = z.among;
      fresh = z.fresh;
      past = z.past;
      undone = z.undone;
      clean = z.clean;
      trailed = λ k. rw e (z.trailed (omega arith));
      marked = z.marked;
      short = z.short;
      begun = z.begun;
      few = z.few;
      noted = z.noted;
      numbered = z.numbered;
      stepped = z.stepped;
      hinted = z.hinted;
      within = z.within;
      limit = z.limit;
    }
