-- A row of hints, one after another: the definition goes on from there to the same outcome. Assumes nothing.
use Rattle.std.proofs.Common.{◌≡◌, ℕ, ◌+◌, ◌-◌, ◌/◌, ◌<◌, ◌≤◌, List, length, set, replicate, sym, ap, ◌∙◌, arith, Ok}
use Rattle.proof_reader.specs.Command.{command_at}
use Rattle.proof_reader.specs.Inner.Runs.{RunsFor}
use Rattle.proof_reader.specs.declared.Command.{Command}
use Rattle.proof_propagation.specs.Marks.{true_mark}
use Rattle.proof_propagation.specs.Hint.{hint_of}
use Rattle.proof_propagation.specs.Inner.Standing.{stored_at}
use Rattle.proof_propagation.specs.Inner.Store.{proof_of}
use Rattle.proof_propagation.specs.declared.Hint.{Hint}
use Rattle.proof_propagation.specs.declared.stored.ClauseStore.{ClauseStore}
use Rattle.proof_propagation.proofs.Standing.{first-length, first_at, unit_fits}
use Rattle.proof_check.specs.State.{Limits}
use Rattle.proof_check.specs.Check.{step}
use Rattle.proof_check.specs.Lent.{limits_of}
use Rattle.proof_check.specs.Inner.Held.{state_of, state_in, Ready, Between, Onward, Did, Turned, with_hint, finish_in}
use Rattle.proof_check.specs.Inner.Rows.{said_by}
use Rattle.proof_check.specs.declared.Phase.{Phase}
use Rattle.proof_check.specs.declared.Progress.{Progress}
use Rattle.proof_check.specs.declared.Turn.{Turn}
use Rattle.proof_check.proofs.Hinting.{Takes, taken_hint, own_run, did_conflict, did_unit}
use Rattle.proof_check.proofs.Steady.{finish-more}
use Rattle.proof_check.proofs.Stopping.{onward-more, parted_onward}
use Rattle.proof_check.proofs.Turning.{step_hint}

-- where a row stands that came from p₀, with m₀ as the marks
pub record Rowing (c : ClauseStore) (s m₀ : List ℕ) (p₀ : Progress) (m t : List ℕ) (p : Progress) : Type 0 where
  pub between : Between c s m t p
  pub onward : Onward s s p₀ p
  pub further : p₀.at ≤ p.at
  pub marked : length m ≡ length m₀
  pub goes : (b : ℕ) → finish_in b c s m₀ (state_in c s m₀ p₀) ≡ finish_in b c s m₀ (state_in c s m p)

module _ (c : ClauseStore) (s m₀ : List ℕ) (p₀ : Progress) (m t : List ℕ) (p : Progress) (z : Rowing c s m₀ p₀ m t p) (m' t' : List ℕ) (q : Progress)
    (d : (b : ℕ) → Turned b c s m t p s m' t' (Ok (Turn.More q))) where
  pub rowing_less : length (proof_of c) - q.at < length (proof_of c) - p.at
  rowing_less = let y = (d 0).kept in omega (arith, y.1, y.0.within)

  pub rowing_more : length m' ≡ length m → Rowing c s m₀ p₀ m' t' q
  rowing_more lm =
      let y = (d 0).kept in
      record {
        between = record { ready = y.0; parted = parted_onward c.closed.now s s p q z.between.parted y.2 };
        onward = onward-more s s s p₀ p q z.onward y.2;
        further = omega (arith, z.further, y.1);
        marked = lm ∙ z.marked;
        goes = λ b.
            let l : limits_of b c.words.now s m ≡ limits_of b c.words.now s m₀ = λ i. record { variables = z.marked i - 1; words = length c.words.now; starts = length s; base = b } in
            z.goes b ∙ finish-more (limits_of b c.words.now s m₀) (proof_of c) (state_in c s m p) (state_in c s m' q) (ap (λ (k : Limits). step k (proof_of c) (state_in c s m p)) (sym l) ∙ sym (d b).same);
      }

-- a hint of a row: a conflict, or a literal that becomes true
module _ (w s m t r : List ℕ) (p : Progress) (z : Ready w s m t r p) (c : Command) (e : c ≡ command_at r p.at) where
  pub row-takes : (x : Hint) → (Hint.Neither ≡ x → ⊥) → x ≡ said_by (state_of w s m r p) c → Takes (state_of w s m r p) c x
  row-takes x n q = taken_hint (state_of w s m r p) x n c (sym q)

  module _ (x : Hint) (y : Takes (state_of w s m r p) c x) where
    pub row-there : y.number < p.count
    row-there = let h = y.there in rw first-length at h

    row_read : command_at r p.at ≡ Command.Hint y.number
    row_read = sym e ∙ y.hint

    pub row-run : RunsFor r p.begin p.literals
    row-run = own_run w s m t r p y.number z row_read y.goes

    row_says : hint_of m (stored_at w s r p.given y.number) ≡ x
    row_says = ap (hint_of m) (sym (first_at (stored_at w s r p.given) p.count y.number row-there)) ∙ y.says

    pub row_conflict : (m' : List ℕ) (q : Progress) → x ≡ Hint.Conflict → q ≡ with_hint p Phase.Conflict p.decided → m' ≡ replicate (length m) 0
        → (b : ℕ) → Did w s m t r p s m' t (Ok (Turn.More q)) (step (limits_of b w s m) r (state_of w s m r p))
    row_conflict m' q f g u b =
        step_hint b w s m t r p s m' t (Ok (Turn.More q)) y.number row_read
        (did_conflict b w s m t r p y.number (Ok (Turn.More q)) z row_read y.goes row-there y.fresh m' (ap (λ (p : Progress). Ok (Turn.More p)) g) (row_says ∙ f) u)

    pub row_unit : (m' t' : List ℕ) (q : Progress) (l : ℕ) → x ≡ Hint.Unit l → m' ≡ set m (l / 2) (true_mark l) → t' ≡ set t p.decided l → q ≡ with_hint p Phase.Hints (p.decided + 1)
        → (b : ℕ) → Did w s m t r p s m' t' (Ok (Turn.More q)) (step (limits_of b w s m) r (state_of w s m r p))
    row_unit m' t' q l f u v g b =
        rw (u, v)
        (step_hint b w s m t r p s (set m (l / 2) (true_mark l)) (set t p.decided l) (Ok (Turn.More q)) y.number row_read
        (did_unit b w s m t r p y.number (Ok (Turn.More q)) z row_read y.goes row-there y.fresh l (ap (λ (p : Progress). Ok (Turn.More p)) g) (row_says ∙ f)))

    pub row_fits : (l : ℕ) → x ≡ Hint.Unit l → l / 2 < length m
    row_fits l f = unit_fits (length m) m l (stored_at w s r p.given y.number) (z.store.each y.number row-there).fits (row_says ∙ f)
