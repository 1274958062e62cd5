-- The going on to the end: it ends in what the definition says. Assumes nothing.
use Rattle.std.proofs.Common.{◌≡◌, ℕ, ◌+◌, ◌-◌, ◌<◌, List, [], length, replicate, sym, refl, ap, ◌∙◌, subst, true≢false, arith, Result, Ok, Err}
use lib.ListN.{length-replicate}
use lib.Seq.{slice}
use Rattle.proof_reader.specs.Inner.Literals.{literals_at}
use Rattle.proof_reader.specs.Inner.Runs.{Ones}
use Rattle.proof_propagation.specs.Stored.{clauses_of}
use Rattle.proof_propagation.specs.Inner.Standing.{stored_of, HasMarks}
use Rattle.proof_propagation.specs.Inner.Store.{proof_of}
use Rattle.proof_propagation.specs.declared.stored.ClauseStore.{ClauseStore}
use Rattle.proof_propagation.proofs.Standing.{stored_all_given}
use Rattle.proof_check.specs.State.{State, Limits, stop, begin}
use Rattle.proof_check.specs.Check.{step, Outcome, finish, check_proof}
use Rattle.proof_check.specs.Sound.{Refutes}
use Rattle.proof_check.specs.Lent.{limits_of}
use Rattle.proof_check.specs.Inner.Begins.{Begins, Finished}
use Rattle.proof_check.specs.Inner.Held.{state_of, state_in, next_is, ReadyIn, Onward, Parted, Between, Kept, Turned, finish_in}
use Rattle.proof_check.specs.Inner.Rows.{Rowed}
use Rattle.proof_check.specs.declared.Ended.{Ended}
use Rattle.proof_check.specs.declared.Phase.{Phase}
use Rattle.proof_check.specs.declared.Progress.{Progress}
use Rattle.proof_check.specs.declared.Row.{Row}
use Rattle.proof_check.specs.declared.Refusal.{Refusal}
use Rattle.proof_check.specs.declared.Turn.{Turn}
use Rattle.proof_check.specs.declared.Tally.{Tally}
use Rattle.proof_check.proofs.Adding.{zeros_undecided}
use Rattle.proof_check.proofs.Cleaning.{clean_start}
use Rattle.proof_check.proofs.Trailing.{trailed_zeros, other_trail}
use Rattle.proof_check.proofs.Soundness.{sound}
use Rattle.proof_check.proofs.Steady.{finish-more, finish-stop}
use Rattle.proof_check.proofs.Stopping.{onward-more, parted_onward}

-- where the check stands that came from p₀, with s₀ and m₀ as the starts and the marks: from there the rest of the proof gives the same outcome
pub record Going (b : ℕ) (c : ClauseStore) (s₀ m₀ : List ℕ) (p₀ : Progress) (s m t : List ℕ) (p : Progress) : Type 0 where
  pub between : Between c s m t p
  pub onward : Onward s₀ s p₀ p
  pub listed : length s ≡ length s₀
  pub marked : length m ≡ length m₀
  pub rest : finish_in b c s₀ m₀ (state_in c s m p) ≡ finish_in b c s₀ m₀ (state_in c s₀ m₀ p₀)

module _ (b : ℕ) (c : ClauseStore) (s₀ m₀ : List ℕ) (p₀ : Progress) (s m t : List ℕ) (p : Progress) (g : Going b c s₀ m₀ p₀ s m t p) where
  abbrev w : List ℕ
  w = c.words.now

  abbrev r : List ℕ
  r = proof_of c

  abbrev L : Limits
  L = limits_of b w s₀ m₀

  limits : limits_of b w s m ≡ L
  limits i = record { variables = g.marked i - 1; words = length w; starts = g.listed i; base = b }

  -- what stands in the trail behind what was kept does not matter
  pub going-trail : (t' : List ℕ) → length t' ≡ length t → slice 0 p.decided t' ≡ slice 0 p.decided t → Going b c s₀ m₀ p₀ s m t' p
  going-trail t' n e =
      record {
        between = record { ready = other_trail w s m t r p g.between.ready t' n e; parted = g.between.parted };
        onward = g.onward;
        listed = g.listed;
        marked = g.marked;
        rest = g.rest;
      }

  pub going-row : (m' t' : List ℕ) (x : Row) → Rowed c s m p m' t' x → length m' ≡ length m → Going b c s₀ m₀ p₀ s m' t' x.progress
  going-row m' t' x d lm =
      record {
        between = d.between;
        onward = onward-more s₀ s s p₀ p x.progress g.onward d.onward;
        listed = g.listed;
        marked = lm ∙ g.marked;
        rest =
            ap (λ (l : Limits). finish l r (state_of w s m' r x.progress)) (sym limits)
            ∙ sym (d.goes b)
            ∙ ap (λ (l : Limits). finish l r (state_of w s m r p)) limits
            ∙ g.rest;
      }

  module _ (s' m' : List ℕ) (x : Result Turn Refusal) (d : Turned b c s m t p s' m' t x) where
    after : (y : Result Turn Refusal) → x ≡ y → Kept w s m t r p s' m' t y
    after y e = subst (Kept w s m t r p s' m' t) e d.kept

    turn_is : (y : Result Turn Refusal) → x ≡ y → step L r (state_of w s m r p) ≡ next_is w s' m' r y
    turn_is y e = sym (ap (next_is w s' m' r) (sym e) ∙ d.same ∙ ap (λ (l : Limits). step l r (state_of w s m r p)) limits)

    pub going_less : (q : Progress) → x ≡ Ok (Turn.More q) → length r - q.at < length r - p.at
    going_less q e = let y = after (Ok (Turn.More q)) e in omega (arith, y.1, y.0.within)

    pub going_more : (q : Progress) → x ≡ Ok (Turn.More q) → length s' ≡ length s → length m' ≡ length m → Going b c s₀ m₀ p₀ s' m' t q
    going_more q e ls lm =
        let y = after (Ok (Turn.More q)) e in
        record {
          between = record { ready = y.0; parted = parted_onward c.closed.now s s' p q g.between.parted y.2 };
          onward = onward-more s₀ s s' p₀ p q g.onward y.2;
          listed = ls ∙ g.listed;
          marked = lm ∙ g.marked;
          rest = sym (finish-more L r (state_of w s m r p) (state_of w s' m' r q) (turn_is (Ok (Turn.More q)) e)) ∙ g.rest;
        }

    -- the verdict, in the state that is handed back
    gone-stop : (v : Result Tally Refusal) → step L r (state_of w s m r p) ≡ stop v → s' ≡ s → m' ≡ m → Finished c b s₀ m₀ p₀ s' m' t (record { progress = p; verdict = v })
    gone-stop v e y z =
        record {
          same =
              (λ i. record { verdict = v; last = state_of w (y i) (z i) r p })
              ∙ sym (finish-stop L r (state_of w s m r p) v e)
              ∙ g.rest;
          between = rw (y, z) g.between;
          onward = rw y g.onward;
        }

    pub going-ended : (a : Tally) → x ≡ Ok (Turn.Ended a) → Finished c b s₀ m₀ p₀ s' m' t (record { progress = p; verdict = Ok a })
    going-ended a e = let y = after (Ok (Turn.Ended a)) e in gone-stop (Ok a) (turn_is (Ok (Turn.Ended a)) e) y.0 y.1

    pub going-refused : (a : Refusal) → x ≡ Err a → Finished c b s₀ m₀ p₀ s' m' t (record { progress = p; verdict = Err a })
    going-refused a e = let y = after (Err a) e in gone-stop (Err a) (turn_is (Err a) e) y.0 y.1

-- ---- the beginning

abbrev pub starting : (from count used : ℕ) → Progress
starting from count used = record { at = from; begin = from; given = count; used = used; count = count; literals = 0; decided = 0; phase = Phase.Literals; steps = 0; hints = 0 }

-- every mark is set to 0 first
module _ (c : ClauseStore) (one : c.closed.now ≡ []) (from base count used : ℕ) (s m₀ : List ℕ) (b : Begins (proof_of c) from base count used c.words.now s m₀) (m : List ℕ) (unset : m ≡ replicate (length m₀) 0) where
  abbrev words : List ℕ
  words = c.words.now

  abbrev bytes : List ℕ
  bytes = proof_of c

  long : length m ≡ length m₀
  long = ap length unset ∙ length-replicate (length m₀) 0

  ready_start : (t : List ℕ) → ReadyIn c s m t (starting from count used)
  unfolding literals_at Ones HasMarks
  ready_start t =
      record {
        store = rw long b.store;
        fits = tt;
        among = λ _. (omega arith, tt);
        fresh = λ _ l. zeros_undecided m (length m₀) l unset;
        past = λ _ q. absurd (true≢false q);
        undone = λ q. absurd (true≢false (sym q));
        clean = clean_start bytes from (stored_of words s bytes count count) m from refl (rw long unset);
        trailed = trailed_zeros m t bytes (length m₀) (starting from count used) unset;
        marked = rw long b.marked;
        short = b.short;
        begun = omega arith;
        few = omega arith;
        noted = omega arith;
        numbered = omega arith;
        stepped = omega arith;
        hinted = omega arith;
        within = b.within;
        limit = b.limit;
      }

  start_is : state_in c s m (starting from count used) ≡ begin (limits_of base words s m) (clauses_of words s count) from
  unfolding literals_at
  start_is =
      let one : length m - 1 + 1 ≡ length m₀ = omega (arith, long, b.marked) in
      let zeros : m ≡ replicate (length m - 1 + 1) 0 = rw one unset in
      λ i. record { clauses = stored_all_given words s bytes count i; literals = []; marks = zeros i; phase = Phase.Literals; steps = 0; hints = 0; at = from }

  -- nothing stands in the first part of a proof that is one part
  parted_start : Parted c.closed.now s (starting from count used)
  parted_start = rw one (record { begun = omega arith; each = λ i h g k. absurd (omega arith) })

  pub between_start : (t : List ℕ) → Between c s m t (starting from count used)
  between_start t = record { ready = ready_start t; parted = parted_start }

  -- ---- the end
  module _ (s' m' t' : List ℕ) (e : Ended) (f : Finished c base s m (starting from count used) s' m' t' e) where
    pub answered : e.verdict ≡ (check_proof (clauses_of words s count) (limits_of base words s m₀) bytes from).verdict
    unfolding check_proof
    answered =
        let l : limits_of base words s m ≡ limits_of base words s m₀ = λ i. record { variables = long i - 1; words = length words; starts = length s; base = base } in
        ap (λ (o : Outcome). o.verdict) f.same
        ∙ ap (λ (x : State). (finish (limits_of base words s m) bytes x).verdict) start_is
        ∙ ap (λ (k : Limits). (check_proof (clauses_of words s count) k bytes from).verdict) l

    pub refuted : Refutes (clauses_of words s count) e.verdict
    refuted = record { none = λ tally q σ. (sound (clauses_of words s count) (limits_of base words s m₀) bytes from).none tally (sym answered ∙ q) σ }
