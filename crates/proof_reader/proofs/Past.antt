-- A proof in two parts: what stands in the second part, by offsets that go through both. Assumes nothing.
use Prim.Native.Nat.{ℕ, zero, suc, ◌+◌, ◌<◌, ◌≤◌}
use mathlib.Core.Path.{◌≡◌, refl, sym, ◌∙◌}
use mathlib.Core.List.{List, ◌++◌}
use mathlib.Core.Bool.{Bool, true, false}
use native.Mathlib.Omega.{arith}
use lib.ListN.{length, length-append}
use lib.Seq.{get_or-append-add}
use lib.Dec.{ltb, leb}
use borrow.Author.Tests.{ltb-true, ltb-false, lt-ltb, le-ltb, leb-true, leb-false, le-leb, lt-leb}
use Rattle.slices.specs.Bytes.{entry, word}
use Rattle.proof_reader.specs.Command.{command_at}
use Rattle.proof_reader.specs.Inner.Literals.{literals_at, run_at}
use Rattle.proof_reader.specs.Inner.Runs.{RunsFor, Runs}
use Rattle.proof_reader.proofs.Running.{run_is}

-- two tests that come out alike
ltb_alike : (m n k l : ℕ) (b : Bool) → ltb m n ≡ b → (m < n → k < l) → (n ≤ m → l ≤ k) → ltb m n ≡ ltb k l
ltb_alike m n k l true e f g = e ∙ sym (lt-ltb k l (f (ltb-true m n e)))
ltb_alike m n k l false e f g = e ∙ sym (le-ltb k l (g (ltb-false m n e)))

leb_alike : (m n k l : ℕ) (b : Bool) → leb m n ≡ b → (m ≤ n → k ≤ l) → (n < m → l < k) → leb m n ≡ leb k l
leb_alike m n k l true e f g = e ∙ sym (le-leb k l (f (leb-true m n e)))
leb_alike m n k l false e f g = e ∙ sym (lt-leb k l (g (leb-false m n e)))

module _ (a b : List ℕ) where
  pub entry_past : (at i : ℕ) → at ≡ length a + i → entry (a ++ b) at ≡ entry b i
  entry_past at i e = rw e (get_or-append-add a b i 0)

  pub word-past : (at i : ℕ) → at ≡ length a + i → word (a ++ b) at ≡ word b i
  unfolding word
  word-past at i e =
      rw (entry_past at i e, entry_past (at + 1) (i + 1) (omega arith), entry_past (at + 2) (i + 2) (omega arith), entry_past (at + 3) (i + 3) (omega arith)) refl

  pub command_past : (at i : ℕ) → at ≡ length a + i → command_at (a ++ b) at ≡ command_at b i
  unfolding command_at
  command_past at i e =
      let n = length-append a b in
      let there : ltb at (length (a ++ b)) ≡ ltb i (length b) = ltb_alike at (length (a ++ b)) i (length b) _ refl (λ h. omega arith) (λ h. omega arith) in
      let whole : leb (at + 5) (length (a ++ b)) ≡ leb (i + 5) (length b) = leb_alike (at + 5) (length (a ++ b)) (i + 5) (length b) _ refl (λ h. omega arith) (λ h. omega arith) in
      rw (there, whole, entry_past at i e, word-past (at + 1) (i + 1) (omega arith)) refl

  pub literals-past : (at i n : ℕ) → at ≡ length a + i → literals_at (a ++ b) at n ≡ literals_at b i n
  unfolding literals_at
  literals-past at i zero e = refl
  literals-past at i (suc n) e = rw (word-past (at + 1) (i + 1) (omega arith), literals-past (at + 5) (i + 5) n (omega arith)) refl

  pub runs_past : (at i n : ℕ) → at ≡ length a + i → RunsFor (a ++ b) at n → RunsFor b i n
  unfolding RunsFor
  runs_past at i zero e h = (let k = h.0 in omega (arith, length-append a b), λ q. h.1 (entry_past at i e ∙ q))
  runs_past at i (suc n) e h = (sym (entry_past at i e) ∙ h.0, runs_past (at + 5) (i + 5) n (omega arith) h.1)

  pub run_past : (at i : ℕ) → at ≡ length a + i → Runs (a ++ b) at → (Runs b i) × (run_at (a ++ b) at ≡ run_at b i)
  run_past at i e h =
      let k = runs_past at i h.0 e h.1 in
      ((h.0, k), run_is (a ++ b) at h.0 h.1 ∙ literals-past at i h.0 e ∙ sym (run_is b i h.0 k))
