-- Reading a command: each way out. Assumes nothing.
use Prim.Native.Nat.{ℕ, ◌+◌, ◌≤◌, ◌<◌}
use mathlib.Core.Path.{◌≡◌, refl, sym, subst, ◌∙◌}
use mathlib.Core.List.{List, ◌++◌}
use mathlib.Core.Bool.{Bool, true, false, cond}
use native.Mathlib.Omega.{arith}
use lib.ListN.{length, length-append}
use lib.Dec.{ltb, leb, eqb}
use borrow.Author.Tests.{ltb-true, leb-true, lt-ltb, le-ltb, le-leb, lt-leb, eq-eqb, ne_eqb, eqb-true}
use Rattle.slices.specs.Bytes.{entry, word}
use Rattle.proof_reader.specs.Command.{command_at}
use Rattle.proof_reader.specs.declared.Command.{Command}
use Rattle.proof_reader.proofs.Running.{entry_append, word_append}

module _ (r : List ℕ) (at : ℕ) where
  pub read_missing : length r ≤ at → Command.Unreadable ≡ command_at r at
  unfolding command_at
  read_missing h = rw (le-ltb at (length r) h)

  module _ (h : at < length r) (kind : ℕ) (e : kind ≡ entry r at) where
    pub read-end : kind ≡ 0 → Command.End ≡ command_at r at
    unfolding command_at
    read-end z = rw (lt-ltb at (length r) h, ← e, eq-eqb kind 0 z)

    pub read_close : kind ≡ 3 → Command.Close ≡ command_at r at
    unfolding command_at
    read_close z = rw (lt-ltb at (length r) h, ← e, z)

    module _ (n0 : kind ≡ 0 → ⊥) (n3 : kind ≡ 3 → ⊥) where
      pub read-cut : length r < at + 5 → Command.Unreadable ≡ command_at r at
      unfolding command_at
      read-cut k = rw (lt-ltb at (length r) h, ← e, ne_eqb kind 0 n0, ne_eqb kind 3 n3, lt-leb (at + 5) (length r) k)

      pub read_unknown : at + 5 ≤ length r → (kind ≡ 1 → ⊥) → (kind ≡ 2 → ⊥) → Command.Unreadable ≡ command_at r at
      unfolding command_at
      read_unknown k n1 n2 = rw (lt-ltb at (length r) h, ← e, ne_eqb kind 0 n0, ne_eqb kind 3 n3, le-leb (at + 5) (length r) k, ne_eqb kind 1 n1, ne_eqb kind 2 n2)

    pub read_literal : at + 5 ≤ length r → kind ≡ 1 → (n : ℕ) → n ≡ word r (at + 1) → Command.Literal n ≡ command_at r at
    unfolding command_at
    read_literal k z n q = rw (lt-ltb at (length r) h, ← e, z, le-leb (at + 5) (length r) k, q)

    pub read_hint : at + 5 ≤ length r → kind ≡ 2 → (n : ℕ) → n ≡ word r (at + 1) → Command.Hint n ≡ command_at r at
    unfolding command_at
    read_hint k z n q = rw (lt-ltb at (length r) h, ← e, z, le-leb (at + 5) (length r) k, q)

-- ---- what stands where a command was read

unfoldable pub Reads : List ℕ → ℕ → Command → Type 0
Reads r at (Command.Literal l) = (at + 5 ≤ length r) × (entry r at ≡ 1) × (word r (at + 1) ≡ l)
Reads r at (Command.Hint h) = (at + 5 ≤ length r) × (entry r at ≡ 2) × (word r (at + 1) ≡ h)
Reads r at Command.Close = (at + 1 ≤ length r) × (entry r at ≡ 3)
Reads r at Command.End = Prim.Unit {0}
Reads r at Command.Unreadable = Prim.Unit {0}

reads_by : (r : List ℕ) (at : ℕ) (there zero three whole one two : Bool) → (there ≡ true → at < length r) → (three ≡ true → entry r at ≡ 3) → (whole ≡ true → at + 5 ≤ length r) → (one ≡ true → entry r at ≡ 1) → (two ≡ true → entry r at ≡ 2)
    → Reads r at (cond there (cond zero Command.End (cond three Command.Close (cond whole (cond one (Command.Literal (word r (at + 1))) (cond two (Command.Hint (word r (at + 1))) Command.Unreadable)) Command.Unreadable))) Command.Unreadable)
unfolding Reads
reads_by r at false zero three whole one two f c g h k = tt
reads_by r at true true three whole one two f c g h k = tt
reads_by r at true false true whole one two f c g h k = (let x = f refl in omega arith, c refl)
reads_by r at true false false false one two f c g h k = tt
reads_by r at true false false true true two f c g h k = (g refl, h refl, refl)
reads_by r at true false false true false true f c g h k = (g refl, k refl, refl)
reads_by r at true false false true false false f c g h k = tt

pub reads : (r : List ℕ) (at : ℕ) → Reads r at (command_at r at)
unfolding command_at
reads r at =
    reads_by r at (ltb at (length r)) (eqb (entry r at) 0) (eqb (entry r at) 3) (leb (at + 5) (length r)) (eqb (entry r at) 1) (eqb (entry r at) 2)
    (λ e. ltb-true at (length r) e) (λ e. eqb-true (entry r at) 3 e) (λ e. leb-true (at + 5) (length r) e) (λ e. eqb-true (entry r at) 1 e) (λ e. eqb-true (entry r at) 2 e)

-- a whole command lies in the proof
module _ (r : List ℕ) (at : ℕ) (c : Command) (e : c ≡ command_at r at) where
  pub literal_within : (l : ℕ) → c ≡ Command.Literal l → at + 5 ≤ length r
  unfolding Reads
  literal_within l q = let h : Reads r at (Command.Literal l) = subst (Reads r at) (sym e ∙ q) (reads r at) in h.0

  pub hint_within : (l : ℕ) → c ≡ Command.Hint l → at + 5 ≤ length r
  unfolding Reads
  hint_within l q = let h : Reads r at (Command.Hint l) = subst (Reads r at) (sym e ∙ q) (reads r at) in h.0

  pub close_within : c ≡ Command.Close → at + 1 ≤ length r
  unfolding Reads
  close_within q = let h : Reads r at Command.Close = subst (Reads r at) (sym e ∙ q) (reads r at) in h.0

-- ---- bytes that come after change no whole command

module _ (r x : List ℕ) (at : ℕ) where
  pub same_literal : (l : ℕ) → Reads r at (Command.Literal l) → command_at (r ++ x) at ≡ Command.Literal l
  unfolding Reads
  same_literal l h =
      let k : at + 5 ≤ length (r ++ x) = rw length-append (let y = h.0 in omega arith) in
      sym (read_literal (r ++ x) at (omega arith) 1 (sym (entry_append r x at (let y = h.0 in omega arith) ∙ h.1)) k refl l (sym (word_append r x (at + 1) (let y = h.0 in omega arith) ∙ h.2)))

  pub same_hint : (n : ℕ) → Reads r at (Command.Hint n) → command_at (r ++ x) at ≡ Command.Hint n
  unfolding Reads
  same_hint n h =
      let k : at + 5 ≤ length (r ++ x) = rw length-append (let y = h.0 in omega arith) in
      sym (read_hint (r ++ x) at (omega arith) 2 (sym (entry_append r x at (let y = h.0 in omega arith) ∙ h.1)) k refl n (sym (word_append r x (at + 1) (let y = h.0 in omega arith) ∙ h.2)))

  pub same_close : Reads r at Command.Close → command_at (r ++ x) at ≡ Command.Close
  unfolding Reads
  same_close h =
      sym (read_close (r ++ x) at (rw length-append (let y = h.0 in omega arith)) 3 (sym (entry_append r x at (let y = h.0 in omega arith) ∙ h.1)) refl)
