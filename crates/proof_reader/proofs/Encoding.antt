-- A command that was written is read back, whatever stands before and after it. Assumes nothing.
use Prim.Native.Nat.{ℕ, ◌<◌}
use mathlib.Core.Path.{◌≡◌, refl, sym, ◌∙◌}
use mathlib.Core.List.{List, ◌∷◌, ◌++◌}
use native.Mathlib.Omega.{arith}
use lib.ListN.{length}
use Rattle.slices.specs.Bytes.{word, word_bytes}
use Rattle.slices.proofs.Digits.{word_value}
use Rattle.proof_reader.specs.Command.{command_at}
use Rattle.proof_reader.specs.Encode.{encode, Whole}
use Rattle.proof_reader.specs.declared.Command.{Command}
use Rattle.proof_reader.proofs.Reading.{read-end, read_close, read_literal, read_hint}
use Rattle.proof_reader.proofs.Past.{command_past}

-- a word's four bytes, after the byte of its command
word_back : (k n : ℕ) (b : List ℕ) → n < 4294967296 → n ≡ word (k ∷ word_bytes n ++ b) 1
unfolding word word_bytes
word_back k n b h = sym (word_value n h)

-- at the start
first_back : (b : List ℕ) (c : Command) → Whole c → command_at (encode c ++ b) 0 ≡ c
unfolding encode Whole word_bytes
first_back b (Command.Literal l) h = sym (read_literal (encode (Command.Literal l) ++ b) 0 (omega arith) 1 refl (omega arith) refl l (word_back 1 l b h))
first_back b (Command.Hint n) h = sym (read_hint (encode (Command.Hint n) ++ b) 0 (omega arith) 2 refl (omega arith) refl n (word_back 2 n b h))
first_back b Command.Close h = sym (read_close (encode Command.Close ++ b) 0 (omega arith) 3 refl refl)
first_back b Command.End h = sym (read-end (encode Command.End ++ b) 0 (omega arith) 0 refl refl)
first_back b Command.Unreadable h = absurd h

pub read_back : (a b : List ℕ) (c : Command) → Whole c → command_at (a ++ (encode c ++ b)) (length a) ≡ c
read_back a b c h = command_past a (encode c ++ b) (length a) 0 (omega arith) ∙ first_back b c h
