-- What is printed, by what the files gave. Assumes nothing.
use Rattle.std.specs.Prelude.{Option, Some, None, Result}
use Prim.Native.Nat.{ℕ, ◌≤◌, ◌<◌}
use mathlib.Core.Path.{◌≡◌, refl, sym, ap, subst, ◌∙◌}
use mathlib.Core.List.{List}
use borrow.Author.Tests.{lt-ltb, le-ltb}
use lib.ListN.{length, take}
use lib.Seq.{length-take-le}
use native.Mathlib.Omega.{arith}
use Rattle.io.specs.Counts.{IsPrefixLen}
use Rattle.report_judgement.specs.Judging.{judgement}
use Rattle.report_judgement.specs.declared.Finding.{Finding}
use Rattle.report_judgement.specs.declared.Refusal.{Refusal}
use Rattle.judge_line.specs.Text.{bytes}
use Rattle.judge_line.specs.Line.{line_of}
use Rattle.judge_files.specs.Inner.Read.{Within, file_of}
use Rattle.judge_files.specs.Printed.{File, readable, AtMost, lent, printed}

pub too_long : (routine report : List ℕ) → 65536 < length report → bytes "too long\n" ≡ printed (readable routine) (readable report)
unfolding printed
too_long routine report l = rw (lt-ltb 65536 (length report) l) refl

pub judged : (routine report : List ℕ) (j : Result Finding Refusal) → length report ≤ 65536 → j ≡ judgement routine report lent → line_of j ≡ printed (readable routine) (readable report)
unfolding printed
judged routine report j l e = ap line_of e ∙ rw (le-ltb 65536 (length report) l) refl

pub counted : (n : ℕ) (xs : List ℕ) → n ≤ length xs → IsPrefixLen n xs
counted n xs l = (l, sym (length-take-le n xs l))

-- where a buffer holds what was read of a file, so many of its bytes are the file's
pub within : (r : Option ℕ) (n : ℕ) (xs : List ℕ) → r ≡ Some n → Within r xs → IsPrefixLen n xs
within r n xs e w = subst (λ (s : Option ℕ). Within s xs) e w

pub no_routine : (routine : Option ℕ) (xs : List ℕ) (report : File) → routine ≡ None → bytes "cannot read routine\n" ≡ printed (file_of routine xs) report
unfolding printed
no_routine routine xs report e = rw e refl

pub no_report : (routine report : Option ℕ) (n : ℕ) (xs ys : List ℕ) → routine ≡ Some n → report ≡ None
    → bytes "cannot read report\n" ≡ printed (file_of routine xs) (file_of report ys)
unfolding printed
no_report routine report n xs ys e f = rw (e, f) refl

pub both : (routine report : Option ℕ) (n m : ℕ) (xs ys : List ℕ) → routine ≡ Some n → report ≡ Some m
    → printed (readable (take n xs)) (readable (take m ys)) ≡ printed (file_of routine xs) (file_of report ys)
both routine report n m xs ys e f = rw (e, f) refl

-- a file gave no more bytes than the buffer has
pub few : (r : Option ℕ) (n : ℕ) (xs : List ℕ) → length xs ≤ n → Within r xs → AtMost n (file_of r xs)
few (Some k) n xs l w = omega (arith, w.0, w.1)
few None n xs l w = tt
