-- Whether two buffers hold clauses one after another from the beginning, of variables 1 to a number of them.
use Rattle.std.specs.Prelude.{ℕ, zero, suc, ◌+◌, List, Bool, ◌&&◌, cond, length, ltb, leb, eqb, Option, Some, None}
use Rattle.std.specs.List.{list_all}
use Rattle.std.proofs.Math.Seq.{slice}
use Rattle.slices.specs.Bytes.{entry}
use Rattle.proof_check.specs.Check.{of_variable}

-- each is a literal of one of n variables
abbrev pub literals_fit : (n : ℕ) → List ℕ → Bool
literals_fit n c = list_all (λ l. of_variable n l) c

-- where a clause at an offset ends
abbrev pub end_at : List ℕ → ℕ → ℕ
end_at words at = at + 1 + entry words at

-- clause i stands at an offset: its entry says so, it lies within the words, and its literals are of the variables
unfoldable pub clause_fits : (words starts : List ℕ) → (variables i at : ℕ) → Bool
clause_fits words starts variables i at =
    ltb i (length starts) && eqb (entry starts i) at && leb (end_at words at) (length words) && literals_fit variables (slice (at + 1) (end_at words at) words)

-- the next n clauses, from number i on, stand one after another from an offset on: where they end
unfoldable pub standing : (words starts : List ℕ) → (variables n i at : ℕ) → Option ℕ
unfolding clause_fits
standing words starts variables zero i at = Some at
standing words starts variables (suc n) i at = cond (clause_fits words starts variables i at) (standing words starts variables n (i + 1) (end_at words at)) None
