-- The relations as SMT-LIB itself words them, bvult by the numbers and all others as its logic QF_BV abbreviates them. No promise cites
-- these: they are what `relates` is held against (`proofs/SmtLib`).
use Rattle.std.specs.Prelude.{ℕ, ◌-◌, ◌/◌, ◌%◌, ◌^◌, Bool, false, cond, not, ◌&&◌, ◌||◌, ◌==◌, nat_lt}

-- the bit at place w - 1 of a word: 1 or 0
unfoldable pub top_bit : (w a : ℕ) → ℕ
top_bit w a = a / 2 ^ (w - 1) % 2

-- the number of a is below that of b
unfoldable pub bvult : (a b : ℕ) → Bool
bvult a b = nat_lt a b

-- bvult a b, or a is b
unfoldable pub bvule : (a b : ℕ) → Bool
bvule a b = bvult a b || a == b

-- bvult b a
unfoldable pub bvugt : (a b : ℕ) → Bool
bvugt a b = bvult b a

-- bvult b a, or a is b
unfoldable pub bvuge : (a b : ℕ) → Bool
bvuge a b = bvult b a || a == b

-- the top bit of a is 1 and that of b is 0; or the top bits are the same, and bvult a b
unfoldable pub bvslt : (w a b : ℕ) → Bool
bvslt w a b = top_bit w a == 1 && top_bit w b == 0 || top_bit w a == top_bit w b && bvult a b

-- the top bit of a is 1 and that of b is 0; or the top bits are the same, and bvule a b
unfoldable pub bvsle : (w a b : ℕ) → Bool
bvsle w a b = top_bit w a == 1 && top_bit w b == 0 || top_bit w a == top_bit w b && bvule a b

-- bvslt b a
unfoldable pub bvsgt : (w a b : ℕ) → Bool
bvsgt w a b = bvslt w b a

-- bvsle b a
unfoldable pub bvsge : (w a b : ℕ) → Bool
bvsge w a b = bvsle w b a

-- the relation of number r, as in `relates`
unfoldable pub smt_lib : (r w a b : ℕ) → Bool
smt_lib r w a b =
    cond (r == 0) (a == b)
    (cond (r == 1) (not (a == b))
    (cond (r == 2) (bvult a b)
    (cond (r == 3) (bvule a b)
    (cond (r == 4) (bvugt a b)
    (cond (r == 5) (bvuge a b)
    (cond (r == 6) (bvslt w a b)
    (cond (r == 7) (bvsle w a b)
    (cond (r == 8) (bvsgt w a b)
    (cond (r == 9) (bvsge w a b)
    false)))))))))
