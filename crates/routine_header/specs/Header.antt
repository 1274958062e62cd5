-- The header of a routine.
use Rattle.std.specs.Prelude.{ℕ, zero, suc, ◌+◌, ◌*◌, List, Result, Ok, Err, Bool, cond, ◌&&◌, length, ltb, leb, eqb}
use Rattle.slices.specs.Bytes.{entry, half}
use Rattle.slices.specs.Guard.{unless}
use Rattle.routine_header.specs.declared.Header.{Header}

-- lo ≤ n ≤ hi
abbrev pub between : (lo hi n : ℕ) → Bool
between lo hi n = leb lo n && leb n hi

-- there is a byte at i, from lo to hi
unfoldable pub within : List ℕ → (i lo hi : ℕ) → Bool
within bs i lo hi = ltb i (length bs) && between lo hi (entry bs i)

-- a width at i: 1 to 32 bits
abbrev pub width_ok : List ℕ → ℕ → Bool
width_ok bs i = within bs i 1 32

-- a whole size at i: 1 to 4,096
unfoldable pub size_ok : List ℕ → ℕ → Bool
size_ok bs i = ltb (i + 1) (length bs) && between 1 4096 (half bs i)

-- the first of n places from `at` on, `step` bytes apart, that is not ok, or the place after them all
unfoldable pub first_bad : (ok : ℕ → Bool) → (step n at : ℕ) → ℕ
first_bad ok step zero at = at
first_bad ok step (suc n) at = cond (ok at) (first_bad ok step n (at + step)) at

-- 0x01; the number of variables; their widths; the number of parameters; the number of arrays; their sizes. Or the offset that is wrong.
unfoldable pub header_of : List ℕ → Result Header ℕ
unfolding unless
header_of bs =
    let v : ℕ = entry bs 1 in
    let n : ℕ = entry bs (v + 3) in
    let w : ℕ = first_bad (width_ok bs) 1 v 2 in
    let z : ℕ = first_bad (size_ok bs) 2 n (v + 4) in
    unless (within bs 0 1 1) (Err 0)
    (unless (within bs 1 1 32) (Err 1)
    (unless (eqb w (v + 2)) (Err w)
    (unless (within bs (v + 2) 0 v) (Err (v + 2))
    (unless (within bs (v + 3) 0 16) (Err (v + 3))
    (unless (eqb z (v + 4 + 2 * n)) (Err z)
    (Ok (record { variables = v; parameters = entry bs (v + 2); arrays = n })))))))

-- the offset of the first command
abbrev pub first_command : Header → ℕ
first_command h = h.variables + 4 + 2 * h.arrays

-- the width of variable v
abbrev pub width : List ℕ → ℕ → ℕ
width bs v = entry bs (v + 2)

-- the size of an array
abbrev pub array_size : List ℕ → Header → ℕ → ℕ
array_size bs h array = half bs (h.variables + 4 + 2 * array)
