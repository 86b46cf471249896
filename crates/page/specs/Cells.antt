-- The cells of a page's bytes. Assumes nothing.
use Rattle.std.specs.Prelude.{ℕ, ◌+◌, ◌*◌, ◌/◌, ◌%◌, Bool, cond, List, [], ◌∷◌, ◌++◌, length, take, drop, Some, None, Option, nat_le, slice_index}

-- the number in cell i, lowest byte first
unfoldable pub cell_at : List ℕ → ℕ → ℕ
cell_at bs i =
    slice_index bs (8 * i) + slice_index bs (8 * i + 1) * 256 + slice_index bs (8 * i + 2) * 65536 + slice_index bs (8 * i + 3) * 16777216 + slice_index bs (8 * i + 4) * 4294967296 + slice_index bs (8 * i + 5) * 1099511627776 + slice_index bs (8 * i + 6) * 281474976710656 + slice_index bs (8 * i + 7) * 72057594037927936

-- whether the bytes have all of cell i
abbrev pub has_cell : List ℕ → ℕ → Bool
has_cell bs i = nat_le (8 * i + 8) (length bs)

-- cell i, if the bytes have all of it
abbrev pub cell_in : List ℕ → ℕ → Option ℕ
cell_in bs i = cond (has_cell bs i) (Some (cell_at bs i)) None

-- the eight bytes of x
abbrev pub bytes_of : ℕ → List ℕ
bytes_of x =
    (x % 256) ∷ (x / 256 % 256) ∷ (x / 65536 % 256) ∷ (x / 16777216 % 256) ∷ (x / 4294967296 % 256) ∷ (x / 1099511627776 % 256) ∷ (x / 281474976710656 % 256) ∷ (x / 72057594037927936 % 256) ∷ []

-- the bytes with x in cell i
unfoldable pub put_at : List ℕ → ℕ → ℕ → List ℕ
put_at bs i x = take (8 * i) bs ++ (bytes_of x ++ drop (8 * i + 8) bs)

-- and as they are, if they have not all of cell i
abbrev pub put_cell : List ℕ → ℕ → ℕ → List ℕ
put_cell bs i x = cond (has_cell bs i) (put_at bs i x) bs
