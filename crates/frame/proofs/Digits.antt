-- The bytes of a cell that is read. Assumes nothing.
use Rattle.std.proofs.Common.{◌≡◌, ℕ, ◌+◌, ◌*◌, ◌/◌, ◌%◌, ◌<◌, ◌≤◌, List, [], ◌∷◌, ◌++◌, length, get_or, drop, sym, refl, ap, ◌∙◌, arith}
use Rattle.std.proofs.lemmas.Nat.{div-mul-add, mod-mul-add}
use Rattle.std.proofs.lemmas.List.{drop_more}
use Rattle.page.specs.Cells.{cell_at, bytes_of}

-- digit k of x, where w is 256 to the k
digit : (x w b z lo : ℕ) → x ≡ (z * 256 + b) * w + lo → lo < w → b < 256 → x / w % 256 ≡ b
digit x w b z lo e l h =
    ap (λ n. n / w % 256) e ∙ ap (λ n. n % 256) (div-mul-add (z * 256 + b) w lo l) ∙ mod-mul-add z 256 b h

-- the bytes are read back from the cell
bytes_back : (a b c d e f g h : ℕ) → a < 256 → b < 256 → c < 256 → d < 256 → e < 256 → f < 256 → g < 256 → h < 256 → bytes_of (a + b * 256 + c * 65536 + d * 16777216 + e * 4294967296 + f * 1099511627776 + g * 281474976710656 + h * 72057594037927936) ≡ a ∷ b ∷ c ∷ d ∷ e ∷ f ∷ g ∷ h ∷ []
bytes_back a b c d e f g h ha hb hc hd he hf hg hh =
    let x = a + b * 256 + c * 65536 + d * 16777216 + e * 4294967296 + f * 1099511627776 + g * 281474976710656 + h * 72057594037927936 in
    let t : x ≡ (b + c * 256 + d * 65536 + e * 16777216 + f * 4294967296 + g * 1099511627776 + h * 281474976710656) * 256 + a = omega arith in
    let e0 : x % 256 ≡ a = ap (λ n. n % 256) t ∙ mod-mul-add (b + c * 256 + d * 65536 + e * 16777216 + f * 4294967296 + g * 1099511627776 + h * 281474976710656) 256 a ha in
    let e1 : x / 256 % 256 ≡ b = digit x 256 b (c + d * 256 + e * 65536 + f * 16777216 + g * 4294967296 + h * 1099511627776) (a) (omega arith) (omega arith) hb in
    let e2 : x / 65536 % 256 ≡ c = digit x 65536 c (d + e * 256 + f * 65536 + g * 16777216 + h * 4294967296) (a + b * 256) (omega arith) (omega arith) hc in
    let e3 : x / 16777216 % 256 ≡ d = digit x 16777216 d (e + f * 256 + g * 65536 + h * 16777216) (a + b * 256 + c * 65536) (omega arith) (omega arith) hd in
    let e4 : x / 4294967296 % 256 ≡ e = digit x 4294967296 e (f + g * 256 + h * 65536) (a + b * 256 + c * 65536 + d * 16777216) (omega arith) (omega arith) he in
    let e5 : x / 1099511627776 % 256 ≡ f = digit x 1099511627776 f (g + h * 256) (a + b * 256 + c * 65536 + d * 16777216 + e * 4294967296) (omega arith) (omega arith) hf in
    let e6 : x / 281474976710656 % 256 ≡ g = digit x 281474976710656 g (h) (a + b * 256 + c * 65536 + d * 16777216 + e * 4294967296 + f * 1099511627776) (omega arith) (omega arith) hg in
    let e7 : x / 72057594037927936 % 256 ≡ h = digit x 72057594037927936 h (0) (a + b * 256 + c * 65536 + d * 16777216 + e * 4294967296 + f * 1099511627776 + g * 281474976710656) (omega arith) (omega arith) hh in
    cc

-- one more byte of the rest
byte : (bs : List ℕ) (j k : ℕ) → j < length bs → k ≡ j + 1 → drop j bs ≡ get_or bs j 0 ∷ drop k bs
byte bs j k h e = drop_more bs j 0 h ∙ ap (λ n. get_or bs j 0 ∷ drop n bs) (sym e)

-- the bytes of a cell that is read are those at its place
pub one_back : (bs : List ℕ) (i : ℕ) → 8 * i + 8 ≤ length bs → ((j : ℕ) → get_or bs j 0 < 256) → bytes_of (cell_at bs i) ++ drop (8 * i + 8) bs ≡ drop (8 * i) bs
unfolding cell_at
one_back bs i h fits =
    let b = bytes_back (get_or bs (8 * i) 0) (get_or bs (8 * i + 1) 0) (get_or bs (8 * i + 2) 0) (get_or bs (8 * i + 3) 0) (get_or bs (8 * i + 4) 0) (get_or bs (8 * i + 5) 0) (get_or bs (8 * i + 6) 0) (get_or bs (8 * i + 7) 0) (fits _) (fits _) (fits _) (fits _) (fits _) (fits _) (fits _) (fits _) in
    let d0 = byte bs (8 * i) (8 * i + 1) (omega arith) refl in
    let d1 = byte bs (8 * i + 1) (8 * i + 2) (omega arith) (omega arith) in
    let d2 = byte bs (8 * i + 2) (8 * i + 3) (omega arith) (omega arith) in
    let d3 = byte bs (8 * i + 3) (8 * i + 4) (omega arith) (omega arith) in
    let d4 = byte bs (8 * i + 4) (8 * i + 5) (omega arith) (omega arith) in
    let d5 = byte bs (8 * i + 5) (8 * i + 6) (omega arith) (omega arith) in
    let d6 = byte bs (8 * i + 6) (8 * i + 7) (omega arith) (omega arith) in
    let d7 = byte bs (8 * i + 7) (8 * i + 8) (omega arith) (omega arith) in
    ap (λ l. l ++ drop (8 * i + 8) bs) b ∙ cc
