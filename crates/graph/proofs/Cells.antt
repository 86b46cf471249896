-- The cells of pages that are edited. Assumes nothing.
use Rattle.std.proofs.Common.{◌≡◌, ℕ, zero, suc, ◌+◌, ◌*◌, ◌/◌, ◌%◌, ◌^◌, ◌<◌, ◌≤◌, cond, eqb, List, [], ◌∷◌, ◌++◌, length, get_or, take, drop, set, sym, refl, ap, ◌∙◌, subst, ⊎_elim, arith}
use Rattle.std.proofs.lemmas.Nat.{div-mul-add, mod-mul-add}
use Rattle.std.proofs.lemmas.Bool.{cases_eq, cases_lt, eq-eqb, ne_eqb, lt-leb}
use Rattle.page.specs.Cells.{cell_at, bytes_of, put_at, put_cell}
use Rattle.page.proofs.Rounds.{put_in, cell_put, cell_beside, length_put}
use Rattle.store.specs.Pages.{Content, bytes, marked, Page, no_page, page_at, Whole}
use Rattle.graph.specs.Edits.{Edit, put_all, changed_bytes, changed_page, changed, made, last_put, last_of, edits_of}
use Rattle.graph.specs.Laws.{AllWhole, WholeKept, Holds, CellsLast}
use Rattle.graph.proofs.Runs.{in_order, other_changed}

-- digit b of x, where w is 256 to its place
digit : (x w b z lo : ℕ) → x ≡ (z * 256 + b) * w + lo → lo < w → b < 256 → x / w % 256 ≡ b
digit x w b z lo e l h =
    ap (λ n. n / w % 256) e ∙ ap (λ n. n % 256) (div-mul-add (z * 256 + b) w lo l) ∙ mod-mul-add z 256 b h

-- the bytes are those of what fits
bytes_fit : (x q y : ℕ) → x ≡ q * 2 ^ 64 + y → bytes_of x ≡ bytes_of y
bytes_fit x q y e =
    let e0 : x % 256 ≡ y % 256 = omega arith in
    let e1 : x / 256 % 256 ≡ y / 256 % 256 = digit x 256 (y / 256 % 256) (q * 281474976710656 + y / 256 / 256) (y % 256) (omega arith) (omega arith) (omega arith) in
    let e2 : x / 65536 % 256 ≡ y / 65536 % 256 = digit x 65536 (y / 65536 % 256) (q * 1099511627776 + y / 65536 / 256) (y % 65536) (omega arith) (omega arith) (omega arith) in
    let e3 : x / 16777216 % 256 ≡ y / 16777216 % 256 = digit x 16777216 (y / 16777216 % 256) (q * 4294967296 + y / 16777216 / 256) (y % 16777216) (omega arith) (omega arith) (omega arith) in
    let e4 : x / 4294967296 % 256 ≡ y / 4294967296 % 256 = digit x 4294967296 (y / 4294967296 % 256) (q * 16777216 + y / 4294967296 / 256) (y % 4294967296) (omega arith) (omega arith) (omega arith) in
    let e5 : x / 1099511627776 % 256 ≡ y / 1099511627776 % 256 = digit x 1099511627776 (y / 1099511627776 % 256) (q * 65536 + y / 1099511627776 / 256) (y % 1099511627776) (omega arith) (omega arith) (omega arith) in
    let e6 : x / 281474976710656 % 256 ≡ y / 281474976710656 % 256 = digit x 281474976710656 (y / 281474976710656 % 256) (q * 256 + y / 281474976710656 / 256) (y % 281474976710656) (omega arith) (omega arith) (omega arith) in
    let e7 : x / 72057594037927936 % 256 ≡ y / 72057594037927936 % 256 = digit x 72057594037927936 (y / 72057594037927936 % 256) (q * 1 + y / 72057594037927936 / 256) (y % 72057594037927936) (omega arith) (omega arith) (omega arith) in
    cc

put_fit : (bs : List ℕ) (i x : ℕ) → put_at bs i x ≡ put_at bs i (x % 2 ^ 64)
unfolding put_at
put_fit bs i x = ap (λ l. take (8 * i) bs ++ (l ++ drop (8 * i + 8) bs)) (bytes_fit x (x / 2 ^ 64) (x % 2 ^ 64) (omega arith))

-- a cell takes what fits
cell_taken : (bs : List ℕ) (i x : ℕ) → 8 * i + 8 ≤ length bs → cell_at (put_at bs i x) i ≡ x % 2 ^ 64
cell_taken bs i x h = ap (λ l. cell_at l i) (put_fit bs i x) ∙ cell_put bs i (x % 2 ^ 64) h (omega arith)

pub put_read : (bs : List ℕ) (i x : ℕ) → 8 * i + 8 ≤ length bs → x < 2 ^ 64 → cell_at (put_cell bs i x) i ≡ x
put_read bs i x h lt = ap (λ l. cell_at l i) (put_in bs i x h) ∙ cell_put bs i x h lt

pub put_beside : (bs : List ℕ) (i x k : ℕ) → 8 * i + 8 ≤ length bs → (k ≡ i → ⊥) → cell_at (put_cell bs i x) k ≡ cell_at bs k
put_beside bs i x k h ne = ap (λ l. cell_at l k) (put_in bs i x h) ∙ cell_beside bs i x k h ne

put_out : (bs : List ℕ) (i x : ℕ) → length bs < 8 * i + 8 → put_cell bs i x ≡ bs
put_out bs i x h = simp (lt-leb (8 * i + 8) (length bs) h)

pub length_put_cell : (bs : List ℕ) (i x : ℕ) → length (put_cell bs i x) ≡ length bs
length_put_cell bs i x =
    ⊎_elim
    (λ h. ap length (put_out bs i x h))
    (λ h. ap length (put_in bs i x h) ∙ length_put bs i x h)
    (cases_lt (length bs) (8 * i + 8))

cell_after : (bs : List ℕ) (i x k : ℕ) → length bs ≡ 512 → k < 64 → cell_at (put_cell bs i x) k ≡ cond (eqb k i) (x % 2 ^ 64) (cell_at bs k)
cell_after bs i x k l h =
    ⊎_elim
    (λ e. let in-it : 8 * i + 8 ≤ length bs = omega arith in
    ap (λ c. cell_at c k) (put_in bs i x in-it) ∙ ap (cell_at (put_at bs i x)) e ∙ cell_taken bs i x in-it ∙ simp (eq-eqb k i e))
    (λ ne. ⊎_elim
    (λ out. ap (λ c. cell_at c k) (put_out bs i x out))
    (λ in-it. ap (λ c. cell_at c k) (put_in bs i x in-it) ∙ cell_beside bs i x k in-it ne)
    (cases_lt (length bs) (8 * i + 8)) ∙ simp (ne_eqb k i ne))
    (cases_eq k i)

length_put_all : (xs : List (ℕ × ℕ)) (bs : List ℕ) → length (put_all xs bs) ≡ length bs
length_put_all [] bs = refl
length_put_all (p ∷ xs) bs = length_put_all xs (put_cell bs p.0 p.1) ∙ length_put_cell bs p.0 p.1

cell_put_all : (xs : List (ℕ × ℕ)) (bs : List ℕ) (k : ℕ) → length bs ≡ 512 → k < 64 → cell_at (put_all xs bs) k ≡ last_put xs k (cell_at bs k)
cell_put_all [] bs k l h = refl
cell_put_all (p ∷ xs) bs k l h =
    cell_put_all xs (put_cell bs p.0 p.1) k (length_put_cell bs p.0 p.1 ∙ l) h ∙ ap (last_put xs k) (cell_after bs p.0 p.1 k l h)

here_set : (xs : List (ℕ × ℕ)) (ps : List Page) (i : ℕ) → get_or (set ps i (changed_page xs (get_or ps i no_page))) i no_page ≡ changed_page xs (get_or ps i no_page)
here_set xs [] i = refl
here_set xs (p ∷ ps) zero = refl
here_set xs (p ∷ ps) (suc i) = here_set xs ps i

pub here_changed : (n : ℕ) (xs : List (ℕ × ℕ)) (ps : List Page) → page_at (changed n xs ps) n ≡ changed_page xs (page_at ps n)
here_changed zero xs ps = refl
here_changed (suc i) xs ps = here_set xs ps i

whole_bytes : (xs : List (ℕ × ℕ)) (k : Content) → Whole k → Whole (changed_bytes xs k)
whole_bytes xs (bytes bs) h = length_put_all xs bs ∙ h
whole_bytes xs (marked c l) h = h

pub whole_changed : (n : ℕ) (xs : List (ℕ × ℕ)) (ps : List Page) → AllWhole ps → AllWhole (changed n xs ps)
whole_changed n xs ps h m =
    ⊎_elim
    (λ e. subst (λ i. Whole (page_at (changed n xs ps) i).content) (sym e) (subst (λ (p : Page). Whole p.content) (sym (here_changed n xs ps)) (whole_bytes xs (page_at ps n).content (h n))))
    (λ ne. subst (λ (p : Page). Whole p.content) (sym (other_changed m n xs ps (ne_eqb m n ne))) (h m))
    (cases_eq m n)

whole_made : (es : List Edit) (ps : List Page) → AllWhole ps → AllWhole (made es ps)
whole_made [] ps h = h
whole_made (e ∷ es) ps h = whole_made es (changed e.page e.puts ps) (whole_changed e.page e.puts ps h)

pub whole_kept : WholeKept
whole_kept s g cs h = subst AllWhole (sym (in_order s g cs)) (whole_made (edits_of s g cs) g.pages h)

held_changed : (ps : List Page) (e : Edit) (n k x : ℕ) → AllWhole ps → k < 64 → Holds ps n k x → Holds (changed e.page e.puts ps) n k (cond (eqb n e.page) (last_put e.puts k x) x)
held_changed ps e n k x w lt h =
    ⊎_elim
    (λ q. record {
      held = put_all e.puts h.held;
      reads =
          subst (λ i. (page_at (changed i e.puts ps) n).content ≡ bytes (put_all e.puts h.held)) q
          (ap (λ (p : Page). p.content) (here_changed n e.puts ps) ∙ ap (changed_bytes e.puts) h.reads);
      cell =
          cell_put_all e.puts h.held k (subst Whole h.reads (w n)) lt
          ∙ ap (last_put e.puts k) h.cell ∙ simp (eq-eqb n e.page q);
    })
    (λ q. record {
      held = h.held;
      reads = ap (λ (p : Page). p.content) (other_changed n e.page e.puts ps (ne_eqb n e.page q)) ∙ h.reads;
      cell = h.cell ∙ simp (ne_eqb n e.page q);
    })
    (cases_eq n e.page)

held_made : (es : List Edit) (ps : List Page) (n k x : ℕ) → AllWhole ps → k < 64 → Holds ps n k x → Holds (made es ps) n k (last_of es n k x)
held_made [] ps n k x w lt h = h
held_made (e ∷ es) ps n k x w lt h =
    held_made es (changed e.page e.puts ps) n k (cond (eqb n e.page) (last_put e.puts k x) x) (whole_changed e.page e.puts ps w) lt (held_changed ps e n k x w lt h)

pub cells_last : CellsLast
cells_last s g cs n k x w lt h =
    subst (λ ps. Holds ps n k (last_of (edits_of s g cs) n k x)) (sym (in_order s g cs)) (held_made (edits_of s g cs) g.pages n k x w lt h)
