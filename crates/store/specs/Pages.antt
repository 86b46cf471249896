-- What a store holds: pages, numbered from 1, and what it keeps beside them. Assumes nothing.
use Rattle.std.specs.Prelude.{◌≡◌, ℕ, zero, suc, ◌*◌, ◌/◌, ◌≤◌, min, Bool, false, ◌&&◌, List, [], ◌∷◌, length, take, drop, nat_le, nat_lt, slice_index_or}

-- the bytes of a readable page, or the cause and layer by which a page is unreadable
pub data Content : Type 0 where
  bytes : List ℕ → Content
  marked : ℕ → ℕ → Content

pub record Page : Type 0 where
  pub content : Content
  pub writable : Bool

-- what stands at a number that no page has
abbrev pub no_page : Page
no_page = record { content = marked 0 0; writable = false }

abbrev pub page_at : List Page → ℕ → Page
page_at ps zero = no_page
page_at ps (suc i) = slice_index_or ps i no_page

abbrev pub is_page : List Page → ℕ → Bool
is_page ps n = nat_lt 0 n && nat_le n (length ps)

-- a readable page has 512 bytes; cause 18, that addresses ran out, is never a mark's
abbrev pub Whole : Content → Type 0
Whole (bytes bs) = length bs ≡ 512
Whole (marked cause layer) = cause ≡ 18 → ⊥

-- what is so of the pages of every store
pub record Lawful {S : Type 0} (pages : S → List Page) : Type 0 where
  pub few : (s : S) → length (pages s) ≤ 1024
  pub whole : (s : S) (n : ℕ) → Whole (page_at (pages s) n).content

-- how many pages a row of bytes has
abbrev pub page_count : List ℕ → ℕ
page_count bs = min 1024 (length bs / 512)

-- the first k pages of a row of bytes
abbrev pub cut : Bool → ℕ → List ℕ → List Page
cut writable zero bs = []
cut writable (suc k) bs = record { content = bytes (take 512 bs); writable = writable } ∷ cut writable k (drop 512 bs)

abbrev pub paged : Bool → List ℕ → List Page
paged writable bs = cut writable (page_count bs) bs

-- the bytes past the last page
abbrev pub past : List ℕ → List ℕ
past bs = drop (page_count bs * 512) bs

-- what a store keeps beside its pages: the loan that it stands on, by the ghost name of the
-- reference, a shared one by where it points, with the bytes past its last page; and both of two stores
pub data Kept : Type 0 where
  nothing : Kept
  loan : ℕ → List ℕ → Kept
  shared : ℕ → ℕ → List ℕ → Kept
  both : Kept → Kept → Kept
