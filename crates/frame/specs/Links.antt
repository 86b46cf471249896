-- A page in a frame has addresses where the page in the store has long pointers. Assumes nothing.
use Rattle.std.specs.Prelude.{ℕ, ◌+◌, ◌-◌, ◌*◌, ◌/◌, ◌%◌, ◌^◌, ◌<◌, Bool, false, cond, ◌&&◌, List, [], ◌∷◌, ◌==◌, nat_le, nat_lt, slice_index, slice_index_or, slice_set}
use Rattle.page.specs.Descriptors.{declared, linked}
use Rattle.page.specs.Walks.{kind_of, link_cells, start_cells}
use Rattle.page.specs.declared.descriptor.Descriptor.{Descriptor}
use Rattle.frame.specs.declared.walk.Fields.{Fields}

-- f of the flagged elements, the others as they are
abbrev pub map_where : (ℕ → ℕ) → List Bool → List ℕ → List ℕ
map_where f [] xs = xs
map_where f (b ∷ bs) [] = []
map_where f (b ∷ bs) (x ∷ xs) = cond b (f x) x ∷ map_where f bs xs

-- the address of the long pointer x, by each page's slot (counted from 1, 0 is none): 1048576 and 64 for each slot before, and the cell
abbrev pub address : List ℕ → ℕ → ℕ
address slots x = cond (x == 0) 0 (1048512 + 64 * slice_index slots (x / 64) + x % 64)

-- the long pointer of the address y, by each slot's page
abbrev pub pointer : List ℕ → ℕ → ℕ
pointer pages y = cond (y == 0) 0 (64 * slice_index pages ((y - 1048512) / 64) + y % 64)

-- a page in a frame, of the page in the store
abbrev pub swizzled : List Descriptor → List ℕ → List ℕ → List ℕ
swizzled ts slots xs = map_where (address slots) (link_cells ts xs) xs

-- and back
abbrev pub unswizzled : List Descriptor → List ℕ → List ℕ → List ℕ
unswizzled ts pages ys = map_where (pointer pages) (link_cells ts ys) ys

abbrev pub no_fields : Fields
no_fields = record { left = 0; links = 0 }

-- the fields still to come after the cell x, of the fields k before it; where there are none x is a header
abbrev pub fields_after : List Descriptor → Fields → ℕ → Fields
fields_after ts k x = cond (k.left == 0) (record { left = (kind_of ts x).size; links = (kind_of ts x).mask }) (record { left = k.left - 1; links = k.links / 2 })

-- n is the number of a page that a set can have
abbrev pub is_page : ℕ → Bool
is_page n = nat_lt 0 n && nat_le n 1024

-- an object starts at cell c and has a field f
abbrev pub has_field : List Descriptor → List ℕ → ℕ → ℕ → Bool
has_field ts xs c f = slice_index_or (start_cells ts xs) c false && (nat_lt f (kind_of ts (slice_index xs c)).size && nat_lt (c + 1 + f) 64)

-- v in field f of the object at cell c: g of it, if the field is a link
abbrev pub field_value : List Descriptor → List ℕ → (ℕ → ℕ) → ℕ → ℕ → ℕ → ℕ
field_value ts xs g c f v = cond (linked (kind_of ts (slice_index xs c)) f) (g v) v

-- the page xs has room for an object of type h
abbrev pub room_for : List Descriptor → List ℕ → ℕ → Bool
room_for ts xs h = declared ts h && nat_le (slice_index xs 0 + 1 + (kind_of ts h).size) 63

-- ys with an object of type h, its fields zero, after the u cells in use
abbrev pub appended : List Descriptor → ℕ → ℕ → List ℕ → List ℕ
appended ts u h ys = slice_set (slice_set ys 0 (u + 1 + (kind_of ts h).size)) (u + 1) h

-- each cell has 64 bits
abbrev pub Small : List ℕ → Type 0
Small xs = (j : ℕ) → slice_index xs j < 2 ^ 64
