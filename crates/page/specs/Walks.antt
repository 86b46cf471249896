-- A page as a list of cells, walked by its headers: links, fields and starts of objects. Assumes nothing.
use Rattle.std.specs.Prelude.{ℕ, zero, suc, ◌/◌, ◌%◌, Bool, true, false, cond, not, ◌&&◌, ◌||◌, List, [], ◌∷◌, map, ◌==◌}
use Rattle.std.specs.List.{range_with_len, flat_map}
use Rattle.page.specs.Cells.{cell_at, bytes_of}
use Rattle.page.specs.Descriptors.{no_type, declared, type_of}
use Rattle.page.specs.declared.descriptor.Descriptor.{Descriptor}

-- the 64 cells of a page's bytes
unfoldable pub cells_of : List ℕ → List ℕ
cells_of bs = map (cell_at bs) (range_with_len 0 64)

-- the bytes of a page of these cells
abbrev pub page_of : List ℕ → List ℕ
page_of xs = flat_map bytes_of xs

-- the type that the header x names, of no fields where it names none
abbrev pub kind_of : List Descriptor → ℕ → Descriptor
kind_of ts x = cond (declared ts x) (type_of ts x) no_type

abbrev pub odd : ℕ → Bool
odd m = m % 2 == 1

-- of the cells xs, the first k are fields of one object, links by the bits of m, and then headers come
abbrev pub links_from : List Descriptor → ℕ → ℕ → List ℕ → List Bool
links_from ts k m [] = []
links_from ts zero m (x ∷ xs) = false ∷ links_from ts (kind_of ts x).size (kind_of ts x).mask xs
links_from ts (suc k) m (x ∷ xs) = odd m ∷ links_from ts k (m / 2) xs

-- for each cell of a page, whether it is a link
abbrev pub link_cells : List Descriptor → List ℕ → List Bool
link_cells ts [] = []
link_cells ts (h ∷ xs) = false ∷ links_from ts 0 0 xs

-- the same walk: whether a cell is a field
abbrev pub fields_from : List Descriptor → ℕ → List ℕ → List Bool
fields_from ts k [] = []
fields_from ts zero (x ∷ xs) = false ∷ fields_from ts (kind_of ts x).size xs
fields_from ts (suc k) (x ∷ xs) = true ∷ fields_from ts k xs

abbrev pub field_cells : List Descriptor → List ℕ → List Bool
field_cells ts [] = []
field_cells ts (h ∷ xs) = false ∷ fields_from ts 0 xs

-- the same walk: whether an object starts at a cell
abbrev pub starts_from : List Descriptor → ℕ → List ℕ → List Bool
starts_from ts k [] = []
starts_from ts zero (x ∷ xs) = declared ts x ∷ starts_from ts (kind_of ts x).size xs
starts_from ts (suc k) (x ∷ xs) = false ∷ starts_from ts k xs

abbrev pub start_cells : List Descriptor → List ℕ → List Bool
start_cells ts [] = []
start_cells ts (h ∷ xs) = false ∷ starts_from ts 0 xs

-- x is present and leads to page n
abbrev pub leads : ℕ → ℕ → Bool
leads n x = not (x == 0) && x / 64 == n

-- a flagged cell leads to page n
abbrev pub any_leads : ℕ → List Bool → List ℕ → Bool
any_leads n [] xs = false
any_leads n (b ∷ bs) [] = false
any_leads n (b ∷ bs) (x ∷ xs) = (b && leads n x) || any_leads n bs xs

-- the page xs, of long pointers, has a link to page n
abbrev pub links_to : List Descriptor → List ℕ → ℕ → Bool
links_to ts xs n = any_leads n (link_cells ts xs) xs
