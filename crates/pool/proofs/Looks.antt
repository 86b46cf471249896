-- What a frame's cells say of the page that it holds. Assumes nothing.
use Rattle.std.proofs.Common.{◌≡◌, ℕ, zero, suc, ◌+◌, ◌/◌, ◌<◌, ◌≤◌, Bool, true, false, cond, leb, List, [], ◌∷◌, length, get_or, Ok, sym, refl, ap, ◌∙◌, ⊎_elim, arith}
use Rattle.std.proofs.lemmas.List.{get_or_past}
use Rattle.std.proofs.lemmas.Bool.{both_ways, cases_lt, leb-true}
use Rattle.fault.specs.declared.kinds.Fault.{Fault}
use Rattle.fault.specs.Refusals.{Checked, ◌>>◌, ◌else◌}
use Rattle.page.specs.Cells.{cell_at}
use Rattle.page.specs.Descriptors.{declared, linked, type_of, no_type}
use Rattle.page.specs.Form.{first_fault, head_of, type_at}
use Rattle.page.specs.Links.{is_link}
use Rattle.page.specs.Types.{types}
use Rattle.page.specs.Walks.{kind_of, links_from, link_cells, links_to, starts_from, start_cells, cells_of}
use Rattle.page.specs.declared.descriptor.Descriptor.{Descriptor}
use Rattle.frame.specs.Links.{address, pointer, swizzled}
use Rattle.frame.specs.declared.frame.Frame.{Frame}
use Rattle.frame.proofs.Fields.{field_of}
use Rattle.frame.proofs.Swizzles.{any_leads_lem, at_where, same_places_back}
use Rattle.frame.proofs.Valid.{valid_starts, valid_links, at_cells_of, length_cells_of}
use Rattle.frame.proofs.Walks.{length_start_cells}
use Rattle.store.specs.declared.Store.{Ghosts as StoreGhosts}
use Rattle.policy.specs.declared.Policy.{Ghosts as PolicyGhosts}
use Rattle.stands.specs.Frames.{long_cells}
use Rattle.stands.proofs.Courses.{reads, same_starts}
use Rattle.pool.specs.Looking.{field_shown}
use Rattle.pool.specs.Pools.{long_of, StartsIn, kind_in}
use Rattle.pool.specs.declared.pool.Pool.{Pool}
use Rattle.pool.proofs.Opens.{cells_long}

-- where an object starts there is no link
start_no_link : (ts : List Descriptor) (k m : ℕ) (xs : List ℕ) (i : ℕ) → get_or (starts_from ts k xs) i false ≡ true → get_or (links_from ts k m xs) i false ≡ false
start_no_link ts k m [] i e = absurd (both_ways false refl e)
start_no_link ts zero m (x ∷ xs) zero e = refl
start_no_link ts zero m (x ∷ xs) (suc i) e = start_no_link ts (kind_of ts x).size (kind_of ts x).mask xs i e
start_no_link ts (suc k) m (x ∷ xs) zero e = absurd (both_ways false refl e)
start_no_link ts (suc k) m (x ∷ xs) (suc i) e = start_no_link ts k (m / 2) xs i e

pub no_link : (ts : List Descriptor) (xs : List ℕ) (i : ℕ) → get_or (start_cells ts xs) i false ≡ true → get_or (link_cells ts xs) i false ≡ false
no_link ts [] i e = absurd (both_ways false refl e)
no_link ts (x ∷ xs) zero e = refl
no_link ts (x ∷ xs) (suc i) e = start_no_link ts 0 0 xs i e

module _ {S V : Type 0} {stores : StoreGhosts S} {policies : PolicyGhosts V} (q : Pool S V stores policies) (k : ℕ) (f : Frame) (c : ℕ) (x : StartsIn q k f c) where
  pub starts_within : c < 64
  starts_within =
      ⊎_elim
      (λ (l : c < 64). l)
      (λ (l : 64 ≤ c). absurd (both_ways _ (get_or_past (start_cells (types q.catalogue) (cells_of (long_of q f))) c false (omega (arith, length_start_cells (types q.catalogue) (cells_of (long_of q f)), length_cells_of (long_of q f), l))) x.begins))
      (cases_lt c 64)

  pub header_is : get_or f.cells c 0 ≡ cell_at (long_of q f) c
  header_is =
      let w = q.tied.sound.frames k f x.has in
      let here = same_starts (types q.catalogue) q.table.slot_of q.table.page_of f c w q.table.within.1.1.0 f.small ∙ x.begins in
      sym (reads (types q.catalogue) q.table.slot_of q.table.page_of f c w q.table.within.1.1.0 f.small starts_within ∙ ap (λ b. cond b (pointer q.table.page_of (get_or f.cells c 0)) (get_or f.cells c 0)) (no_link (types q.catalogue) f.cells c here))

  pub header_declared : declared (types q.catalogue) (get_or f.cells c 0) ≡ true
  header_declared =
      ap (declared (types q.catalogue)) (header_is ∙ sym (at_cells_of (long_of q f) c starts_within))
      ∙ (valid_starts (types q.catalogue) (length (stores.pages q.store)) f.page (long_of q f) c (q.tied.lawful k f x.has) x.begins).1

-- the head of a lawful page
granted_head : (b : Bool) (e : Fault) (r : Checked (Unit {0})) → ((b else e) >> r) ≡ Ok tt → b ≡ true
granted_head true e r h = refl
granted_head false e r h = let z : ◌≡◌ {A = ℕ} 0 1 = cc in absurd (omega arith)

head_small : (ts : List Descriptor) (p n : ℕ) (bs : List ℕ) → first_fault p n bs ts ≡ Ok tt → head_of bs ≤ 63
head_small ts p n bs e = leb-true (head_of bs) 63 (granted_head (leb (head_of bs) 63) _ _ e)

kind_is : (ts : List Descriptor) (x : ℕ) → declared ts x ≡ true → kind_of ts x ≡ type_of ts x
kind_is ts x e = ap (λ b. cond b (type_of ts x) no_type) e

module _ {S V : Type 0} {stores : StoreGhosts S} {policies : PolicyGhosts V} (q : Pool S V stores policies) (k : ℕ) (f : Frame) (c i : ℕ) (x : StartsIn q k f c) (small : i < (kind_in q f c).size) where
  abbrev bs : List ℕ
  bs = long_of q f

  within : c < 64
  within = starts_within q k f c x

  -- its type, by the cells
  kind_at : kind_of (types q.catalogue) (get_or (cells_of bs) c 0) ≡ type_at (types q.catalogue) bs c
  kind_at =
      kind_is (types q.catalogue) (get_or (cells_of bs) c 0) (valid_starts (types q.catalogue) (length (stores.pages q.store)) f.page bs c (q.tied.lawful k f x.has) x.begins).1
      ∙ ap (type_of (types q.catalogue)) (at_cells_of bs c within)

  pub field_within : c + 1 + i < 64
  field_within =
      let v = valid_starts (types q.catalogue) (length (stores.pages q.store)) f.page bs c (q.tied.lawful k f x.has) x.begins in
      let e = ap (λ (d : Descriptor). d.size) kind_at in
      omega (arith, v.2, e, small, head_small (types q.catalogue) (length (stores.pages q.store)) f.page bs (q.tied.lawful k f x.has))

  pub field_shown_lem : get_or f.cells (c + 1 + i) 0 ≡ field_shown (types q.catalogue) q.table.slot_of bs c i
  field_shown_lem =
      let w = q.tied.sound.frames k f x.has in
      let xs = long_cells (types q.catalogue) q.table.page_of f in
      let j : ℕ = c + 1 + i in
      let e : cells_of bs ≡ xs = cells_long (types q.catalogue) q.table.page_of f q.table.within.1.1.0 in
      let l = (field_of (types q.catalogue) (cells_of bs) c i x.begins (let q = ap (λ (d : Descriptor). d.size) kind_at in omega (arith, q, small)) (omega (arith, length_cells_of bs, field_within))).1 ∙ ap (λ (d : Descriptor). linked d i) kind_at in
      ap (λ (ys : List ℕ). get_or ys j 0) (w.form ∙ ap (λ (ys : List ℕ). swizzled (types q.catalogue) q.table.slot_of ys) (sym e))
      ∙ at_where (address q.table.slot_of) (link_cells (types q.catalogue) (cells_of bs)) (cells_of bs) j refl
      ∙ ap (λ b. cond b (address q.table.slot_of (get_or (cells_of bs) j 0)) (get_or (cells_of bs) j 0)) l
      ∙ ap (λ v. cond (linked (type_at (types q.catalogue) bs c) i) (address q.table.slot_of v) v) (at_cells_of bs j field_within)

  -- its cell in the frame, turned back
  pub field_stored : cond (linked (type_at (types q.catalogue) bs c) i) (pointer q.table.page_of (get_or f.cells (c + 1 + i) 0)) (get_or f.cells (c + 1 + i) 0) ≡ cell_at bs (c + 1 + i)
  field_stored =
      let w = q.tied.sound.frames k f x.has in
      let j : ℕ = c + 1 + i in
      let y : ℕ = get_or f.cells j 0 in
      let l = (field_of (types q.catalogue) (cells_of bs) c i x.begins (let q = ap (λ (d : Descriptor). d.size) kind_at in omega (arith, q, small)) (omega (arith, length_cells_of bs, field_within))).1 ∙ ap (λ (d : Descriptor). linked d i) kind_at in
      let same = ap (λ (ys : List ℕ). get_or (link_cells (types q.catalogue) ys) j false) (cells_long (types q.catalogue) q.table.page_of f q.table.within.1.1.0) ∙ ap (λ (bits : List Bool). get_or bits j false) (same_places_back (types q.catalogue) q.table.page_of f.cells).0 in
      ap (λ b. cond b (pointer q.table.page_of y) y) (sym l ∙ same)
      ∙ sym (reads (types q.catalogue) q.table.slot_of q.table.page_of f j w q.table.within.1.1.0 f.small field_within)

  link_at : linked (type_at (types q.catalogue) bs c) i ≡ true → get_or (link_cells (types q.catalogue) (cells_of bs)) (c + 1 + i) false ≡ true
  link_at l =
      (field_of (types q.catalogue) (cells_of bs) c i x.begins (let q = ap (λ (d : Descriptor). d.size) kind_at in omega (arith, q, small)) (omega (arith, length_cells_of bs, field_within))).1
      ∙ ap (λ (d : Descriptor). linked d i) kind_at ∙ l

  -- a link is absent or leads to a page of the store
  pub field_link : linked (type_at (types q.catalogue) bs c) i ≡ true → is_link (length (stores.pages q.store)) (cell_at bs (c + 1 + i)) ≡ true
  field_link l =
      ap (is_link (length (stores.pages q.store))) (sym (at_cells_of bs (c + 1 + i) field_within)) ∙ valid_links (types q.catalogue) (length (stores.pages q.store)) f.page bs (c + 1 + i) (q.tied.lawful k f x.has) (link_at l)

  -- which has a slot
  pub field_served : linked (type_at (types q.catalogue) bs c) i ≡ true → (cell_at bs (c + 1 + i) ≡ 0 → ⊥) → 0 < get_or q.table.slot_of (cell_at bs (c + 1 + i) / 64) 0
  field_served l some =
      let j : ℕ = c + 1 + i in
      let e = at_cells_of bs j field_within in
      (q.tied.sound.frames k f x.has).served (cell_at bs j / 64)
      (ap (λ (xs : List ℕ). links_to (types q.catalogue) xs (cell_at bs j / 64)) (sym (cells_long (types q.catalogue) q.table.page_of f q.table.within.1.1.0))
      ∙ any_leads_lem (cell_at bs j / 64) (link_cells (types q.catalogue) (cells_of bs)) (cells_of bs) j (link_at l) (λ z. some (sym e ∙ z)) (ap (λ v. v / 64) e))
