-- A field of a framed page is set, and an object added. Assumes nothing.
use Rattle.std.proofs.Common.{◌≡◌, ℕ, ◌/◌, ◌<◌, Bool, true, false, cond, ◌⊎◌, List, length, get_or, set, sym, refl, ap, ◌∙◌, subst, inl, inr, arith}
use Rattle.std.proofs.lemmas.List.{length-set}
use Rattle.page.specs.Cells.{put_cell}
use Rattle.page.specs.Walks.{link_cells, field_cells, any_leads, leads, links_to, page_of}
use Rattle.page.specs.declared.descriptor.Descriptor.{Descriptor}
use Rattle.store.specs.Rules.{written}
use Rattle.address.specs.Pairing.{Returns}
use Rattle.frame.specs.Links.{address, pointer, swizzled, unswizzled}
use Rattle.frame.specs.Laws.{Served, EndsAt}
use Rattle.frame.proofs.Swizzles.{link_back, places_set, same_places_back, set_field, set_field_back, append, append_back}
use Rattle.stands.specs.Frames.{long_cells, long_bytes, stands_for, Swizzled}
use Rattle.stands.specs.Laws.{Sets, Adds}
use Rattle.stands.proofs.Cells.{length_unswizzled, field_within, put_cell_lem, set_head, any_set, leads_to, links_grown, ends_back}
use Rattle.stands.proofs.Layers.{edited}
use Rattle.stands.proofs.Stands.{each_some, formed, bytes_are}

-- the number v as a frame has it, and back
value_back : (slots pages : List ℕ) (b : Bool) (v : ℕ) → Returns slots pages → (b ≡ true → (v ≡ 0 → ⊥) → 0 < get_or slots (v / 64) 0) → cond b (pointer pages (cond b (address slots v) v)) (cond b (address slots v) v) ≡ v
value_back slots pages true v r k = link_back slots pages v r (k refl)
value_back slots pages false v r k = refl

module _ (ts : List Descriptor) (slots pages cells : List ℕ) (c v : ℕ) (r : Returns slots pages) (fld : get_or (field_cells ts cells) c false ≡ true) (k : get_or (link_cells ts cells) c false ≡ true → (v ≡ 0 → ⊥) → 0 < get_or slots (v / 64) 0) where
  links : link_cells ts (unswizzled ts pages cells) ≡ link_cells ts cells
  links = (same_places_back ts pages cells).0

  fld' : get_or (field_cells ts (unswizzled ts pages cells)) c false ≡ true
  fld' = ap (λ bs. get_or bs c false) (same_places_back ts pages cells).1 ∙ fld

  pub set_turned : unswizzled ts pages (set cells c (cond (get_or (link_cells ts cells) c false) (address slots v) v)) ≡ set (unswizzled ts pages cells) c v
  set_turned =
      set_field_back ts pages cells c (cond (get_or (link_cells ts cells) c false) (address slots v) v) fld
      ∙ ap (λ n. set (unswizzled ts pages cells) c n) (value_back slots pages (get_or (link_cells ts cells) c false) v r k)

  pub set_form : cells ≡ swizzled ts slots (unswizzled ts pages cells) → swizzled ts slots (set (unswizzled ts pages cells) c v) ≡ set cells c (cond (get_or (link_cells ts cells) c false) (address slots v) v)
  set_form form =
      set_field ts slots (unswizzled ts pages cells) c v fld'
      ∙ ap (λ l. set l c (cond (get_or (link_cells ts (unswizzled ts pages cells)) c false) (address slots v) v)) (sym form)
      ∙ ap (λ bs. set cells c (cond (get_or bs c false) (address slots v) v)) links

  pub set_served : Served ts slots (unswizzled ts pages cells) → Served ts slots (set (unswizzled ts pages cells) c v)
  set_served old n e = by (any_set n (link_cells ts (unswizzled ts pages cells)) (unswizzled ts pages cells) c v (ap (λ bs. any_leads n bs (set (unswizzled ts pages cells) c v)) (sym (places_set ts (unswizzled ts pages cells) c v fld').0) ∙ e))
    where
      by : (links_to ts (unswizzled ts pages cells) n ≡ true) ⊎ ((get_or (link_cells ts (unswizzled ts pages cells)) c false ≡ true) × (leads n v ≡ true)) → 0 < get_or slots n 0
      by (inl a) = old n a
      by (inr (a, b)) =
          let l = leads_to n v b in
          subst (λ m. 0 < get_or slots m 0) l.1 (k (ap (λ bs. get_or bs c false) (sym links) ∙ a) l.0)

pub sets : Sets
sets ts slots pages ps fs i c v f g s h wr fld k is =
    let w = s.frames i f h in
    let xs : List ℕ = long_cells ts pages f in
    let ys : List ℕ = set f.cells c (cond (get_or (link_cells ts f.cells) c false) (address slots v) v) in
    let e : unswizzled ts pages ys ≡ set xs c v = set_turned ts slots pages f.cells c v s.table.1 fld k in
    let l : c < length xs = (let m = field_within ts f.cells c fld in omega (arith, length_unswizzled ts pages f.cells)) in
    let d : long_bytes ts pages g ≡ put_cell (long_bytes ts pages f) c v = bytes_are ts pages g ys is.cells ∙ ap page_of e ∙ put_cell_lem xs c v l in
    let n = edited (long_bytes ts pages) ps fs i f s.laid h g is.page is.changed wr in
    let new : Swizzled ts slots pages g =
    formed ts slots pages g ys (set xs c v) is.cells e (sym (set_form ts slots pages f.cells c v s.table.1 fld k w.form)) (set_served ts slots pages f.cells c v s.table.1 fld k w.served) in
    record {
      sound = record { table = s.table; laid = n.fine; frames = each_some {P = Swizzled ts slots pages} fs i g new s.frames };
      stands = n.shown ∙ ap (written (stands_for ts pages ps fs) f.page) d;
    }

pub adds : Adds
adds ts slots pages ps fs i c u h f g s has wr ends low is =
    let w = s.frames i f has in
    let xs : List ℕ = long_cells ts pages f in
    let ys : List ℕ = set (set f.cells 0 u) c h in
    let e : unswizzled ts pages ys ≡ set (set xs 0 u) c h = append_back ts pages f.cells c u h ends in
    let ends' : EndsAt ts xs c = ends_back ts pages f.cells c ends in
    let many : length xs ≡ 64 = length_unswizzled ts pages f.cells ∙ f.whole in
    let d : long_bytes ts pages g ≡ put_cell (put_cell (long_bytes ts pages f) c h) 0 u =
    bytes_are ts pages g ys is.cells ∙ ap page_of (e ∙ set_head xs c u h ends.0) ∙ put_cell_lem (set xs c h) 0 u (omega (arith, length-set xs c h)) ∙ ap (λ bs. put_cell bs 0 u) (put_cell_lem xs c h (omega arith)) in
    let n = edited (long_bytes ts pages) ps fs i f s.laid has g is.page is.changed wr in
    let new : Swizzled ts slots pages g =
    formed ts slots pages g ys (set (set xs 0 u) c h) is.cells e (ap (λ l. set (set l 0 u) c h) w.form ∙ sym (append ts slots xs c u h ends')) (λ m l. w.served m (sym (links_grown ts m xs c u h ends') ∙ l)) in
    record {
      sound = record { table = s.table; laid = n.fine; frames = each_some {P = Swizzled ts slots pages} fs i g new s.frames };
      stands = n.shown ∙ ap (written (stands_for ts pages ps fs) f.page) d;
    }
