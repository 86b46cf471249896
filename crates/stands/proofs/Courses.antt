-- Reading, and the whole course of a page that comes in. Assumes nothing.
use Rattle.std.proofs.Common.{◌≡◌, ℕ, zero, suc, ◌+◌, ◌^◌, ◌<◌, ◌≤◌, false, cond, ◌⊎◌, List, [], ◌∷◌, length, get_or, set, replicate, Some, None, Option, sym, refl, ap, ◌∙◌, subst, inl, inr, arith}
use Rattle.std.proofs.lemmas.List.{set-get_or, get_or_past}
use Rattle.std.proofs.lemmas.Bool.{cases_lt, cases_eq}
use Rattle.page.specs.Cells.{cell_at}
use Rattle.page.specs.Walks.{link_cells, start_cells, cells_of}
use Rattle.page.specs.declared.descriptor.Descriptor.{Descriptor}
use Rattle.store.specs.Pages.{Page, page_at}
use Rattle.address.specs.Pairing.{Most}
use Rattle.frame.specs.Links.{pointer}
use Rattle.frame.specs.Laws.{EndsAt}
use Rattle.frame.specs.declared.frame.Frame.{Frame}
use Rattle.frame.proofs.Swizzles.{at_where, same_places_back}
use Rattle.frame.proofs.Packs.{cell_of_page, cells_back}
use Rattle.frame.proofs.Valid.{valid_ends}
use Rattle.frame.proofs.Walks.{links_zero}
use Rattle.stands.specs.Frames.{HasAt, Lacks, long_cells, long_bytes, overlay, stored, stands_for, Sound}
use Rattle.stands.specs.Laws.{Keeps, Shown, Reads, Opens, store_left, frames_left, Comes, Settles, LawfulEnds, SameStarts}
use Rattle.stands.proofs.Cells.{length_unswizzled, long_fits, ends_there}
use Rattle.stands.proofs.Layers.{none_some, at_set, holder, Shows, shows}
use Rattle.stands.proofs.Stands.{empties, provides, brings}

pub shown : Shown
shown ts slots pages ps fs s = record {
  many = u.len;
  held = λ i f h. ap (λ (p : Page). p.content) (u.held i f h);
  free = u.free;
  writable = λ n. by n (holder fs n);
}
  where
    u : Shows (long_bytes ts pages) ps fs (overlay (long_bytes ts pages) ps fs)
    u = shows (long_bytes ts pages) ps fs s.laid

    by : (n : ℕ) → ((i : ℕ) × ((f : Frame) × (HasAt fs i f × (f.page ≡ n)))) ⊎ Lacks fs n → (page_at (stands_for ts pages ps fs) n).writable ≡ (page_at ps n).writable
    by n (inl (i, (f, (h, e)))) = subst (λ m. (page_at (stands_for ts pages ps fs) m).writable ≡ (page_at ps m).writable) e (ap (λ (p : Page). p.writable) (u.held i f h))
    by n (inr l) = ap (λ (p : Page). p.writable) (u.free n l)

pub reads : Reads
reads ts slots pages f c w m fits l =
    cell_of_page (long_cells ts pages f) c (omega (arith, length_unswizzled ts pages f.cells, f.whole)) (long_fits ts pages f.cells m fits)
    ∙ at_where (pointer pages) (link_cells ts f.cells) f.cells c refl

nothing : (k i : ℕ) (f : Frame) → HasAt (replicate k None) i f → ⊥
nothing zero i f h = none_some None f refl h
nothing (suc k) zero f h = none_some None f refl h
nothing (suc k) (suc i) f h = nothing k i f h

none_laid : (dec : Frame → List ℕ) (ps : List Page) (k : ℕ) → overlay dec ps (replicate k None) ≡ ps
none_laid dec ps zero = refl
none_laid dec ps (suc k) = none_laid dec ps k

pub opens : Opens
opens ts slots pages ps k a = record {
  sound = record {
    table = a;
    laid = record {
      apart = λ i j f g h _ _. absurd (nothing k i f h);
      within = λ i f h. absurd (nothing k i f h);
      reads = λ i f h. absurd (nothing k i f h);
      clean = λ i f h _. absurd (nothing k i f h);
      dirty = λ i f h _. absurd (nothing k i f h);
    };
    frames = λ i f h. absurd (nothing k i f h);
  };
  stands = none_laid (long_bytes ts pages) ps k;
}

-- one frame is given up, whether it is in use or not
leave_as : (ts : List Descriptor) (slots pages : List ℕ) (ps : List Page) (fs : List (Option Frame)) (v : ℕ) (o : Option Frame) → get_or fs v None ≡ o → Sound ts slots pages ps fs → Keeps ts slots pages (stored (long_bytes ts pages) o ps) (set fs v None) (stands_for ts pages ps fs)
leave_as ts slots pages ps fs v (Some f) e s = empties ts slots pages ps fs v f s e
leave_as ts slots pages ps fs v None e s =
    let same : set fs v None ≡ fs = ap (λ o. set fs v o) (sym e) ∙ set-get_or fs v None in
    subst (λ gs. Keeps ts slots pages ps gs (stands_for ts pages ps fs)) (sym same) record { sound = s; stands = refl }

pub leaves : (ts : List Descriptor) (slots pages : List ℕ) (ps : List Page) (fs : List (Option Frame)) (vs : List ℕ) → Sound ts slots pages ps fs → Keeps ts slots pages (store_left (long_bytes ts pages) ps fs vs) (frames_left fs vs) (stands_for ts pages ps fs)
leaves ts slots pages ps fs [] s = record { sound = s; stands = refl }
leaves ts slots pages ps fs (v ∷ vs) s =
    let a = leave_as ts slots pages ps fs v (get_or fs v None) refl s in
    let b = leaves ts slots pages (stored (long_bytes ts pages) (get_or fs v None) ps) (set fs v None) vs a.sound in
    record { sound = b.sound; stands = b.stands ∙ a.stands }

lacks_none : (fs : List (Option Frame)) (v n : ℕ) → Lacks fs n → Lacks (set fs v None) n
lacks_none fs v n l j p h e = by (at_set fs v j None p h)
  where
    by : ((j ≡ v) × (None ≡ Some p)) ⊎ ((j ≡ v → ⊥) × HasAt fs j p) → ⊥
    by (inl (a, b)) = none_some None p refl b
    by (inr (a, b)) = l j p b e

lacks_left : (fs : List (Option Frame)) (vs : List ℕ) (n : ℕ) → Lacks fs n → Lacks (frames_left fs vs) n
lacks_left fs [] n l = l
lacks_left fs (v ∷ vs) n l = lacks_left (set fs v None) vs n (lacks_none fs v n l)

pub comes : Comes
comes ts slots pages slots' pages' ps fs vs i n bs g s lacks low high rd len fits none a same served is =
    let qs : List Page = store_left (long_bytes ts pages) ps fs vs in
    let gs : List (Option Frame) = frames_left fs vs in
    let k = leaves ts slots pages ps fs vs s in
    let lacks' : Lacks gs n = lacks_left fs vs n lacks in
    let u = shown ts slots pages ps fs s in
    let u' = shown ts slots pages qs gs k.sound in
    let high' : n ≤ length qs = omega (arith, u.many, u'.many, ap length k.stands) in
    let page : page_at qs n ≡ page_at ps n = sym (u'.free n lacks') ∙ ap (λ l. page_at l n) k.stands ∙ u.free n lacks in
    let p = provides ts slots pages slots' pages' qs gs k.sound a same in
    let b = brings ts slots' pages' qs gs i n bs g p.sound none lacks' low high' (ap (λ (x : Page). x.content) page ∙ rd) len fits served is in
    record { sound = b.sound; stands = b.stands ∙ p.stands ∙ k.stands }

-- only pages 1 to 1,024 have slots
has_range : (slots : List ℕ) (n : ℕ) → length slots ≡ 1025 → get_or slots 0 0 ≡ 0 → 0 < get_or slots n 0 → (0 < n) × (n ≤ 1024)
has_range slots n len none h = (low (cases_eq n 0), high (cases_lt n 1025))
  where
    low : (n ≡ 0) ⊎ (n ≡ 0 → ⊥) → 0 < n
    low (inl e) = absurd (let z : get_or slots n 0 ≡ 0 = ap (λ m. get_or slots m 0) e ∙ none in omega arith)
    low (inr d) = omega arith

    high : (n < 1025) ⊎ (1025 ≤ n) → n ≤ 1024
    high (inl l) = omega arith
    high (inr l) = absurd (let z : get_or slots n 0 ≡ 0 = get_or_past slots n 0 (omega (arith, len)) in omega arith)

pub settles : Settles
settles ts slots slots' xs needs served len none marks stay n e =
    let h = served n e in
    let r = has_range slots n len none h in
    sym (stay n r.0 r.1 (marks n e) h)

-- the cells of a frame's bytes
cells_again : (ts : List Descriptor) (pages : List ℕ) (f : Frame) → Most pages 1024 → ((j : ℕ) → get_or f.cells j 0 < 2 ^ 64) → cells_of (long_bytes ts pages f) ≡ long_cells ts pages f
cells_again ts pages f m fits = cells_back (long_cells ts pages f) (length_unswizzled ts pages f.cells ∙ f.whole) (long_fits ts pages f.cells m fits)

pub same_starts : SameStarts
same_starts ts slots pages f k w m fits =
    ap (λ bs. get_or bs k false) (sym (same_places_back ts pages f.cells).2 ∙ ap (start_cells ts) (sym (cells_again ts pages f m fits)))

pub lawful_ends : LawfulEnds
lawful_ends ts slots pages f p n w m fits ok =
    let xs : List ℕ = long_cells ts pages f in
    let cells : cells_of (long_bytes ts pages f) ≡ xs = cells_again ts pages f m fits in
    let head : cell_at (long_bytes ts pages f) 0 ≡ get_or f.cells 0 0 =
    reads ts slots pages f 0 w m fits (omega arith) ∙ ap (λ b. cond b (pointer pages (get_or f.cells 0 0)) (get_or f.cells 0 0)) (links_zero ts f.cells) in
    let e₁ : EndsAt ts xs (cell_at (long_bytes ts pages f) 0 + 1) = subst (λ l. EndsAt ts l (cell_at (long_bytes ts pages f) 0 + 1)) cells (valid_ends ts p n (long_bytes ts pages f) ok) in
    let e₂ : EndsAt ts xs (get_or f.cells 0 0 + 1) = subst (λ k. EndsAt ts xs (k + 1)) head e₁ in
    subst (λ l. EndsAt ts l (get_or f.cells 0 0 + 1)) (sym w.form) (ends_there ts slots xs (get_or f.cells 0 0 + 1) e₂)
