-- Another table, and frames emptied, filled and saved. Assumes nothing.
use Rattle.std.proofs.Common.{◌≡◌, ℕ, ◌<◌, ◌≤◌, false, cond, ◌⊎◌, List, length, set, Some, None, Option, sym, refl, ap, ◌∙◌, subst, inl, inr, arith}
use Rattle.std.proofs.lemmas.Bool.{both_ways}
use Rattle.page.specs.Walks.{cells_of, page_of}
use Rattle.page.specs.declared.descriptor.Descriptor.{Descriptor}
use Rattle.store.specs.Pages.{bytes, Page, page_at}
use Rattle.store.specs.Rules.{written}
use Rattle.address.specs.Pairing.{Agree}
use Rattle.frame.specs.Links.{swizzled, unswizzled}
use Rattle.frame.specs.Laws.{Served, Settled}
use Rattle.frame.specs.declared.frame.Frame.{Frame}
use Rattle.frame.proofs.Swizzles.{back, unmoved, kept}
use Rattle.frame.proofs.Packs.{page_back}
use Rattle.stands.specs.Frames.{is_readable, HasAt, Lacks, long_cells, long_bytes, overlay, saved, Is, stands_for, Swizzled, Sound}
use Rattle.stands.specs.Laws.{Keeps, Provides, Empties, Brings, Saves, AllClean, SavesAll}
use Rattle.stands.proofs.Layers.{none_some, some_inj, at_set, evicted, written_if, same_overlay, same_laid, brought_in, kept_after, all_clean, saved_is, Shows, shows, Fits, laid_by}

-- a fact of each frame, after one is emptied
each_none : {P : Frame → Type 0} (fs : List (Option Frame)) (i : ℕ) → ((j : ℕ) (f : Frame) → HasAt fs j f → P f) → (j : ℕ) (f : Frame) → HasAt (set fs i None) j f → P f
each_none {P} fs i all j f h = by (at_set fs i j None f h)
  where
    by : ((j ≡ i) × (None ≡ Some f)) ⊎ ((j ≡ i → ⊥) × HasAt fs j f) → P f
    by (inl (a, b)) = absurd (none_some None f refl b)
    by (inr (a, b)) = all j f b

-- or filled
pub each_some : {P : Frame → Type 0} (fs : List (Option Frame)) (i : ℕ) (g : Frame) → P g → ((j : ℕ) (f : Frame) → HasAt fs j f → P f) → (j : ℕ) (f : Frame) → HasAt (set fs i (Some g)) j f → P f
each_some {P} fs i g new all j f h = by (at_set fs i j (Some g) f h)
  where
    by : ((j ≡ i) × (Some g ≡ Some f)) ⊎ ((j ≡ i → ⊥) × HasAt fs j f) → P f
    by (inl (a, b)) = subst P (some_inj (Some g) g f refl b) new
    by (inr (a, b)) = all j f b

pub empties : Empties
empties ts slots pages ps fs i f s h =
    let dec : Frame → List ℕ = long_bytes ts pages in
    let e : cond f.changed (written ps f.page (dec f)) ps ≡ written ps f.page (dec f) = written_if dec ps fs i f s.laid h f.changed refl in
    let n = evicted dec ps fs i f s.laid h in
    subst (λ qs. Keeps ts slots pages qs (set fs i None) (stands_for ts pages ps fs)) (sym e)
    record {
      sound = record { table = s.table; laid = n.fine; frames = each_none {P = Swizzled ts slots pages} fs i s.frames };
      stands = n.shown;
    }

-- the frame's cells turned back by another table
turned : (ts : List Descriptor) (slots pages slots' pages' : List ℕ) (f : Frame) → Swizzled ts slots pages f → Agree pages' slots' → Settled ts slots slots' (long_cells ts pages f) → long_cells ts pages' f ≡ long_cells ts pages f
turned ts slots pages slots' pages' f w a same =
    ap (unswizzled ts pages') w.form ∙ kept ts slots slots' pages' (long_cells ts pages f) same w.served a.1

pub provides : Provides
provides ts slots pages slots' pages' ps fs s a same = record {
  sound = record { table = a; laid = same_laid (long_bytes ts pages) (long_bytes ts pages') ps fs agree s.laid; frames = forms };
  stands = same_overlay (long_bytes ts pages) (long_bytes ts pages') ps fs agree;
}
  where
    long : (i : ℕ) (f : Frame) → HasAt fs i f → long_cells ts pages' f ≡ long_cells ts pages f
    long i f h = turned ts slots pages slots' pages' f (s.frames i f h) a (same i f h)

    agree : (i : ℕ) (f : Frame) → HasAt fs i f → long_bytes ts pages' f ≡ long_bytes ts pages f
    agree i f h = ap page_of (long i f h)

    forms : (i : ℕ) (f : Frame) → HasAt fs i f → Swizzled ts slots' pages' f
    forms i f h =
        let w = s.frames i f h in
        let e = long i f h in
        record {
          form = w.form ∙ unmoved ts slots slots' (long_cells ts pages f) (same i f h) ∙ ap (swizzled ts slots') (sym e);
          served = subst (λ xs. Served ts slots' xs) (sym e) (λ n l. subst (λ k. 0 < k) (same i f h n l) (w.served n l));
        }

-- a frame with the cells ys, which are the long pointers xs swizzled
pub formed : (ts : List Descriptor) (slots pages : List ℕ) (g : Frame) (ys xs : List ℕ) → g.cells ≡ ys → unswizzled ts pages ys ≡ xs → ys ≡ swizzled ts slots xs → Served ts slots xs → Swizzled ts slots pages g
formed ts slots pages g ys xs c e f s =
    let t : unswizzled ts pages g.cells ≡ xs = ap (unswizzled ts pages) c ∙ e in
    record { form = c ∙ f ∙ ap (swizzled ts slots) (sym t); served = subst (λ zs. Served ts slots zs) (sym t) s }

pub bytes_are : (ts : List Descriptor) (pages : List ℕ) (g : Frame) (ys : List ℕ) → g.cells ≡ ys → long_bytes ts pages g ≡ page_of (unswizzled ts pages ys)
bytes_are ts pages g ys c = ap (λ zs. page_of (unswizzled ts pages zs)) c

pub brings : Brings
brings ts slots pages ps fs i n bs g s none lacks low high reads len fits served is =
    let xs : List ℕ = cells_of bs in
    let b : unswizzled ts pages (swizzled ts slots xs) ≡ xs = back ts slots pages xs s.table.1 served in
    let d : long_bytes ts pages g ≡ bs = bytes_are ts pages g (swizzled ts slots xs) is.cells ∙ ap page_of b ∙ page_back bs len fits in
    let v : (page_at ps g.page).content ≡ bytes (long_bytes ts pages g) = ap (λ m. (page_at ps m).content) is.page ∙ reads ∙ ap bytes (sym d) in
    let fit : Fits (long_bytes ts pages) ps g = record { within = subst (λ m. (0 < m) × (m ≤ length ps)) (sym is.page) (low, high); reads = ap is_readable v; clean = λ _. v; dirty = λ e. absurd (both_ways _ is.changed e) } in
    let m = brought_in (long_bytes ts pages) ps fs i g s.laid none (subst (λ k. Lacks fs k) (sym is.page) lacks) fit v in
    record {
      sound = record { table = s.table; laid = m.fine; frames = each_some {P = Swizzled ts slots pages} fs i g (formed ts slots pages g (swizzled ts slots xs) xs is.cells b refl served) s.frames };
      stands = m.shown;
    }

pub clear_form : (ts : List Descriptor) (slots pages : List ℕ) (f g : Frame) → g.cells ≡ f.cells → Swizzled ts slots pages f → Swizzled ts slots pages g
clear_form ts slots pages f g e w = formed ts slots pages g f.cells (long_cells ts pages f) e refl w.form w.served

pub saves : Saves
saves ts slots pages ps fs i f g s h is =
    let dec : Frame → List ℕ = long_bytes ts pages in
    let e : cond f.changed (written ps f.page (dec f)) ps ≡ written ps f.page (dec f) = written_if dec ps fs i f s.laid h f.changed refl in
    let n = kept_after dec ps fs i f s.laid h g is.page is.changed (bytes_are ts pages g f.cells is.cells) in
    subst (λ qs. Keeps ts slots pages qs (set fs i (Some g)) (stands_for ts pages ps fs)) (sym e)
    record {
      sound = record { table = s.table; laid = n.fine; frames = each_some {P = Swizzled ts slots pages} fs i g (clear_form ts slots pages f g is.cells (s.frames i f h)) s.frames };
      stands = n.shown;
    }

pub clean_all : AllClean
clean_all ts slots pages ps fs s c = all_clean (long_bytes ts pages) ps fs s.laid c

pub saves_all : SavesAll
saves_all ts slots pages ps fs hs s was = (is, subst (λ qs. Keeps ts slots pages qs hs gs) (sym is) record { sound = sound; stands = clean_all ts slots pages gs hs sound (λ i g h. (was i g h).1.1.changed) })
  where
    gs : List Page
    gs = stands_for ts pages ps fs

    is : saved (long_bytes ts pages) ps fs ≡ gs
    is = saved_is (long_bytes ts pages) ps fs s.laid.apart s.laid.clean

    u : Shows (long_bytes ts pages) ps fs (overlay (long_bytes ts pages) ps fs)
    u = shows (long_bytes ts pages) ps fs s.laid

    -- the page of an unchanged frame
    at : (i : ℕ) (f g : Frame) → HasAt fs i f → Is g f.page false f.cells → (page_at gs g.page).content ≡ bytes (long_bytes ts pages g)
    at i f g h e =
        ap (λ m. (page_at gs m).content) e.page ∙ ap (λ (o : Page). o.content) (u.held i f h) ∙ ap bytes (sym (bytes_are ts pages g f.cells e.cells))

    fit : (i : ℕ) (f g : Frame) → HasAt fs i f → Is g f.page false f.cells → Fits (long_bytes ts pages) gs g
    fit i f g h e =
        let w = s.laid.within i f h in
        record {
          within = subst (λ m. (0 < m) × (m ≤ length gs)) (sym e.page) (w.0, (let l = w.1 in omega (arith, u.len)));
          reads = ap is_readable (at i f g h e);
          clean = λ _. at i f g h e;
          dirty = λ d. absurd (both_ways _ e.changed d);
        }

    page_of_lem : (i : ℕ) (g : Frame) (h : HasAt hs i g) → (was i g h).0.page ≡ g.page
    page_of_lem i g h = sym (was i g h).1.1.page

    sound : Sound ts slots pages gs hs
    sound = record {
      table = s.table;
      laid = laid_by (long_bytes ts pages) gs hs (λ i j f g a b e. s.laid.apart i j (was i f a).0 (was j g b).0 (was i f a).1.0 (was j g b).1.0 (page_of_lem i f a ∙ e ∙ sym (page_of_lem j g b))) (λ i g h. fit i (was i g h).0 g (was i g h).1.0 (was i g h).1.1);
      frames = λ i g h. clear_form ts slots pages (was i g h).0 g (was i g h).1.1.cells (s.frames i (was i g h).0 (was i g h).1.0);
    }
