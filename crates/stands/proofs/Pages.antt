-- Pages by number. Assumes nothing.
use Rattle.std.proofs.Common.{◌≡◌, ℕ, zero, suc, ◌<◌, ◌≤◌, List, length, get_or, set, sym, refl, ap, ◌∙◌, arith}
use Rattle.std.proofs.lemmas.List.{length-set, get_or-set_same, get_or-set_other, ext_get_or, set-get_or}
use Rattle.store.specs.Pages.{bytes, Page, no_page, page_at}
use Rattle.store.specs.Rules.{written}

-- a page with other bytes
abbrev pub over : List ℕ → Page → Page
over bs p = record { content = bytes bs; writable = p.writable }

pub length_written : (ps : List Page) (n : ℕ) (bs : List ℕ) → length (written ps n bs) ≡ length ps
length_written ps zero bs = refl
length_written ps (suc i) bs = length-set ps i _

pub written_same : (ps : List Page) (n : ℕ) (bs : List ℕ) → 0 < n → n ≤ length ps → page_at (written ps n bs) n ≡ over bs (page_at ps n)
written_same ps zero bs a b = absurd (omega arith)
written_same ps (suc i) bs a b = get_or-set_same ps i _ no_page (omega arith)

pub written_other : (ps : List Page) (n m : ℕ) (bs : List ℕ) → (m ≡ n → ⊥) → page_at (written ps n bs) m ≡ page_at ps m
written_other ps zero m bs d = refl
written_other ps (suc i) zero bs d = refl
written_other ps (suc i) (suc j) bs d = get_or-set_other ps i j _ no_page (λ e. d (ap suc e))

-- two lists with the same pages
pub same_pages : (ps qs : List Page) → length ps ≡ length qs → ((n : ℕ) → page_at ps n ≡ page_at qs n) → ps ≡ qs
same_pages ps qs l h = ext_get_or no_page ps qs l (λ i _. h (suc i))

-- what a page has already changes nothing
pub over_same : (bs : List ℕ) (p : Page) → p.content ≡ bytes bs → over bs p ≡ p
over_same bs p e = ap (λ c. record { content = c; writable = p.writable }) (sym e)

pub written_again : (ps : List Page) (n : ℕ) (bs : List ℕ) → (page_at ps n).content ≡ bytes bs → written ps n bs ≡ ps
written_again ps zero bs e = refl
written_again ps (suc i) bs e = ap (λ p. set ps i p) (over_same bs (get_or ps i no_page) e) ∙ set-get_or ps i no_page
