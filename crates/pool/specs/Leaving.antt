-- Victims leave one at a time. Assumes nothing.
use Rattle.std.specs.Prelude.{◌≡◌, ℕ, ◌<◌, ◌≤◌, Bool, true, false, cond, List, [], ◌∷◌, map, is_some, Some, None, Option, ◌≢◌, slice_index_or, slice_set}
use Rattle.pageset.specs.Sets.{tally}
use Rattle.page.specs.Walks.{page_of}
use Rattle.page.specs.declared.descriptor.Descriptor.{Descriptor}
use Rattle.frame.specs.Links.{unswizzled}
use Rattle.frame.specs.declared.frame.Frame.{Frame}
use Rattle.store.specs.Pages.{Page}
use Rattle.store.specs.Rules.{write_pages}
use Rattle.pool.specs.Needs.{whole}

-- frame k is empty
abbrev pub Empty : List (Option Frame) → ℕ → Type 0
Empty fs k = is_some (slice_index_or fs k None) ≡ false

-- the bytes of a frame's page in the store: its addresses turned back into long pointers by each slot's page
abbrev pub stored_bytes : List Descriptor → List ℕ → Frame → List ℕ
stored_bytes ts page f = page_of (unswizzled ts page f.cells)

-- what giving a frame up does to the store's pages: a changed page is written back
abbrev pub put_back : List Descriptor → List ℕ → Option Frame → List Page → List Page
put_back ts page None ps = ps
put_back ts page (Some f) ps = cond f.changed (write_pages ps f.page (stored_bytes ts page f)) ps

-- a frame of the first f is free, and the pages of the set and all that the frames need have room in a slots
pub record Enough (p : ℕ → Bool) (a f : ℕ) (fs : List (Option Frame)) : Type 0 where
  pub free : (k : ℕ) × ((k < f) × Empty fs k)
  pub fits : tally (whole p fs) 1024 ≤ a

-- k is none of the list
abbrev pub Lacks : List ℕ → ℕ → Type 0
Lacks [] k = Unit {0}
Lacks (v ∷ vs) k = (k ≢ v) × Lacks vs k

module _ {Pol Sto : Type 0} (picks : Pol → List Bool → ℕ → Pol → Type 0) (pages : Sto → List Page) (ts : List Descriptor) (page : List ℕ) (p : ℕ → Bool) (a f : ℕ) where
  -- the frame v is given up, since there is not enough room yet, as the policy picks it
  pub record Leaves (fs : List (Option Frame)) (v : ℕ) (pol pol' : Pol) (st st' : Sto) : Type 0 where
    pub lacking : Enough p a f fs → ⊥
    pub occupied : is_some (slice_index_or fs v None) ≡ true
    pub picked : picks pol (map is_some fs) v pol'
    pub noted : pages st' ≡ put_back ts page (slice_index_or fs v None) (pages st)

  -- the victims, in order, took the frames, the policy and the store from fs, pol and st to gs, last and end
  abbrev pub Went : List (Option Frame) → Pol → Sto → List ℕ → List (Option Frame) → Pol → Sto → Type 0
  Went fs pol st [] gs last end = (gs ≡ fs) × ((last ≡ pol) × (end ≡ st))
  Went fs pol st (v ∷ vs) gs last end = (pol' : Pol) × ((st' : Sto) × (Leaves fs v pol pol' st st' × Went (slice_set fs v None) pol' st' vs gs last end))
