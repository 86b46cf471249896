-- A page comes into a frame. Assumes nothing.
use Rattle.std.specs.Prelude.{◌≡◌, ℕ, ◌<◌, ◌≤◌, Bool, true, false, List, Some, None, Option, ◌≢◌, nat_lt, slice_index, slice_index_or, slice_set}
use Rattle.page.specs.declared.descriptor.Descriptor.{Descriptor}
use Rattle.frame.specs.Links.{swizzled}
use Rattle.frame.specs.declared.frame.Frame.{Frame}
use Rattle.pageset.specs.declared.PageSet.{PageSet}
use Rattle.store.specs.Pages.{Page}
use Rattle.pool.specs.Needs.{whole}
use Rattle.pool.specs.Leaving.{Empty, Enough, Lacks, Went}

-- frame f holds page n, whose cells in the store are xs, with addresses by the slots
pub record Loaded (ts : List Descriptor) (slot : List ℕ) (n : ℕ) (xs : List ℕ) (asks : PageSet) (f : Frame) : Type 0 where
  pub page : f.page ≡ n
  pub fresh : f.changed ≡ false
  pub cells : f.cells ≡ swizzled ts slot xs
  pub needs : f.needs ≡ asks

module _ {Pol Sto : Type 0} (picks : Pol → List Bool → ℕ → Pol → Type 0) (pages : Sto → List Page) (ts : List Descriptor) (p : ℕ → Bool) (a f : ℕ) where
  -- page n came into frame i: victims left until there was enough room, wanted pages kept or got slots, and no other frame changed
  pub record Brought (n : ℕ) (xs : List ℕ) (needs : PageSet) (i : ℕ) (page slot : List ℕ) (fs : List (Option Frame)) (pol : Pol) (st : Sto) (slot' : List ℕ) (fs' : List (Option Frame)) (st' : Sto) : Type 0 where
    pub victims : List ℕ
    pub rest : List (Option Frame)
    pub last : Pol
    pub went : Went picks pages ts page p a f fs pol st victims rest last st'
    pub enough : Enough p a f rest
    pub within : i < f
    pub empty : Empty rest i
    pub new : Frame
    pub is : Loaded ts slot' n xs needs new
    pub frames : fs' ≡ slice_set rest i (Some new)
    pub others : (k : ℕ) → Lacks victims k → (k ≢ i) → slice_index_or fs' k None ≡ slice_index_or fs k None
    pub slots : (m : ℕ) → 0 < m → m ≤ 1024 → nat_lt 0 (slice_index slot' m) ≡ whole p rest m
    pub stay : (m : ℕ) → whole p rest m ≡ true → 0 < slice_index slot m → slice_index slot' m ≡ slice_index slot m
