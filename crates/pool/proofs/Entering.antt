-- A page that came into a frame. Assumes nothing.
use Rattle.std.proofs.Common.{◌≡◌, ℕ, ◌<◌, ◌≤◌, Bool, true, ◌||◌, eqb, List, length, get_or, set, Some, Ok, sym, refl, ap, ◌∙◌, subst, arith}
use Rattle.pageset.specs.Sets.{holds, tally}
use Rattle.pageset.specs.declared.PageSet.{PageSet}
use Rattle.address.specs.Pairing.{Only, All}
use Rattle.address.specs.declared.table.AddressTable.{AddressTable}
use Rattle.page.specs.Types.{types}
use Rattle.page.specs.Walks.{cells_of, links_to}
use Rattle.page.specs.declared.catalogue.ClosedCatalogue.{ClosedCatalogue}
use Rattle.frame.specs.declared.frame.Frame.{Frame}
use Rattle.store.specs.declared.Store.{Ghosts as StoreGhosts}
use Rattle.policy.specs.declared.Policy.{Ghosts as PolicyGhosts}
use Rattle.pool.specs.Bringing.{Brought, Loaded}
use Rattle.pool.specs.Leaving.{Empty, Enough, Went}
use Rattle.pool.specs.Meaning.{Fine}
use Rattle.pool.specs.Needs.{whole, needed, Covers}
use Rattle.pool.specs.Opening.{Incoming, Opened}
use Rattle.pool.specs.Pools.{Rest}
use Rattle.pool.specs.declared.pool.Pool.{Pool}
use Rattle.pool.proofs.Bringing.{slots_are, slots_stay, covers_new, others_new}
use Rattle.pool.proofs.Enters.{entered}

-- from the pool s room was made, which left the pool u with the empty frame i; then the table was changed and the page loaded
module _ {S V : Type 0} {stores : StoreGhosts S} {policies : PolicyGhosts V} (s u : Pool S V stores policies) (q standing : ℕ → Bool) (i n : ℕ) (bs : List ℕ) (needs : PageSet)
    (rest : Rest s u)
    (made : (i < s.count) × Empty u.frames i × Enough q s.table.slots s.count u.frames)
    (went : (vs : List ℕ) × Went policies.picks stores.pages (types s.catalogue) s.table.page_of q s.table.slots s.count s.frames s.policy s.store vs u.frames u.policy u.store)
    (wanted : ℕ → Bool) (all_wanted : (m : ℕ) → wanted m ≡ whole q u.frames m)
    (tab : AddressTable)
    (kept : (m : ℕ) → wanted m ≡ true → 0 < get_or u.table.slot_of m 0 → get_or tab.slot_of m 0 ≡ get_or u.table.slot_of m 0)
    (only : Only wanted tab.slot_of)
    (all : tally wanted 1024 ≤ u.table.slots → All wanted tab.slot_of 1025)
    (f : Frame) (loaded : Loaded (types u.catalogue) tab.slot_of n (cells_of bs) needs f)
  where
    pub slots : u.table.slots ≡ s.table.slots
    slots = ap (λ (x : AddressTable). x.slots) rest.table

    pub fits : tally (whole q u.frames) 1024 ≤ u.table.slots
    fits = let e = made.2.fits in omega (arith, slots, e)

    pub covered : ((m : ℕ) → holds needs.words m ≡ true → q m ≡ true) → Covers tab.slot_of (needed (set u.frames i (Some f)))
    covered own =
        covers_new q wanted u.frames u.table.slots u.table.slot_of tab.slot_of all_wanted fits kept only all i f
        (λ m h. own m (ap (λ (x : PageSet). holds x.words m) (sym loaded.needs) ∙ h))

    abbrev pub brought : Brought policies.picks stores.pages (types s.catalogue) q s.table.slots s.count n (cells_of bs) needs i s.table.page_of s.table.slot_of s.frames s.policy s.store tab.slot_of (set u.frames i (Some f)) u.store
    brought = record {
      victims = went.0;
      rest = u.frames;
      last = u.policy;
      went = went.1;
      enough = made.2;
      within = made.0;
      empty = made.1;
      new = f;
      is = subst (λ (k : ClosedCatalogue). Loaded (types k) tab.slot_of n (cells_of bs) needs f) rest.catalogue loaded;
      frames = refl;
      others = others_new policies.picks stores.pages (types s.catalogue) s.table.page_of q s.table.slots s.count went.0 s.frames s.policy s.store u.frames u.policy u.store i (Some f) went.1;
      slots = slots_are q wanted u.frames u.table.slots u.table.slot_of tab.slot_of all_wanted fits kept only all;
      stay = λ k x h. (let same = ap (λ (y : AddressTable). get_or y.slot_of k 0) rest.table in
          slots_stay q wanted u.frames u.table.slots u.table.slot_of tab.slot_of all_wanted fits kept only all k x (omega (arith, same, h)) ∙ same);
    }

    module _
        (few : (x : S) → length (stores.pages x) ≤ 1024)
        (incoming : Incoming (types s.catalogue) (stores.pages s.store) s.frames n bs)
        (joined : (m : ℕ) → q m ≡ (holds needs.words m || standing m))
        (own : (m : ℕ) → 0 < m → m ≤ 1024 → holds needs.words m ≡ (eqb m n || links_to (types s.catalogue) (cells_of bs) m))
        (full : length bs ≡ 512) (byte : (j : ℕ) → get_or bs j 0 < 256)
        (enough : tally q 1024 ≤ s.table.slots)
      where
        pub opened : Opened (types s.catalogue) s.table.slots s.table.slot_of s.table.page_of (stores.pages s.store) s.frames tab.slot_of tab.page_of (stores.pages u.store) (set u.frames i (Some f)) s.pages (policies.frames s.policy) s.count standing n (Ok i)
        opened =
            entered (types s.catalogue) policies.picks stores.pages few s.table.slot_of s.table.page_of q standing s.table.slots s.count n s.pages (policies.frames s.policy) bs needs s.frames s.policy s.store tab.slot_of tab.page_of (set u.frames i (Some f)) u.store
            s.tied incoming joined own tab.agree s.table.within.1.1.0 tab.within.1.1.0 s.table.sized.1 s.table.within.0.1 (omega (arith, s.sized, s.small)) full byte i brought enough

        pub tied : (told : ℕ) → told ≡ policies.frames s.policy → Fine (types u.catalogue) tab.slot_of tab.page_of (stores.pages u.store) (set u.frames i (Some f)) u.pages told u.count
        tied told e =
            let ps = stores.pages u.store in
            let fs = set u.frames i (Some f) in
            subst (λ (k : ClosedCatalogue). Fine (types k) tab.slot_of tab.page_of ps fs u.pages told u.count) (sym rest.catalogue)
            (subst (λ (k : ℕ). Fine (types s.catalogue) tab.slot_of tab.page_of ps fs k told u.count) (sym rest.pages)
            (subst (λ (k : ℕ). Fine (types s.catalogue) tab.slot_of tab.page_of ps fs s.pages k u.count) (sym e)
            (subst (λ (k : ℕ). Fine (types s.catalogue) tab.slot_of tab.page_of ps fs s.pages (policies.frames s.policy) k) (sym rest.count) opened.fine)))
