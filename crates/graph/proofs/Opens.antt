-- What an opening grants, and the spot that a field is. Assumes nothing.
use Rattle.std.proofs.Common.{◌≡◌, ℕ, Bool, true, ltb, leb, [], length, get_or, Some, None, Ok, refl}
use Rattle.fault.specs.declared.kinds.Cause.TheVariants.{NoAddresses, EmptyCursor, NoField, WrongKind}
use Rattle.fault.specs.Faults.{nowhere, on_page, on_field, fault}
use Rattle.fault.specs.Refusals.{◌>>◌, ◌else◌}
use Rattle.page.specs.Descriptors.{linked}
use Rattle.page.specs.Form.{first_fault, type_at}
use Rattle.store.specs.Pages.{Content, bytes, marked, page_at}
use Rattle.store.specs.Rules.{readable, held_by}
use Rattle.graph.specs.Graphs.{Graph, Setting, wanted_count, opening}
use Rattle.graph.specs.Laws.{LawfulPage}
use Rattle.graph.specs.Steps.{Spot, position, stands_on, field}
use Rattle.graph.proofs.Grants.{Grants, given, denied, after, with, some, so, holds}

reads : (k : Content) (n : ℕ) → Grants (λ bs. k ≡ bytes bs) (readable k n >> Ok (held_by k []))
reads (bytes bs) n = given refl
reads (marked c l) n = denied

module _ (s : Setting) (g : Graph) where
  pub opens : (n : ℕ) → Grants (LawfulPage s.types g.pages n) (opening s g n)
  opens n =
      with _ (reads (page_at g.pages n).content n) λ bs e. so (first_fault (length g.pages) n bs s.types) λ h.
      after (leb (wanted_count s g n bs) s.addresses else fault NoAddresses 4 (on_page n)) (given (record { reads = e; faultless = h }))

  pub stands : (c : ℕ) → Grants (λ at. get_or g.cursors c None ≡ Some at) (stands_on s g c)
  stands c = some (get_or g.cursors c None) (fault EmptyCursor 2 nowhere)

  -- the spot is where the cursor stands, of the kind asked for
  pub record SpotOf (asked : Bool → Bool) (c f : ℕ) (o : Spot) : Type 0 where
    pub stood : get_or g.cursors c None ≡ Some (position o.page o.cell)
    pub lawful : LawfulPage s.types g.pages o.page o.bytes
    pub same : o.field ≡ f
    pub within : ltb o.field (type_at s.types o.bytes o.cell).size ≡ true
    pub kind : asked (linked (type_at s.types o.bytes o.cell) o.field) ≡ true

  pub spot : (asked : Bool → Bool) (c f : ℕ) → Grants (SpotOf asked c f) (field s g asked c f)
  spot asked c f =
      with _ (stands c) λ at e. with _ (opens at.page) λ bs l.
      holds (ltb f (type_at s.types bs at.cell).size) (fault NoField 2 (on_field at.page at.cell f)) λ w.
      holds (asked (linked (type_at s.types bs at.cell) f)) (fault WrongKind 2 (on_field at.page at.cell f)) λ k.
      given (record { stood = e; lawful = l; same = refl; within = w; kind = k })
