use Rattle.std.proofs.Common.{ℕ, ◌||◌, eqb, List, Some, refl, ap, ◌∙◌, arith}
use Rattle.std.proofs.lemmas.Bool.{or_left}
use Rattle.std.proofs.lemmas.Option.{MatchOption-at_some}
use Rattle.pageset.specs.Sets.{holds}
use Rattle.page.specs.Types.{types}
use Rattle.page.specs.Walks.{links_to}
use Rattle.frame.specs.Links.{swizzled}
use Rattle.pool.specs.Courses.{refused}
use Rattle.pool.proofs.Bringing.{spare_new}
use Rattle.pool.proofs.Courses.{arrives}
use Rattle.pool.proofs.Entering.{covered, brought, opened, tied}
use Rattle.pool.proofs.Enters.{turned_away, is_there, needs_are, whole_bytes}
use Rattle.pool.proofs.pool.Pool.enter.Goals as goal

pub returns-then-count-from-clause-opened : goal.returns-then-count-from-clause-opened
returns-then-count-from-clause-opened g c =
    let s = c.args.self.now in
    rw (c.new-too_many.ensures, c.on_page.ensures) (turned_away (types s.catalogue) g.V.Policy.picks g.S.Store.pages g.S.Store.laws.few s.table.slot_of s.table.page_of (holds c.union-asked.result.words) (holds c.args.standing.now.words) s.table.slots s.count c.args.n s.pages (g.V.Policy.frames s.policy) c.args.bytes.now c.add.new.self s.frames s.policy s.store s.table.slot_of s.table.page_of s.frames s.store
    s.tied c.requires c.union-asked.ensures
    (λ k low high. needs_are (types s.catalogue) c.cells_of-cells.result c.args.n (holds c.linked_pages-needs.result.words) (holds c.add.new.self.words) c.linked_pages-needs.ensures (c.add.ensures.added (is_there (g.S.Store.pages s.store) c.args.n c.args.bytes.now c.requires.content).0 (let h = is_there (g.S.Store.pages s.store) c.args.n c.args.bytes.now c.requires.content in omega (arith, h.1, g.S.Store.laws.few s.store))) c.add.ensures.others k low high ∙ ap (λ (xs : List ℕ). eqb k c.args.n || links_to (types s.catalogue) xs k) c.cells_of-cells.ensures.value)
    (omega (arith, c.count.ensures, c.size.ensures, c.if-count-from.true)))

pub returns-then-count-from-clause-course : goal.returns-then-count-from-clause-course
returns-then-count-from-clause-course g c = refused _ (record { table = refl; frames = refl; store = refl }) refl

pub invariant_of-self-3-clause-spare : goal.invariant_of-self-3-clause-spare
invariant_of-self-3-clause-spare g c =
    let s = c.args.self.now in
    let u = c.make_room.new.self in
    let m = c.make_room.ensures in
    let made = MatchOption-at_some _ _ c.in_ok-free.free c.in_ok-free.ensures.ok_part m.made in
    spare_new u.frames u.count c.in_ok-free.free (Some c.load-frame.result) (omega (arith, m.rest.count, made.0)) u.spare

pub invariant_of-self-3-clause-covered : goal.invariant_of-self-3-clause-covered
invariant_of-self-3-clause-covered g c =
    let s = c.args.self.now in
    let m = c.make_room.ensures in
    let some = c.in_ok-free.ensures.ok_part in
    let p = c.provide-self.ensures in
    let f = c.load-frame.ensures in
    covered s c.make_room.new.self (holds c.union-asked.result.words) (holds c.args.standing.now.words) c.in_ok-free.free c.args.n c.args.bytes.now c.add.new.self
    (record { table = m.rest.table; catalogue = m.rest.catalogue; count = m.rest.count; pages = m.rest.pages }) (MatchOption-at_some _ _ c.in_ok-free.free some m.made) (MatchOption-at_some _ _ c.in_ok-free.free some m.went)
    (holds c.whole-wanted.result.words) c.whole-wanted.ensures c.provide-self.result p.kept p.only p.all c.load-frame.result
    (record { page = f.page; fresh = f.changed; cells = f.cells ∙ ap (λ (xs : List ℕ). swizzled (types c.make_room.new.self.catalogue) c.provide-self.result.slot_of xs) c.cells_of-cells.ensures.value; needs = f.needs })
    (λ k h. c.union-asked.ensures k ∙ or_left (holds c.add.new.self.words k) _ h)

pub invariant_of-self-3-clause-tied : goal.invariant_of-self-3-clause-tied
invariant_of-self-3-clause-tied g c =
    let s = c.args.self.now in
    let m = c.make_room.ensures in
    let some = c.in_ok-free.ensures.ok_part in
    let p = c.provide-self.ensures in
    let f = c.load-frame.ensures in
    tied s c.make_room.new.self (holds c.union-asked.result.words) (holds c.args.standing.now.words) c.in_ok-free.free c.args.n c.args.bytes.now c.add.new.self
    (record { table = m.rest.table; catalogue = m.rest.catalogue; count = m.rest.count; pages = m.rest.pages }) (MatchOption-at_some _ _ c.in_ok-free.free some m.made) (MatchOption-at_some _ _ c.in_ok-free.free some m.went)
    (holds c.whole-wanted.result.words) c.whole-wanted.ensures c.provide-self.result p.kept p.only p.all c.load-frame.result
    (record { page = f.page; fresh = f.changed; cells = f.cells ∙ ap (λ (xs : List ℕ). swizzled (types c.make_room.new.self.catalogue) c.provide-self.result.slot_of xs) c.cells_of-cells.ensures.value; needs = f.needs })
    g.S.Store.laws.few c.requires c.union-asked.ensures
    (λ k low high. needs_are (types s.catalogue) c.cells_of-cells.result c.args.n (holds c.linked_pages-needs.result.words) (holds c.add.new.self.words) c.linked_pages-needs.ensures (c.add.ensures.added (is_there (g.S.Store.pages s.store) c.args.n c.args.bytes.now c.requires.content).0 (let h = is_there (g.S.Store.pages s.store) c.args.n c.args.bytes.now c.requires.content in omega (arith, h.1, g.S.Store.laws.few s.store))) c.add.ensures.others k low high ∙ ap (λ (xs : List ℕ). eqb k c.args.n || links_to (types s.catalogue) xs k) c.cells_of-cells.ensures.value)
    (whole_bytes (g.S.Store.pages s.store) c.args.n c.args.bytes.now c.requires.content (g.S.Store.laws.whole s.store c.args.n)) c.cells_of-cells.ensures.bytes
    (omega (arith, c.count.ensures, c.size.ensures, c.if-count-from.false))
    _ (c.touch.ensures.keeps ∙ m.policy)

pub returns-clause-opened : goal.returns-clause-opened
returns-clause-opened g c =
    let s = c.args.self.now in
    let m = c.make_room.ensures in
    let some = c.in_ok-free.ensures.ok_part in
    let p = c.provide-self.ensures in
    let f = c.load-frame.ensures in
    opened s c.make_room.new.self (holds c.union-asked.result.words) (holds c.args.standing.now.words) c.in_ok-free.free c.args.n c.args.bytes.now c.add.new.self
    (record { table = m.rest.table; catalogue = m.rest.catalogue; count = m.rest.count; pages = m.rest.pages }) (MatchOption-at_some _ _ c.in_ok-free.free some m.made) (MatchOption-at_some _ _ c.in_ok-free.free some m.went)
    (holds c.whole-wanted.result.words) c.whole-wanted.ensures c.provide-self.result p.kept p.only p.all c.load-frame.result
    (record { page = f.page; fresh = f.changed; cells = f.cells ∙ ap (λ (xs : List ℕ). swizzled (types c.make_room.new.self.catalogue) c.provide-self.result.slot_of xs) c.cells_of-cells.ensures.value; needs = f.needs })
    g.S.Store.laws.few c.requires c.union-asked.ensures
    (λ k low high. needs_are (types s.catalogue) c.cells_of-cells.result c.args.n (holds c.linked_pages-needs.result.words) (holds c.add.new.self.words) c.linked_pages-needs.ensures (c.add.ensures.added (is_there (g.S.Store.pages s.store) c.args.n c.args.bytes.now c.requires.content).0 (let h = is_there (g.S.Store.pages s.store) c.args.n c.args.bytes.now c.requires.content in omega (arith, h.1, g.S.Store.laws.few s.store))) c.add.ensures.others k low high ∙ ap (λ (xs : List ℕ). eqb k c.args.n || links_to (types s.catalogue) xs k) c.cells_of-cells.ensures.value)
    (whole_bytes (g.S.Store.pages s.store) c.args.n c.args.bytes.now c.requires.content (g.S.Store.laws.whole s.store c.args.n)) c.cells_of-cells.ensures.bytes
    (omega (arith, c.count.ensures, c.size.ensures, c.if-count-from.false))

pub returns-clause-course : goal.returns-clause-course
returns-clause-course g c =
    let s = c.args.self.now in
    let m = c.make_room.ensures in
    let some = c.in_ok-free.ensures.ok_part in
    let p = c.provide-self.ensures in
    let f = c.load-frame.ensures in
    arrives s _ (holds c.args.standing.now.words) (holds c.union-asked.result.words) c.args.n c.args.bytes.now c.add.new.self c.requires c.union-asked.ensures
    (λ k low high. needs_are (types s.catalogue) c.cells_of-cells.result c.args.n (holds c.linked_pages-needs.result.words) (holds c.add.new.self.words) c.linked_pages-needs.ensures (c.add.ensures.added (is_there (g.S.Store.pages s.store) c.args.n c.args.bytes.now c.requires.content).0 (let h = is_there (g.S.Store.pages s.store) c.args.n c.args.bytes.now c.requires.content in omega (arith, h.1, g.S.Store.laws.few s.store))) c.add.ensures.others k low high ∙ ap (λ (xs : List ℕ). eqb k c.args.n || links_to (types s.catalogue) xs k) c.cells_of-cells.ensures.value)
    c.in_ok-free.free
    (brought s c.make_room.new.self (holds c.union-asked.result.words) (holds c.args.standing.now.words) c.in_ok-free.free c.args.n c.args.bytes.now c.add.new.self
    (record { table = m.rest.table; catalogue = m.rest.catalogue; count = m.rest.count; pages = m.rest.pages }) (MatchOption-at_some _ _ c.in_ok-free.free some m.made) (MatchOption-at_some _ _ c.in_ok-free.free some m.went)
    (holds c.whole-wanted.result.words) c.whole-wanted.ensures c.provide-self.result p.kept p.only p.all c.load-frame.result
    (record { page = f.page; fresh = f.changed; cells = f.cells ∙ ap (λ (xs : List ℕ). swizzled (types c.make_room.new.self.catalogue) c.provide-self.result.slot_of xs) c.cells_of-cells.ensures.value; needs = f.needs }))
    c.touch.ensures.course
