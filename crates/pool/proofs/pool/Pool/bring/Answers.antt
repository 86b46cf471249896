use Rattle.std.proofs.Common.{ℕ, List, replicate, Err, sym, refl, ap, ◌∙◌, subst}
use lib.ListN.{length-replicate}
use Rattle.std.proofs.lemmas.Result.{err_from_is_err_and}
use Rattle.fault.specs.Refusals.{Checked}
use Rattle.pageset.specs.Sets.{holds}
use Rattle.page.specs.Types.{types}
use Rattle.store.specs.Pages.{Page}
use Rattle.store.specs.Rules.{read_buffer}
use Rattle.pool.specs.Fetching.{fetch_answer}
use Rattle.pool.specs.Opening.{Incoming, Opened}
use Rattle.pool.proofs.Courses.{turned_course}
use Rattle.pool.proofs.Finds.{fetch_refused, fetched_incoming, fetched_page, then_bytes, then_refused}
use Rattle.pool.proofs.pool.Pool.bring.Goals as goal

pub returns-in_err-bytes-clause-opened : goal.returns-in_err-bytes-clause-opened
returns-in_err-bytes-clause-opened g c page =
    let s = c.args.self.now in
    let ts = types s.catalogue in
    let ps = g.S.Store.pages s.store in
    let q = err_from_is_err_and c.from_residual.result c.from_residual.ensures.1 in
    let e = c.in_err-bytes.field-0.0 in
    let f = c.fetch.ensures in
    subst (λ (x : List Page). Opened ts s.table.slots s.table.slot_of s.table.page_of ps s.frames s.table.slot_of s.table.page_of x s.frames s.pages (g.V.Policy.frames s.policy) s.count (holds c.args.standing.now.words) c.args.n c.from_residual.result) (sym f.same)
    (subst (λ (r : Checked ℕ). Opened ts s.table.slots s.table.slot_of s.table.page_of ps s.frames s.table.slot_of s.table.page_of ps s.frames s.pages (g.V.Policy.frames s.policy) s.count (holds c.args.standing.now.words) c.args.n r) (sym (q.1 ∙ ap Err q.2))
    (fetch_refused g.S.Store.layer ts ps c.args.n (replicate 512 0) (length-replicate {A = ℕ} 512 0) page s.table.slots (holds c.args.standing.now.words) s.table.slot_of s.table.page_of s.frames s.pages (g.V.Policy.frames s.policy) s.count e s.tied c.requires (g.S.Store.laws.whole s.store c.args.n) (then_refused _ _ e (sym c.in_err-bytes.ensures.value))))

pub returns-in_err-bytes-clause-course : goal.returns-in_err-bytes-clause-course
returns-in_err-bytes-clause-course g c page =
    let q = err_from_is_err_and c.from_residual.result c.from_residual.ensures.1 in
    turned_course c.args.self.now _ (holds c.args.standing.now.words) c.args.n c.from_residual.result q.0 q.1 (record { table = refl; frames = refl; store = c.fetch.ensures.same }) refl

pub enter-requires : goal.enter-requires
enter-requires g c =
    let s = c.args.self.now in
    let ts = types s.catalogue in
    let ps = g.S.Store.pages s.store in
    let zeros = replicate 512 0 in
    let w = then_bytes (fetch_answer g.S.Store.layer ts s.pages ps c.args.n zeros) (read_buffer ps c.args.n zeros) c.in_ok-bytes.bytes (sym c.in_ok-bytes.ensures.value) in
    subst (λ (x : List Page). Incoming ts x s.frames c.args.n c.in_ok-bytes.bytes) (sym c.fetch.ensures.same)
    (subst (λ (bs : List ℕ). Incoming ts ps s.frames c.args.n bs) w.1
    (fetched_incoming g.S.Store.layer ts ps c.args.n zeros (length-replicate {A = ℕ} 512 0) (fetched_page g.S.Store.layer ts ps c.args.n s.pages zeros w.0) s.frames s.pages s.tied.counted c.requires (g.S.Store.laws.whole s.store c.args.n) w.0))
