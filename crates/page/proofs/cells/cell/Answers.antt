use Rattle.std.proofs.Common.{◌≡◌, ◌/◌, ◌+◌, ◌*◌, ◌<◌, ◌≤◌, length, Some, sym, ap, arith}
use Rattle.std.proofs.lemmas.Bool.{ltb-true, le-leb}
use Rattle.page.specs.Cells.{cell_at}
use Rattle.page.proofs.Chunks.{chunk_at, chunk_cell}
use Rattle.page.proofs.cells.cell.Goals as goal

pub returns : goal.returns
returns c =
    let bs = c.args.bytes.now in
    let i = c.args.i in
    let k = c.in_ok-cell.ensures.lookup in
    let front = c.as_chunks.ensures.front in
    let lt : i < length c.as_chunks.result.0.now = ltb-true _ _ (sym k.0) in
    let e = chunk_at (length bs / 8) i bs c.in_ok-cell.cell.now (omega arith) in
    let f = chunk_cell bs i in
    let s = k.1 in
    let g : c.from_le_bytes.result ≡ cell_at bs i = cc in
    let has : 8 * i + 8 ≤ length bs = omega arith in
    rw (le-leb (8 * i + 8) (length bs) has) (ap Some g)
