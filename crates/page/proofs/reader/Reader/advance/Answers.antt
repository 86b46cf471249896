use Rattle.std.proofs.Common.{Some, Ok, sym, ap, ◌∙◌, arith}
use Rattle.std.proofs.lemmas.Result.{err_from_is_err_and}
use Rattle.page.specs.Parts.{object, next_part, after_next}
use Rattle.page.specs.Types.{types}
use Rattle.page.proofs.Turns.{bytes_of, read_object, read_fault}
use Rattle.page.proofs.reader.Reader.advance.Goals as goal

pub returns-in_err-next-clause-part : goal.returns-in_err-next-clause-part
returns-in_err-next-clause-part c =
    let r = c.args.self.now in
    let p = r.page in
    let x = err_from_is_err_and c.from_residual-in_err-next.result c.from_residual-in_err-next.ensures.1 in
    let e = read_fault (types p.catalogue.now) p.pages p.number p.bytes.now r.used r.stage c.requires (omega arith) r.cell c.in_err-next.field-0.0 (omega arith) c.in_err-next.ensures.value in
    rw (x.1, x.2) (sym (ap next_part e))

pub returns : goal.returns
returns c =
    let r = c.args.self.now in
    let p = r.page in
    let s = c.in_ok-next.field-0 in
    let told = c.in_ok-next.ensures in
    let e = read_object (types p.catalogue.now) p.pages p.number p.bytes.now r.used r.stage c.requires (omega arith) r.cell s (omega arith) (omega (arith, told.within)) told.value in
    record { part = ap (λ x. Some (Ok (object r.cell x))) (bytes_of p.bytes.now r.cell s) ∙ sym (ap next_part e); after = sym (ap after_next e) }
