use Rattle.std.proofs.Common.{◌*◌, refl, ◌∙◌, arith}
use Rattle.std.proofs.lemmas.List.Edits.{paste_all}
use Rattle.std.proofs.lemmas.Slice.{put_mid-paste}
use Rattle.page.specs.Cells.{bytes_of, put_at}
use Rattle.page.proofs.cells.put_at.Goals as goal

pub returns : goal.returns
unfolding put_at
returns c =
    put_mid-paste _ _ c.args.bytes.now c.copy_from_slice.new.self (bytes_of c.args.number) 8 (c.copy_from_slice.ensures.after ∙ c.to_le_bytes.ensures) (omega arith) refl
    ∙ paste_all c.args.bytes.now (8 * c.args.i) (bytes_of c.args.number) 8 refl
