use Rattle.std.proofs.Common.{◌≡◌, ◌-◌, ◌*◌, ◌++◌, length, take, replicate}
use Rattle.std.specs.List.{flat_map}
use Rattle.page.specs.Cells.{bytes_of}
use Rattle.frame.proofs.bytes.bytes_of.Given as goal

abbrev pub invariant-loop-i : goal.invariant-loop-i
invariant-loop-i l = (length l.bytes ≡ 512) × (l.bytes ≡ flat_map bytes_of (take l.i l.cells) ++ replicate (512 - 8 * l.i) 0)
