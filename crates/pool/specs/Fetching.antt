-- What reading and examining a page answers. Assumes nothing.
use Rattle.std.specs.Prelude.{ℕ, List, length, replicate, Ok}
use Rattle.fault.specs.Refusals.{Checked, ◌>>◌}
use Rattle.page.specs.Form.{examined}
use Rattle.page.specs.declared.descriptor.Descriptor.{Descriptor}
use Rattle.store.specs.Pages.{Page}
use Rattle.store.specs.Rules.{read_answer, read_buffer}

abbrev pub fetch_answer : ℕ → List Descriptor → ℕ → List Page → ℕ → List ℕ → Checked (Unit {0})
fetch_answer layer ts p ps n buffer = do
  read_answer layer ps n (length buffer)
  examined p n (read_buffer ps n buffer) ts

-- the bytes of page n, where it can be read and has no fault
abbrev pub fetched_bytes : ℕ → List Descriptor → ℕ → List Page → ℕ → Checked (List ℕ)
fetched_bytes layer ts p ps n = do
  fetch_answer layer ts p ps n (replicate 512 0)
  Ok (read_buffer ps n (replicate 512 0))
