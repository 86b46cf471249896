-- The verdict on a page of a store. Assumes nothing.
use Rattle.std.specs.Prelude.{ℕ, List, length}
use Rattle.fault.specs.Refusals.{Checked, ◌>>◌}
use Rattle.page.specs.declared.descriptor.Descriptor.{Descriptor}
use Rattle.store.specs.Pages.{Page}
use Rattle.store.specs.Rules.{read_answer, read_buffer}
use Rattle.inspection.specs.Surveys.{surveyed}
use Rattle.inspection.specs.declared.survey.Survey.{Survey}

-- refused as reading is refused, then as the page form says
abbrev pub inspected : ℕ → List Descriptor → List Page → ℕ → List ℕ → Checked Survey
inspected layer ts ps n buffer = do
  read_answer layer ps n (length buffer)
  surveyed ts (length ps) n (read_buffer ps n buffer)
