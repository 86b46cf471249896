use Rattle.frame.proofs.Packs.{page_back, cells_back}
use Rattle.frame.proofs.Valid.{valid_ends, valid_links, valid_starts}
use Rattle.frame.proofs.laws.pages_stand.Goals as goal

pub returns : goal.returns
returns c = record { ends = valid_ends; links = valid_links; starts = valid_starts; page = page_back; cells = cells_back }
