use Rattle.std.proofs.Common.{List, ap}
use Rattle.store.specs.Pages.{Page}
use Rattle.graph.specs.Graphs.{opened}
use Rattle.service.proofs.Holds.{holding}
use Rattle.service.proofs.service.Service.new.Goals as goal

pub returns-clause-graph : goal.returns-clause-graph
returns-clause-graph g c = ap (λ (ps : List Page). opened ps) c.new.ensures.stands

pub returns-clause-holding : goal.returns-clause-holding
returns-clause-holding g c = holding g.S.Store.laws.few _
