use Rattle.std.proofs.Common.{refl}
use Rattle.pageset.specs.Sets.{holds}
use Rattle.service.proofs.Opening.{covers_standing, page_there, stand_after, covered_after, came}
use Rattle.service.proofs.service.Service.open.Goals as goal

pub invariant_of-self-clause-stand : goal.invariant_of-self-clause-stand
invariant_of-self-clause-stand g c =
    let s = c.args.self.now in
    let o = c.open.ensures in
    let st = c.standing-standing.ensures in
    let v = holds c.standing-standing.result.words in
    stand_after g.S.Store.laws.few s c.open.new.self o.fixed v st c.args.n c.requires c.open.result
    (o.opened (page_there g.S.Store.laws.few s c.open.new.self o.fixed v st c.args.n c.requires) (covers_standing g.S.Store.laws.few s c.open.new.self o.fixed v st c.args.n c.requires))

pub invariant_of-self-clause-covered : goal.invariant_of-self-clause-covered
invariant_of-self-clause-covered g c =
    let s = c.args.self.now in
    let o = c.open.ensures in
    let st = c.standing-standing.ensures in
    let v = holds c.standing-standing.result.words in
    covered_after g.S.Store.laws.few s c.open.new.self o.fixed v st c.args.n c.requires c.open.result
    (o.opened (page_there g.S.Store.laws.few s c.open.new.self o.fixed v st c.args.n c.requires) (covers_standing g.S.Store.laws.few s c.open.new.self o.fixed v st c.args.n c.requires))

pub returns-clause-came : goal.returns-clause-came
returns-clause-came g c =
    let s = c.args.self.now in
    let o = c.open.ensures in
    let st = c.standing-standing.ensures in
    let v = holds c.standing-standing.result.words in
    let page = page_there g.S.Store.laws.few s c.open.new.self o.fixed v st c.args.n c.requires in
    came g.S.Store.laws.few s _ refl o.fixed v st c.args.n c.requires c.open.result
    (o.opened page (covers_standing g.S.Store.laws.few s c.open.new.self o.fixed v st c.args.n c.requires)) (o.course page)
