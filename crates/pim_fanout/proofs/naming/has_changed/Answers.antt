use Rattle.std.{proofs.Common.{ap, ◌∙◌}}
use Rattle.pim_ip.{specs.declared.addr.Addr.Addr}
use Rattle.pim_types.{specs.Keys.source_key}
use Rattle.pim_fanout.proofs.naming.has_changed.Goals as goal

pub returns : goal.returns
returns c o known =
    let name = c.name.result in
    let sight = c.sight_of-sight.result in
    c.differs.ensures o c.args.world.now known c.compared_by_sight.ensures.before
    (c.compared_by_sight.ensures.key
    ∙ ap (λ (g : Addr). source_key 0 g.bits sight.source.bits) c.sight_of-sight.ensures.group
    ∙ ap (λ (a : Addr). source_key 0 name.group.bits a.bits) c.sight_of-sight.ensures.source
    ∙ c.name.ensures)
