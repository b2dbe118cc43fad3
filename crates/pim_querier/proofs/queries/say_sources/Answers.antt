use Rattle.std.{proofs.Common.{subst, OnOk, List, ◌≡◌, ◌++◌}}
use Rattle.pim_model.{specs.Messages.Message}
use Rattle.igmp_wire.{specs.Written.bits_of}
use Rattle.pim_querier.{proofs.Starting.{all_specific, said}}
use Rattle.pim_querier.proofs.queries.say_sources.Goals as goal

pub returns : goal.returns
returns c =
    said c.put_queries.result c.turn.inside.draw c.turn.inside.out c.put_queries.new.out _ c.args.turn.now
    c.turn.view_is
    (subst (λ (ms : List Message). OnOk c.put_queries.result (c.put_queries.new.out ≡ c.turn.inside.out ++ ms))
    (all_specific c.args.world.now c.args.place.iface.number c.args.place.group.bits c.args.suppress (bits_of c.args.sources.now)
    c.specific_query-header.result c.specific_query-header.ensures.header) c.put_queries.ensures)
