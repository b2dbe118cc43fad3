use Rattle.pim_state.{specs.Groups.numbers_of}
use Rattle.pim_views.{specs.Openings.{facts_of_whole, touched_sources}, proofs.Named.both_named}
use Rattle.pim_views.proofs.sources.sources_by_keys.Goals as goal

pub returns : goal.returns
unfolding touched_sources
returns c =
    both_named c.args.group.bits (facts_of_whole c.args.world.now c.args.keys.now c.args.group.bits) c.args.keys.now
    (numbers_of c.in_ok-found.found.entries) _ c.in_ok-found.ensures c.in_ok-gather_named.ensures
