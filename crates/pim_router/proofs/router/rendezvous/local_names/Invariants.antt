use Rattle.std.{proofs.Common.{◌≡◌, ◌++◌, ◌&&◌, filter, map}}
use Rattle.pim_types.{specs.Keys.{group_in, source_in, source_key}}
use Rattle.pim_model.{specs.{Sets.is_kept_alive, Unicast.route}}
use Rattle.law_events.{specs.Adjacent.has_link_dr}
use Rattle.pim_fanout.{specs.Named.keys_of}
use Rattle.pim_reloader.{specs.Listing.sources_in}
use Rattle.pim_router.proofs.router.rendezvous.local_names.Given as goal

abbrev pub invariant-loop-key : goal.invariant-loop-key
invariant-loop-key l =
    keys_of l.names.items
    ++ filter (λ k. has_link_dr l.world (route l.world (source_in k)) && is_kept_alive l.world (group_in k) (source_in k))
    (map (λ e. source_key 0 (group_in e.0) (source_in e.0)) l.key-iterator)
    ≡ filter (λ k. has_link_dr l.world (route l.world (source_in k)) && is_kept_alive l.world (group_in k) (source_in k))
    (sources_in l.world)
