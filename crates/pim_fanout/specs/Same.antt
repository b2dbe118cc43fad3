-- Two sights of one source, compared field by field. What is configured never changes, and isn't compared.
use Rattle.std.{specs.Prelude.{Bool, ◌&&◌, ◌==◌}}
use Rattle.pim_ifset.{specs.Members.{Members, has}}
use Rattle.law_events.{specs.Named.same_set}
use Rattle.pim_model.{specs.{Rows.{same_both, same_path, same_register_state}, Tables.{same_address, same_bool, same_hop}}}
use Rattle.pim_macros.{specs.declared.sight.{SourceSight.SourceSight, StarSight.StarSight}}
use Rattle.pim_fanout.{specs.declared.before.KnownSource.KnownSource}

-- Two sets have the same interfaces; either may have the register tunnel.
abbrev pub same_members : Members → Members → Bool
same_members s t = s.mask == t.mask

-- The sets of two pairs have the same interfaces in common.
abbrev pub same_common : Members → Members → Members → Members → Bool
same_common s t u v = same_set (λ q. has s q && has t q) (λ q. has u q && has v q)

-- Two sights of (*,G) have the same RP(G), route to it, next hop and assert winner towards it.
unfoldable pub same_star_routes : StarSight → StarSight → Bool
same_star_routes x y =
    same_address x.rp y.rp && same_both same_path x.rp_path y.rp_path && same_hop x.next_hop y.next_hop
    && same_hop x.winner y.winner

-- Two sights of (*,G) say the same of all that is compared for a row of the forwarding cache.
unfoldable pub same_star : StarSight → StarSight → Bool
same_star x y =
    same_star_routes x y && same_members x.joined y.joined && same_members x.lost y.lost && same_members x.won y.won
    && same_members x.receivers y.receivers && same_common x.dr x.receivers y.dr y.receivers

-- Two sights of (S,G) say the same of (*,G), and of the route, the next hop and the assert winners towards S.
unfoldable pub same_routes : SourceSight → SourceSight → Bool
same_routes x y =
    same_star x.star y.star && same_both same_path x.path y.path && same_hop x.next_hop y.next_hop
    && same_hop x.winner y.winner && same_hop x.tree_winner y.tree_winner

-- Two sights of (S,G) say the same of routes, joins, prunes and asserts.
unfoldable pub same_asserts : SourceSight → SourceSight → Bool
same_asserts x y =
    same_routes x y && same_members x.joined y.joined && same_members x.pruned y.pruned
    && same_members x.lost y.lost && same_members x.won y.won

-- Two sights of (S,G) say the same of all that is compared for a row of the forwarding cache.
unfoldable pub same_sight : SourceSight → SourceSight → Bool
same_sight x y =
    same_asserts x y && same_members x.beaten y.beaten && same_members x.included y.included
    && same_members x.excluded y.excluded
    && same_common x.star.dr x.included y.star.dr y.included && same_bool x.spt y.spt

-- Two sources are the same in what is compared beside their sights: registering and JoinDesired(S,G).
unfoldable pub same_beside : KnownSource → KnownSource → Bool
same_beside x y =
    same_bool x.may_register y.may_register && same_bool x.could_register y.could_register
    && same_both same_register_state x.register y.register && same_bool x.is_desired y.is_desired

-- Two sources with a fact are the same in all that is compared for a row of the forwarding cache.
unfoldable pub same_source : KnownSource → KnownSource → Bool
same_source x y = same_sight x.sight y.sight && same_beside x y
