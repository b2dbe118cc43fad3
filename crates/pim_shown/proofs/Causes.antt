-- Where an upstream neighbour comes from tells whether there is one.
use Rattle.std.{proofs.Common.{◌≡◌, ℕ, Bool, true, false, if◌then◌else◌, Option, Some, None, is_some, refl}, specs.{Option.option_or, Prelude.{option_and_then, option_map}}}
use Rattle.pim_types.{specs.declared.path.{Hop.Hop, Path.Path}}
use Rattle.pim_model.{specs.{Desires.{rpf_source, rpf_star, winner_hop}, Neighbours.{nbr, nbr_among}, Sets.assert_star, State.State, Unicast.{route, rp_of, rp_route, rpf_interface_rp}}}
use Rattle.pim_shown.{specs.{TreeMacros.{cause_of, has_neighbour, source_cause, star_cause}, declared.upstream.RpfCause.RpfCause}}

connected : (b : Bool) → has_neighbour (if b then RpfCause.Connected else RpfCause.NoNeighbour) ≡ false
connected true = refl
connected false = refl

own : (b : Bool) → has_neighbour (if b then RpfCause.Own else RpfCause.NoRoute) ≡ false
own true = refl
own false = refl

by_cause : (winner hop : Option Hop) (path : Option Path) (mine : Bool)
    → has_neighbour (cause_of winner hop path mine) ≡ is_some (option_or winner hop)
unfolding cause_of
by_cause (Some w) hop path mine = refl
by_cause None (Some h) path mine = refl
by_cause None None (Some p) mine = connected p.is_connected
by_cause None None None mine = own mine

pub of_source : (s : State) (g src : ℕ) → has_neighbour (source_cause s g src) ≡ is_some (rpf_source s g src)
unfolding source_cause rpf_source
of_source s g src = by_cause _ _ _ _

-- by RP(G), through which the route goes
of_rp : (s : State) (g : ℕ) (rp : Option ℕ) → let path : Option Path = option_and_then (route s) rp in
    let winner : Option Hop = winner_hop (option_map (λ (p : Path). p.iface.number) path) (assert_star s g) in
    (mine : Bool) → has_neighbour (if is_some rp then cause_of winner (nbr s path) path mine else RpfCause.NoRp)
    ≡ is_some (option_or winner (nbr s path))
unfolding nbr nbr_among
of_rp s g (Some rp) mine = by_cause _ _ _ mine
of_rp s g None mine = refl

pub of_star : (s : State) (g : ℕ) → has_neighbour (star_cause s g) ≡ is_some (rpf_star s g)
unfolding star_cause rpf_star rpf_interface_rp rp_route
of_star s g = of_rp s g (rp_of s g) _
