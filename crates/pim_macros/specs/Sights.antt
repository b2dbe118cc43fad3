-- What a sight shows of a state: each of its fields, by the definition in pim_model.
use Rattle.std.{specs.{Option.option_map_or, Prelude.{Option, Some, false, nat_lt, not, option_map, ℕ, ◌&&◌, ◌||◌, ◌≡◌, ◌≤◌}}}
use Rattle.pim_ip.{specs.declared.addr.Addr.Addr}
use Rattle.pim_types.{specs.declared.path.Path.Path}
use Rattle.pim_model.{specs.{Desires.{join_desired, join_desired_star, winner_hop}, Neighbours.{is_dr, nbr}, Receivers.{is_exclude, local_receiver_exclude, local_receiver_include}, Registers.{is_dr_of_path, is_spt_wanted}, Sets.{Set, assert_source, assert_star, is_beaten, is_kept_alive, is_loser, is_winner, joins, joins_star, pim_exclude, pim_include_star, prunes, spt_bit, tunnel, ◌∖◌, ◌∪◌}, State.{State, iface_count, is_own}, Tables.same_option, Unicast.{is_rpf_interface, is_rpf_interface_rp, route, rp_of, rp_route, rpf_interface, rpf_interface_rp}}}
use Rattle.pim_state.{specs.{Shown.Shows, Short.IsShort}}
use Rattle.pim_macros.{specs.declared.sight.{SourceSight.SourceSight, StarSight.StarSight}}

-- the interface of a route
abbrev pub is_interface_of : Option Path → Set
is_interface_of path i = same_option (option_map (λ (p : Path). p.iface.number) path) (Some i)

-- The interfaces on which the source is wanted because its group is.
abbrev pub wanted_by_group : State → ℕ → ℕ → Set
wanted_by_group s g src = (joins_star s g ∖ prunes s g src) ∪ (pim_include_star s g ∖ pim_exclude s g src)

-- the assert of (S,G) is tracked on the interface because it is an upstream one
abbrev pub is_tracked_upstream : State → ℕ → ℕ → Set
is_tracked_upstream s g src i =
    (is_rpf_interface s src i && join_desired s g src)
    || (is_rpf_interface_rp s g i && join_desired_star s g && not (spt_bit s g src))

-- The sight of (*,G) in the state.
pub record ShowsStar (s : State) (g : ℕ) (star : StarSight) : Type 0 where
  pub rp : option_map (λ (a : Addr). a.bits) star.rp ≡ rp_of s g
  pub rp_path : star.rp_path ≡ rp_route s g
  pub next_hop : star.next_hop ≡ nbr s (rp_route s g)
  pub winner : star.winner ≡ winner_hop (rpf_interface_rp s g) (assert_star s g)
  pub joined : Shows star.joined (joins_star s g)
  pub lost : Shows star.lost (λ i. is_loser (assert_star s g i))
  pub won : Shows star.won (λ i. is_winner (assert_star s g i))
  pub receivers : Shows star.receivers (is_exclude s g)
  pub dr : Shows star.dr (is_dr s)
  pub configured : Shows star.configured (λ i. nat_lt i (iface_count s))
  pub bare : star.configured.tunnel ≡ false
  pub few : iface_count s ≤ 120
  pub is_own_rp : star.is_own_rp ≡ option_map_or (is_own s) (rp_of s g) false
  -- an Assert has preferences of 31 bits
  pub short : IsShort star.rp_path

-- The sight of (S,G) in the state.
pub record ShowsSource (s : State) (g src : ℕ) (sight : SourceSight) : Type 0 where
  pub star : ShowsStar s g sight.star
  pub path : sight.path ≡ route s src
  pub next_hop : sight.next_hop ≡ nbr s (route s src)
  pub winner : sight.winner ≡ winner_hop (rpf_interface s src) (assert_source s g src)
  pub tree_winner : sight.tree_winner ≡ winner_hop (rpf_interface_rp s g) (assert_source s g src)
  pub joined : Shows sight.joined (joins s g src)
  pub pruned : Shows sight.pruned (prunes s g src)
  pub lost : Shows sight.lost (λ i. is_loser (assert_source s g src i))
  pub won : Shows sight.won (λ i. is_winner (assert_source s g src i))
  pub beaten : Shows sight.beaten (is_beaten s g src)
  pub included : Shows sight.included (local_receiver_include s g src)
  pub excluded : Shows sight.excluded (local_receiver_exclude s g src)
  pub spt : sight.spt ≡ spt_bit s g src
  pub is_kept_alive : sight.is_kept_alive ≡ is_kept_alive s g src
  pub tunnel : sight.tunnel ≡ tunnel s g src
  pub is_own : sight.is_own ≡ is_own s src
  pub is_dr : sight.is_dr ≡ option_map_or (is_dr_of_path s) (route s src) false
  pub is_spt_wanted : sight.is_spt_wanted ≡ is_spt_wanted s
  pub short : IsShort sight.path

-- The sight is that of its group in the state, or of its source and group.
abbrev pub IsStarSight : State → StarSight → Type 0
IsStarSight s star = ShowsStar s star.group.bits star

abbrev pub IsSourceSight : State → SourceSight → Type 0
IsSourceSight s sight = ShowsSource s sight.star.group.bits sight.source.bits sight

-- What holds in each state of which the sight is true.
abbrev pub InStar : StarSight → (State → ℕ → Type 0) → Type 0
InStar star P = (s : State) → IsStarSight s star → P s star.group.bits

abbrev pub InSource : SourceSight → (State → ℕ → ℕ → Type 0) → Type 0
InSource sight P = (s : State) → IsSourceSight s sight → P s sight.star.group.bits sight.source.bits
