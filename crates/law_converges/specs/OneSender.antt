-- Of two routers of a link at most one sends a source's packets there, once the other has lost the assert (RFC 7761, 4.2 and
-- 4.6.5).
use Rattle.std.{specs.{List.Contains, Prelude.{Bool, List, Some, [], false, if◌then◌else◌, not, true, ℕ, ◌&&◌, ◌<◌, ◌==◌, ◌∷◌, ◌≡◌, ◌⊎◌}}}
use Rattle.pim_ip.{specs.Ipv4.Packet}
use Rattle.pim_types.{specs.declared.{config.IfaceId.IfaceId, event.Event.Event, fact.AssertMetric.AssertMetric}}
use Rattle.pim_model.{specs.{declared.accepted.Accepted.Accepted, Cause.done_as, Network.{Move, Network, Station, moved, station_at}, Sets.{is_better, lost_assert, lost_assert_rpt, lost_assert_star, spt_bit, spt_metric}, State.State, Unicast.{is_rpf_interface, is_rpf_interface_rp}, Writing.on_link}}
use Rattle.law_streams.{specs.{Adjacent.Adjacent, Copies.{copies_at, happens}, InTimeJoins.{Always, IsBy}, Served.renewed}}
use Rattle.law_converges.{specs.LinkLosers.{AssertsBy, AssertsComeInTime, LosesBeyond, most_late_assert, winner_of}}

-- the interface is taken off the lists by a lost assert: that of a group (source 0.0.0.0), lost_assert(*,G,I); or that of a
-- source, both lost_assert(S,G,I) and lost_assert(S,G,rpt,I)
abbrev pub is_silenced : State → (g src i : ℕ) → Bool
is_silenced s g src i =
    if src == 0 then lost_assert_star s g i else lost_assert s g src i && lost_assert_rpt s g src i

-- such an assert is about the packets of its source; that of a group about all that don't come on their source's tree
abbrev pub is_about_packet : State → (g src iif : ℕ) → Packet → Bool
is_about_packet s g src iif p =
    (p.destination == g)
    && (if src == 0
    then not (is_rpf_interface (renewed s p.destination p.source iif) p.source iif && spt_bit (renewed s p.destination p.source iif) p.destination p.source)
    else p.source == src)

-- Who lost the assert sends none of these packets on the interface.
abbrev pub LoserSendsNone : Type 0
LoserSendsNone = (s : State) (e : Event) (i : IfaceId) (p : Packet) (g src j : ℕ) (text : List ℕ)
    → done_as (happens s e) ≡ Some (Accepted.Data i p) → is_about_packet s g src i.number p ≡ true → is_silenced s g src j ≡ true
    → Contains (copies_at s e) (on_link j text) → ⊥

-- ---- two routers of a link

-- the link isn't the other one's way to the RP, nor to the source, to which its own metric is worse than the winner's
pub record IsOffTree (g src : ℕ) (metric : AssertMetric) (c : Adjacent) (n : Network) : Type 0 where
  pub station : Station
  pub there : station_at n c.upper ≡ Some station
  pub group : is_rpf_interface_rp station.state g c.down ≡ false
  pub source : (src == 0) ≡ false → is_rpf_interface station.state src c.down ≡ false
  pub beaten : (src == 0) ≡ false → is_better (winner_of g src metric c) (spt_metric station.state src c.down) ≡ true

-- whatever packet of these comes to the other one, none leaves on the link
abbrev pub IsSilent : (g src : ℕ) → Adjacent → Network → Type 0
IsSilent g src c n = (e : Event) (st : Station) (i : IfaceId) (p : Packet) (text : List ℕ) → station_at n c.upper ≡ Some st
    → done_as (happens st.state e) ≡ Some (Accepted.Data i p) → is_about_packet st.state g src i.number p ≡ true
    → Contains (copies_at st.state e) (on_link c.down text) → ⊥

-- While one is the winner, the other one, which has lost, sends none of these packets on the link: at most one of both does.
abbrev pub AtMostOneSends : Type 0
AtMostOneSends = (g src : ℕ) (metric : AssertMetric) (d bound : ℕ) (started : ℕ → ℕ) (c : Adjacent) (n : Network) (ms : List Move)
    → d < most_late_assert → AssertsComeInTime g src metric d started c n ms → AssertsBy g src metric d bound started c n
    → LosesBeyond g src metric bound started c n → Always (IsOffTree g src metric c) n ms → Always (IsSilent g src c) n ms

-- after each move the other one's time isn't past a bound yet, or it sends none
abbrev pub IsSilentAfter : (g src : ℕ) → (ℕ → ℕ) → Adjacent → (bound : ℕ) → Network → List Move → Type 0
IsSilentAfter g src started c bound n [] = Unit {0}
IsSilentAfter g src started c bound n (m ∷ ms) =
    (IsBy started c.upper bound (moved n m).1 ⊎ IsSilent g src c (moved n m).1) × IsSilentAfter g src started c bound (moved n m).1 ms

-- From 2 d after the winner's next Assert on at most one of both sends, whatever the other one was before.
abbrev pub AtMostOneComesToSend : Type 0
AtMostOneComesToSend = (g src : ℕ) (metric : AssertMetric) (d bound : ℕ) (started : ℕ → ℕ) (c : Adjacent) (n : Network) (ms : List Move)
    → d < most_late_assert → AssertsComeInTime g src metric d started c n ms → AssertsBy g src metric d bound started c n
    → Always (IsOffTree g src metric c) n ms → IsSilentAfter g src started c bound n ms
