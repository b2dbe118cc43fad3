-- Three routers in a line, of which the first begins to want a group: no other one holds it.
use Rattle.std.{specs.Prelude.{List, [], ℕ, ◌++◌, ◌∷◌, ◌≡◌}}
use Rattle.pim_ip.{specs.Ipv4.{all_pim_routers, pim_packet_text}}
use Rattle.pim_types.{specs.declared.event.Event.Event}
use Rattle.pim_wire.{specs.{Encoded.pim_text, Hellos.{holdtime_option, option_text}}}
use Rattle.pim_model.{specs.{Network.{At, Deliver, Move, Network, network_ran}, State.opening, Step.state_after}}
use Rattle.law_streams.{specs.InTimeJoins.{Always, IsHeld, Wants}}
use Rattle.pim_runs.{specs.{InTime.{joined, pair, started}, ServedChain.{asked_group, first, report, root, second, sender, station, third}, WayInTime.upper_pair, Words.{address, advance, frame, up}}}
use Rattle.law_converges.{specs.{JoinedWays.{AreHops, AreTogether, IsDue}, PassedOnce.{IsOnTree, IsPassedOnce}}}

-- a Hello whose holdtime never expires
abbrev pub lasting_hello : ℕ → List ℕ
lasting_hello from = pim_packet_text 1 from all_pim_routers (pim_text 0 (option_text holdtime_option (255 ∷ 255 ∷ [])))

-- The routers meet, and a host asks the first one for a group at one second: nobody hears its Join.
abbrev pub first_asks : List Event
first_asks = up 7 0 ∷ up 7 1 ∷ frame 1 (lasting_hello (address 10 0 1 2)) ∷ advance 1000 ∷ report ∷ advance 60999 ∷ []

abbrev pub second_waits : List Event
second_waits =
    up 7 0 ∷ up 7 1 ∷ frame 0 (lasting_hello (address 10 0 1 1)) ∷ frame 1 (lasting_hello root) ∷ advance 60999 ∷ []

abbrev pub third_waits : List Event
third_waits = up 7 0 ∷ frame 0 (lasting_hello (address 10 0 2 1)) ∷ advance 60999 ∷ []

abbrev pub unjoined : Network
unjoined = record {
  stations =
      station (3 ∷ 1 ∷ []) first first_asks ∷ station (1 ∷ 2 ∷ []) second second_waits ∷ station (2 ∷ []) third third_waits ∷ [];
  frames = [];
}

-- all go on to a moment
abbrev pub all_to : ℕ → List Move
all_to moment = At 0 (advance moment) ∷ At 1 (advance moment) ∷ At 2 (advance moment) ∷ []

-- The first router's Join is delivered, and the second's, who then wants the group; each is repeated twice, and delivered, until
-- the time of all is past the bound of the RP.
abbrev pub joining : List Move
joining =
    all_to 61000 ++ (Deliver 1 0 1 7 ∷ Deliver 2 0 2 7 ∷ [])
    ++ all_to 91000 ++ all_to 121000 ++ (Deliver 1 0 10 7 ∷ Deliver 2 0 13 7 ∷ [])
    ++ all_to 151000 ++ all_to 181000 ++ (Deliver 1 0 24 7 ∷ Deliver 2 0 29 7 ∷ [])
    ++ all_to 211000 ++ all_to 239001

-- what is sent comes within a second, and the routers are within half a minute of each other
abbrev pub late : ℕ
late = 1000

abbrev pub lag : ℕ
lag = 30000

-- the first router's next Join is due at 61 s, and a second twice later is the bound
abbrev pub way_bound : ℕ
way_bound = 63000

abbrev pub ChainComesInTime : Type 0
ChainComesInTime =
    ((state_after (opening second) second_waits).downstream ≡ [])
    × ((state_after (opening third) third_waits).downstream ≡ [])
    × AreHops joined asked_group late started unjoined joining 0 (pair ∷ upper_pair ∷ [])
    × Always (AreTogether lag started) unjoined joining × Always (Wants joined asked_group 0) unjoined joining
    × IsDue joined asked_group late way_bound started 0 unjoined

abbrev pub ChainComesToBeJoined : Type 0
ChainComesToBeJoined =
    IsHeld joined asked_group pair (network_ran unjoined joining).1 × IsHeld joined asked_group upper_pair (network_ran unjoined joining).1

-- So each packet of the sender that comes to the second router from the RP's side leaves on the first one's link, once.
abbrev pub ChainPassesOnce : Type 0
ChainPassesOnce =
    Always (IsOnTree asked_group sender 1 pair) unjoined joining × IsPassedOnce asked_group sender 1 pair (network_ran unjoined joining).1
