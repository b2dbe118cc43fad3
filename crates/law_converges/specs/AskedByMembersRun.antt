-- Three routers in a line, from their beginning on: a host's, one between, and the RP. The host asks, Joins go up to the RP, and a packet that
-- a Register brings there comes down to the host's link. And the two LANs with the RP. Computed by the kernel.
use Rattle.std.{specs.{List.flat_map, Prelude.{List, None, Some, [], if◌then◌else◌, length, map, nat_le, nat_lt, slice_get, unwrap_or, ℕ, ◌%◌, ◌*◌, ◌++◌, ◌+◌, ◌-◌, ◌/◌, ◌==◌, ◌∷◌, ◌≡◌, ◌≤◌}}}
use Rattle.pim_types.{specs.declared.event.Event.Event}
use Rattle.pim_model.{specs.{Network.{At, Deliver, Move, Network, Station, frame_at, network_ran, station_at}}}
use Rattle.pim_runs.{specs.{InTime.started, ServedChain.{asked_group, first, first_meets, hello_from, packet_living, register, report, root, second, second_meets, sender, station, third, third_meets}, Words.{address, advance, frame, unicast, up}}}
use Rattle.law_converges.{specs.{AskedByMembers.{EachIsOnWay, IsNew, IsOnWay, IsOverBy, JoinsAreSent, JoinsLeadUp, Sources}, Carried.{EachMove, Traffic}, CarriedNetworkRun.{before, far_source, moves, soon, traffic}, LeftLinks.{EachMoveAfter, IsBroughtTo}, LeftLinksRun.wanted_for, Past.ArePast}}

-- ---- the line

abbrev pub new_line : Network
new_line = record {
  stations = station (3 ∷ 1 ∷ []) first [] ∷ station (1 ∷ 2 ∷ []) second [] ∷ station (2 ∷ []) third [] ∷ [];
  frames = [];
}

-- The routers come up and meet; after a second the host asks, and the Joins come to the next hops. A Register brings a packet to the RP, and
-- its copies come to the others.
abbrev pub line_moves : List Move
line_moves =
    map (At 0) first_meets ++ map (At 1) second_meets ++ map (At 2) third_meets
    ++ At 0 (advance 1000) ∷ At 1 (advance 1000) ∷ At 2 (advance 1000) ∷ At 0 report ∷ Deliver 1 0 11 7 ∷ Deliver 2 0 12 7
    ∷ At 2 (unicast register) ∷ Deliver 1 1 13 7 ∷ Deliver 0 1 14 7 ∷ []

abbrev pub line_senders : List ℕ
line_senders = 0 ∷ 0 ∷ 1 ∷ 1 ∷ 2 ∷ 0 ∷ 0 ∷ 1 ∷ 1 ∷ 2 ∷ 0 ∷ 1 ∷ 2 ∷ 1 ∷ 0 ∷ []

abbrev pub line_traffic : Traffic
line_traffic = record {
  sent = λ k. if nat_le k 5 then 0 else 1000;
  by = λ k. unwrap_or (slice_get line_senders (k - 1)) 0;
}

-- a frame comes at once, and time goes on by no more than a second
abbrev pub at_once : ℕ
at_once = 0

abbrev pub second_long : ℕ
second_long = 1000

-- the hops to the RP; nobody joins a source
abbrev pub line_distance : Sources → ℕ → ℕ
line_distance None r = 2 - r
line_distance (Some src) r = 0

abbrev pub line_at_end : Network
line_at_end = (network_ran new_line line_moves).1

-- The packet comes to each of the three links.
abbrev pub LineIsAsked : Type 0
LineIsAsked =
    IsNew new_line
    × EachMove (JoinsAreSent wanted_for at_once second_long 0 started line_traffic) new_line line_moves
    × EachMove (JoinsLeadUp asked_group sender line_distance line_traffic) new_line line_moves
    × (frame_at line_at_end 13 ≡ Some (record { link = Some 2; bytes = packet_living 3 }))
    × (frame_at line_at_end 14 ≡ Some (record { link = Some 1; bytes = packet_living 2 }))
    × (frame_at line_at_end 15 ≡ Some (record { link = Some 3; bytes = packet_living 1 }))

-- So from each a way of no more than three Joins leads to a host.
abbrev pub LineLeadsToHost : Type 0
LineLeadsToHost =
    EachMoveAfter (λ before n m. (link number : ℕ) (bytes : List ℕ) → IsBroughtTo asked_group sender link number bytes n m
    → IsOnWay wanted_for (at_once + second_long) asked_group sender started (λ joins. joins ≤ 2 + 0 + 1) link bytes before n m) [] new_line line_moves

-- ---- eleven minutes

-- a host's router and the RP, which have met; nobody has asked yet
abbrev pub pair_low : List Event
pair_low = up 7 0 ∷ up 7 1 ∷ frame 1 (hello_from root) ∷ []

abbrev pub pair : Network
pair = record { stations = station (1 ∷ 2 ∷ []) second pair_low ∷ station (2 ∷ []) third third_meets ∷ []; frames = [] }

-- Each minute they hear each other's Hello, the Join comes to the RP, and the host asks again. A Join is the last of the 7 frames of a minute
-- with a query, or of the 5 of one without, that its router sends; the RP sends 3, or 2.
abbrev pub join_of : ℕ → ℕ
join_of k = 9 + 17 * ((k - 1) / 2) + (if k % 2 == 0 then 8 else 0)

abbrev pub minute : ℕ → List Move
minute k =
    At 0 (advance (60000 * k)) ∷ At 1 (advance (60000 * k)) ∷ At 0 (frame 1 (hello_from root)) ∷ At 1 (frame 0 (hello_from (address 10 0 2 1)))
    ∷ Deliver 1 0 (join_of k) 7 ∷ At 0 report ∷ []

abbrev pub until_packet : List Move
until_packet =
    At 0 report ∷ Deliver 1 0 2 7 ∷ flat_map minute (1 ∷ 2 ∷ 3 ∷ 4 ∷ 5 ∷ 6 ∷ 7 ∷ 8 ∷ 9 ∷ 10 ∷ 11 ∷ [])

-- then a packet comes to the RP, and to the host's link
abbrev pub minutes : List Move
minutes = until_packet ++ At 1 (unicast register) ∷ Deliver 0 1 98 7 ∷ []

abbrev pub pair_traffic : Traffic
pair_traffic = record {
  sent = λ k. if nat_le k 2 then 0
      else if nat_le k 97 then 60000 * (2 * ((k - 3) / 17) + (if nat_lt ((k - 3) % 17) 10 then 1 else 2)) else 660000;
  by = λ k. if nat_le k 2 then 0 else if nat_le k 97 then (let i : ℕ = (k - 3) % 17 in
      if nat_lt i 7 then 0 else if nat_lt i 10 then 1 else if nat_lt i 15 then 0 else 1) else if k == 98 then 1 else 0;
}

abbrev pub pair_distance : Sources → ℕ → ℕ
pair_distance None r = 1 - r
pair_distance (Some src) r = 0

-- twice the 260 s of [Group Membership Interval] and a minute
abbrev pub pair_bound : ℕ
pair_bound = 0 + (1 + 0 + 1) * (wanted_for + (at_once + 60000))

abbrev pub pair_then : Network
pair_then = (network_ran pair until_packet).1

abbrev pub pair_at_end : Network
pair_at_end = (network_ran pair minutes).1

-- The packet comes later than that to both links.
abbrev pub PairIsAsked : Type 0
PairIsAsked =
    ((r : ℕ) (st : Station) → station_at pair r ≡ Some st → IsOverBy asked_group 0 started r st)
    × EachMove (JoinsAreSent wanted_for at_once 60000 (length pair.frames) started pair_traffic) pair minutes
    × EachMove (JoinsLeadUp asked_group sender pair_distance pair_traffic) pair minutes
    × ArePast started pair_bound pair_then
    × (frame_at pair_at_end 98 ≡ Some (record { link = Some 2; bytes = packet_living 3 }))
    × (frame_at pair_at_end 99 ≡ Some (record { link = Some 1; bytes = packet_living 2 }))

-- So a way of no more than two Joins leads from each of them to a host that has asked since.
abbrev pub PairComesToLeadToHost : Type 0
PairComesToLeadToHost =
    EachMoveAfter (EachIsOnWay wanted_for (at_once + 60000) asked_group sender pair_bound started (λ joins. joins ≤ 1 + 0 + 1)) [] pair minutes

-- ---- the two LANs

-- the RP is a hop away
abbrev pub plan_distance : Sources → ℕ → ℕ
plan_distance None r = if r == 2 then 0 else 1
plan_distance (Some src) r = 0

-- the time goes on by no more than this at once
abbrev pub plan_tick : ℕ
plan_tick = 6100

-- what hosts and the router that left asked at 91 s is over
abbrev pub plan_limit : ℕ
plan_limit = 351000

abbrev pub PlanIsAsked : Type 0
PlanIsAsked =
    ((r : ℕ) (st : Station) → station_at before r ≡ Some st → IsOverBy asked_group plan_limit started r st)
    × EachMove (JoinsAreSent wanted_for soon plan_tick (length before.frames) started traffic) before moves
    × EachMove (JoinsLeadUp asked_group far_source plan_distance traffic) before moves

abbrev pub PlanComesToLeadToHosts : Type 0
PlanComesToLeadToHosts =
    EachMoveAfter (EachIsOnWay wanted_for (soon + plan_tick) asked_group far_source (plan_limit + (1 + 0 + 1) * (wanted_for + (soon + plan_tick)))
    started (λ joins. joins ≤ 1 + 0 + 1)) [] before moves
