-- A router whose host asks for a group and is silent from then on, or asks again: until when the source's packets come to the host's link.
-- Computed by the kernel.
use Rattle.std.{specs.Prelude.{List, Some, [], ℕ, ◌++◌, ◌∷◌, ◌≡◌}}
use Rattle.pim_types.{specs.declared.event.Event.Event}
use Rattle.pim_model.{specs.Network.{At, Move, Network, Sent, moved, network_ran}}
use Rattle.pim_runs.{specs.{InTime.started, ServedChain.{asked_group, first, first_meets, packet_living, report, sender, sent_packet, station}, Words.{advance, frame}}}
use Rattle.law_converges.{specs.{Carried.EachMove, LeftLinks.{AsksExpire, EachIsWanted, EachMoveAfter, IsAsked, NoneComes}}}

-- the chain's first router, on the host's link, 3, and on link 1, on the RP's side; a host has asked it at time 0
abbrev pub heard : List Event
heard = first_meets ++ report ∷ []

abbrev pub asked_once : Network
asked_once = record { stations = station (3 ∷ 1 ∷ []) first heard ∷ []; frames = [] }

-- [Group Membership Interval]: 2 x 125 s + 10 s
abbrev pub wanted_for : ℕ
wanted_for = 260000

-- a packet of the source comes from the RP's side, and its copy goes to the host's link
abbrev pub comes : Move
comes = At 0 (frame 1 sent_packet)

abbrev pub copied_there : Sent
copied_there = record { link = Some 3; bytes = packet_living 3 }

-- ---- the host is silent

-- packets come in the last millisecond of that time, and after it
abbrev pub nearly_over : List Move
nearly_over = At 0 (advance 259999) ∷ []

abbrev pub until_over : List Move
until_over = nearly_over ++ comes ∷ At 0 (advance 260001) ∷ []

abbrev pub all_over : Network
all_over = (network_ran asked_once until_over).1

abbrev pub left_moves : List Move
left_moves = until_over ++ comes ∷ []

-- The one is copied to the host's link, and from then on none comes there.
abbrev pub HostLeaves : Type 0
HostLeaves =
    AsksExpire wanted_for 0 3 started asked_once left_moves
    × EachMove (λ n m. (r i : ℕ) → IsAsked asked_group sender 3 r i n m → ⊥) asked_once left_moves
    × (((network_ran asked_once (nearly_over ++ comes ∷ [])).1).frames ≡ ((network_ran asked_once nearly_over).1).frames ++ copied_there ∷ [])
    × (((moved all_over comes).1).frames ≡ all_over.frames)
    × EachMove (NoneComes asked_group sender wanted_for 3 started) asked_once left_moves

-- ---- the host asks again

abbrev pub again_until_over : List Move
again_until_over = At 0 (advance 200000) ∷ At 0 report ∷ At 0 (advance 260001) ∷ []

abbrev pub again_moves : List Move
again_moves = again_until_over ++ comes ∷ []

-- So the other is copied there, too, and the host has asked for it within that time.
abbrev pub HostStays : Type 0
HostStays =
    AsksExpire wanted_for 0 3 started asked_once again_moves
    × (((network_ran asked_once again_moves).1).frames ≡ ((network_ran asked_once again_until_over).1).frames ++ copied_there ∷ [])
    × EachMoveAfter (EachIsWanted asked_group sender wanted_for wanted_for 3 started) [] asked_once again_moves
