-- Worked runs of a split data plane: a source that is joined on 1 and sends on 0.
use Rattle.std.{specs.Prelude.{Bool, List, None, Option, Some, [], map, option_map, true, false, ℕ, ◌∷◌, ◌≡◌}}
use Rattle.pim_types.{specs.{declared.{config.SptSwitch.SptSwitch, event.Event.Event, outcome.Outcome.Outcome}, Keys.source_key}}
use Rattle.pim_model.{specs.{Sets.members, State.State, Step.state_after}}
use Rattle.law_events.{specs.Named.event_named}
use Rattle.pim_runs.{specs.{Base.{after, base, group, host, opened_with, source}, Cached.joined_and_sent, Packets.{copy_on_1, copy_on_2, hello_of_10_0_2_9, host_packet, packet, to_exclude}, Words.{advance, done_with, done_with_copies, down, frame}}}
use Rattle.law_plane.{specs.{Offload.{Handling, Row, handled, told}, Split.{Notice, Split, caught_up, split_ran, whole}}}

-- once the first Hellos have left
abbrev pub at_ten : State
at_ten = state_after joined_and_sent (advance 10 ∷ [])

abbrev pub its_row : Option Row
its_row = told at_ten group source

-- what is done of a packet: nothing where it is the core's, else whether the core is to hear of it, and where it leaves
abbrev pub way : Handling → Option (Bool × List ℕ)
way (Handling.Forward alive list) = Some (alive, members at_ten list)
way Handling.Drop = Some (false, [])
way Handling.ToCore = None

-- A packet on 0 comes from the source, and leaves on 1; on 1 it would make the router the winner of an assert; on 2 it
-- is dropped.
abbrev pub EachLinkIsHandled : Type 0
EachLinkIsHandled =
    map (λ i. way (handled its_row i)) (0 ∷ 1 ∷ 2 ∷ [])
    ≡ Some (true, 1 ∷ []) ∷ None ∷ Some (false, []) ∷ []

abbrev pub split : Split
split = whole at_ten (told at_ten)

abbrev pub packets : List Event
packets = frame 0 packet ∷ advance 15 ∷ frame 0 packet ∷ frame 0 packet ∷ []

abbrev pub later : Split
later = (split_ran split packets).1

-- the core stands at 10, and has yet to hear of the last of three packets
abbrev pub LastPacketIsOwed : Type 0
LastPacketIsOwed =
    ((split_ran split packets).0
    ≡ done_with_copies 1 (copy_on_1 ∷ []) ∷ done_with [] ∷ done_with_copies 1 (copy_on_1 ∷ [])
    ∷ done_with_copies 1 (copy_on_1 ∷ []) ∷ [])
    × ((later.core).present ≡ 10) × (later.now ≡ 15)
    × (map (λ (n : Notice). n.moment) later.owed ≡ 15 ∷ [])

-- once the link to the receiver goes down the core stands at 15, nothing is owed, and the source was named
abbrev pub after_down : Split
after_down = (split_ran later (down 1 ∷ [])).1

abbrev pub CoreCatchesUp : Type 0
CoreCatchesUp =
    ((after_down.core).present ≡ 15) × (map (λ (n : Notice). n.moment) after_down.owed ≡ [])
    × (event_named (caught_up later) (down 1) ≡ source_key 0 group source ∷ [])

-- ---- a source without a fact, at a router that never leaves the shared tree

abbrev pub spt_never : State
spt_never = state_after (opened_with (record base { spt = SptSwitch.Never })) (frame 2 to_exclude ∷ advance 10 ∷ [])

abbrev pub on_shared_tree : List Outcome × Split
on_shared_tree = split_ran (whole spt_never (told spt_never)) (advance 15 ∷ frame 0 packet ∷ frame 1 packet ∷ [])

-- The packet of an unknown source leaves on 2, and one that comes on 1 is dropped; the core stands at 10, and hears of
-- neither.
abbrev pub UnknownIsForwarded : Type 0
UnknownIsForwarded =
    (on_shared_tree.0 ≡ done_with [] ∷ done_with_copies 1 (copy_on_2 ∷ []) ∷ done_with [] ∷ [])
    × (((on_shared_tree.1).core).present ≡ 10) × ((on_shared_tree.1).now ≡ 15)
    × (map (λ (n : Notice). n.moment) (on_shared_tree.1).owed ≡ [])

-- ---- a neighbour that becomes the DR of 2

abbrev pub heard_and_sent : State
heard_and_sent = state_after joined_and_sent (frame 2 to_exclude ∷ [])

-- A Hello by which 10.0.2.9 becomes a neighbour names the source where a host on 2 asks for the group, and none where
-- no host does.
abbrev pub DrNamesWhatItServes : Type 0
DrNamesWhatItServes =
    (event_named joined_and_sent (frame 2 hello_of_10_0_2_9) ≡ [])
    × (event_named heard_and_sent (frame 2 hello_of_10_0_2_9) ≡ source_key 0 group source ∷ [])

-- ---- a router on a host's link that isn't its DR

abbrev pub beside_dr : State
beside_dr = after (frame 2 hello_of_10_0_2_9 ∷ frame 2 host_packet ∷ [])

-- the incoming interface is that of the shared tree, and a packet of the host, on 2, leaves nowhere; yet the core is to
-- hear of it
abbrev pub HostIsHeardOf : Type 0
HostIsHeardOf =
    (option_map (λ (r : Row). r.incoming) (told beside_dr group host) ≡ Some (Some 0))
    × (map (λ i. way (handled (told beside_dr group host) i)) (0 ∷ 1 ∷ 2 ∷ [])
    ≡ Some (false, []) ∷ Some (false, []) ∷ Some (true, []) ∷ [])
