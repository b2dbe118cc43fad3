-- A router that is given a list of interfaces without its first one, with a map of its places: what comes on the others goes on.
use Rattle.std.{specs.Prelude.{List, None, Some, [], false, map, true, ◌++◌, ◌∷◌, ◌≡◌}}
use Rattle.pim_ip.{specs.Ipv4.{copy_text, igmp_packet_text, packet_of}}
use Rattle.pim_types.{specs.declared.{config.Config.Config, event.Event.Event}}
use Rattle.igmp_wire.{specs.Reports.report_text}
use Rattle.pim_model.{specs.{Cause.{CopiesAreAsked, copies_in, has_cause}, State.{State, opening}, Step.{outcome_of, step}, Writing.on_link}}
use Rattle.law_states.{specs.{Placing.Places, History.{Given, IsLedTo, past_given, state_given}}}
use Rattle.pim_runs.{specs.{Base.{interface, prefix, route_by}, Words.{address, frame, up}, ServedChain.{asked_group, hello_from, request, sender, sent_packet}, Switch.switching}}

-- the router with one more interface, before the others
abbrev pub with_one_before : Config
with_one_before = record switching {
  interfaces = interface (address 10 0 8 1) ∷ switching.interfaces;
  routes =
      route_by 2 (address 10 0 1 2) (prefix (address 10 0 2 0) 24)
      ∷ route_by 3 (address 10 0 4 2) (prefix (address 10 9 9 0) 24) ∷ [];
}

-- a host asks on interface 1, and a packet comes on interface 2
abbrev pub met : List Event
met =
    up 7 0 ∷ up 7 1 ∷ up 7 2 ∷ up 7 3 ∷ frame 2 (hello_from (address 10 0 1 2))
    ∷ frame 1 (igmp_packet_text (address 10 0 3 9) (address 224 0 0 22) (report_text (request ∷ [])))
    ∷ frame 2 sent_packet ∷ []

-- the first interface goes, and each other one comes a place before
abbrev pub one_before : Places
one_before = None ∷ Some 0 ∷ Some 1 ∷ Some 2 ∷ []

abbrev pub without_it : List Given
without_it = map Given.Happening met ++ (Given.Placed one_before switching 7 ∷ [])

abbrev pub left : State
left = state_given (opening with_one_before) without_it

-- what led to it
abbrev pub PlacesLead : Type 0
PlacesLead = IsLedTo with_one_before without_it left

-- the next packet comes on interface 1, and has one copy, on the host's link, which is interface 0
abbrev pub StreamGoesOn : Type 0
StreamGoesOn =
    copies_in (outcome_of (step left (frame 1 sent_packet))) ≡ on_link 0 (copy_text (packet_of sent_packet)) ∷ []

-- The host's report is the cause, under the number that its link had then: on interface 0, and on no other one.
abbrev pub CauseHasOldNumber : Type 0
CauseHasOldNumber =
    (has_cause (past_given [] (opening with_one_before) without_it) 0 0 asked_group sender ≡ true)
    × (has_cause (past_given [] (opening with_one_before) without_it) 0 1 asked_group sender ≡ false)

-- so the copy is asked for
abbrev pub PlacedCopyIsAskedFor : Type 0
PlacedCopyIsAskedFor = CopiesAreAsked (past_given [] (opening with_one_before) without_it)
    (record { before = left; event = frame 1 sent_packet }) (outcome_of (step left (frame 1 sent_packet)))
