-- Short names for bytes, addresses, events and outcomes.
use Prim.{Native.String.String}
use Rattle.std.{specs.Prelude.{Bool, List, Ok, codes, false, filter, slice_index, ℕ, ◌&&◌, ◌*◌, ◌+◌, ◌==◌}}
use Rattle.pim_types.{specs.declared.{config.{Route.Route, RpRange.RpRange}, event.{Event.Event, EventKind.EventKind}, outcome.{Emission.Emission, Outcome.Outcome, Verdict.Verdict}}}
use Rattle.pim_runs.{specs.Transcript.from_hex}

-- bytes by their hexadecimal digits
abbrev pub hex : String → List ℕ
hex text = from_hex (codes text)

-- an address by its four numbers
abbrev pub address : ℕ → ℕ → ℕ → ℕ → ℕ
address a b c d = ((a * 256 + b) * 256 + c) * 256 + d

-- ---- events, with draw 0 where none is given

abbrev pub up : ℕ → ℕ → Event
up draw i = record { draw = draw; kind = EventKind.Up (record { number = i }) }

abbrev pub down : ℕ → Event
down i = record { draw = 0; kind = EventKind.Down (record { number = i }) }

abbrev pub frame_drawn : ℕ → ℕ → List ℕ → Event
frame_drawn draw i bytes = record { draw = draw; kind = EventKind.Frame (record { number = i }) bytes }

abbrev pub frame : ℕ → List ℕ → Event
frame i bytes = frame_drawn 0 i bytes

abbrev pub unicast_drawn : ℕ → List ℕ → Event
unicast_drawn draw bytes = record { draw = draw; kind = EventKind.Unicast bytes }

abbrev pub unicast : List ℕ → Event
unicast bytes = unicast_drawn 0 bytes

abbrev pub advance : ℕ → Event
advance moment = record { draw = 0; kind = EventKind.Advance moment }

abbrev pub routes_to : List Route → Event
routes_to routes = record { draw = 0; kind = EventKind.Routes routes }

abbrev pub rps_to : List RpRange → Event
rps_to rps = record { draw = 0; kind = EventKind.Rps rps }

-- ---- what leaves: on an interface, or to an address

abbrev pub on : ℕ → List ℕ → Emission
on i packet = Emission.Link (record { number = i }) packet

-- ---- outcomes

abbrev pub done_with_copies : ℕ → List Emission → Outcome
done_with_copies copies emissions = record { answer = Ok Verdict.Done; emissions = emissions; copies = copies }

abbrev pub done_with : List Emission → Outcome
done_with emissions = done_with_copies 0 emissions

-- ---- what is looked at where timers send other things as well

-- a PIM message of a type on a link, behind a header of 20 bytes
abbrev pub is_pim_of_type : ℕ → Emission → Bool
is_pim_of_type type (Emission.Link i packet) = (slice_index packet 9 == 103) && (slice_index packet 20 == 0x20 + type)
is_pim_of_type type (Emission.Unicast destination packet) = false

abbrev pub join_prunes : Outcome → List Emission
join_prunes o = filter (is_pim_of_type 3) o.emissions

abbrev pub is_igmp_on : ℕ → Emission → Bool
is_igmp_on i (Emission.Link on packet) = (on.number == i) && (slice_index packet 9 == 2)
is_igmp_on i (Emission.Unicast destination packet) = false

abbrev pub queries_on : ℕ → Outcome → List Emission
queries_on i o = filter (is_igmp_on i) o.emissions
