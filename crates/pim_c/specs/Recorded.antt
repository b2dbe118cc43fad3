-- The record of a call that a program tells, and what is written of it.
use Rattle.std.{specs.{Option.option_map_or, Prelude.{List, None, Option, Some, [], if◌then◌else◌, length, map, ℕ, ◌==◌, ◌≡◌, ◌⊎◌}}}
use Rattle.pim_ifset.{specs.Members.iface_of}
use Rattle.pim_ip.{specs.Addr.addr}
use Rattle.pim_types.{specs.declared.{config.Config.Config, event.EventKind.EventKind}}
use Rattle.pim_saver.{specs.{Records.{Call, Guard, Hosts, Kept, Record, Reloaded, Seen, Sets, Version, event_record, front_text, placed_call, record_text, settings_in, summed}, declared.answered.Answered.Answered}}
use Rattle.pim_c.{specs.{Given.{candidate_of, range_of, route_of, rp_set_of}, Returned.written_into, Written.NoBytesWritten, declared.{given.{GivenCandidate.GivenCandidate, GivenRange.GivenRange, GivenRoute.GivenRoute, GivenRpSet.GivenRpSet}, recorded.GivenCall.GivenCall}}}

abbrev pub answered_of : GivenCall → Answered
answered_of c = record { answer = c.answer; sum = c.sum }

abbrev pub happened : GivenCall → EventKind → Option Record
happened c kind = Some (event_record c.draw kind (answered_of c))

abbrev pub called : GivenCall → Call → Option Record
called c call = Some (record { call = call; answered = answered_of c })

-- the record of a call without a list, by its letter
abbrev pub record_given : GivenCall → List ℕ → Option Record
record_given c packet =
    if c.letter == 97 then happened c (EventKind.Advance c.moment)
    else (if c.letter == 102 then happened c (EventKind.Frame (iface_of c.iface) packet)
    else (if c.letter == 117 then happened c (EventKind.Unicast packet)
    else (if c.letter == 43 then happened c (EventKind.Up (iface_of c.iface))
    else (if c.letter == 45 then happened c (EventKind.Down (iface_of c.iface))
    else (if c.letter == 115 then called c (Seen c.draw (iface_of c.iface) (addr c.source) (addr c.group))
    else (if c.letter == 107 then called c (Kept (addr c.source) (addr c.group) c.moment)
    else (if c.letter == 111 then called c (Hosts (iface_of c.iface) c.value)
    else (if c.letter == 113 then called c (Version (iface_of c.iface) c.value)
    else (if c.letter == 100 then called c (Guard c.value) else None)))))))))

-- the bytes of a recorded call without their sum; none where no kind has the letter
abbrev pub given_front : GivenCall → List ℕ → List ℕ
given_front c packet = option_map_or front_text (record_given c packet) []

-- the bytes of a record with their sum, where there are any
abbrev pub ended : List ℕ → List ℕ
ended bytes = if length bytes == 0 then bytes else summed bytes

abbrev pub given_text : GivenCall → List ℕ → List ℕ
given_text c packet = ended (given_front c packet)

abbrev pub routes_record : GivenCall → List GivenRoute → Record
routes_record c routes = event_record c.draw (EventKind.Routes (map route_of routes)) (answered_of c)

abbrev pub routes_text : GivenCall → List GivenRoute → List ℕ
routes_text c routes = record_text (routes_record c routes)

abbrev pub ranges_record : GivenCall → List GivenRange → Record
ranges_record c ranges = event_record c.draw (EventKind.Rps (map range_of ranges)) (answered_of c)

abbrev pub ranges_text : GivenCall → List GivenRange → List ℕ
ranges_text c ranges = record_text (ranges_record c ranges)

abbrev pub candidates_record : GivenCall → List GivenCandidate → Record
candidates_record c candidates =
    event_record c.draw (EventKind.RpCandidates (map candidate_of candidates)) (answered_of c)

abbrev pub candidates_text : GivenCall → List GivenCandidate → List ℕ
candidates_text c candidates = record_text (candidates_record c candidates)

abbrev pub rp_sets_record : GivenCall → List GivenRpSet → Record
rp_sets_record c sets = record { call = Sets (map rp_set_of sets); answered = answered_of c }

abbrev pub rp_sets_text : GivenCall → List GivenRpSet → List ℕ
rp_sets_text c sets = record_text (rp_sets_record c sets)

abbrev pub reload_record : GivenCall → Config → Record
reload_record c given = record {
  call = Reloaded c.draw (settings_in given) given.interfaces given.addresses given.routes given.rps;
  answered = answered_of c;
}

abbrev pub reload_text : GivenCall → Config → List ℕ
reload_text c given = record_text (reload_record c given)

abbrev pub placed_record : GivenCall → Config → List ℕ → Record
placed_record c given places = record { call = placed_call c.draw given places; answered = answered_of c }

abbrev pub placed_text : GivenCall → Config → List ℕ → List ℕ
placed_text c given places = record_text (placed_record c given places)

-- Bytes were written, as many as fit, with how many there are, or an allocation failed.
abbrev pub Written : List ℕ → ℕ → ℕ → ℕ → List ℕ → List ℕ → Type 0
Written text answer size written room filled =
    ((answer ≡ 0) × (written ≡ length text) × (filled ≡ written_into room text))
    ⊎ NoBytesWritten 40 answer size written room filled
