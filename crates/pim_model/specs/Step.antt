-- One step of the specification: the judgement of an event, its own change, and what follows from it. Sections are
-- those of RFC 7761.
use Rattle.std.{specs.Prelude.{Err, List, Ok, Result, [], false, length, true, ℕ, ◌++◌, ◌+◌, ◌∷◌}}
use Rattle.pim_ip.{specs.{Ipv4.Packet, declared.refusal.Refusal.Refusal}}
use Rattle.pim_types.{specs.{Keys.{iface_key, is_on}, declared.{config.RpTable.RpTable, event.Event.Event, fact.InterfaceRow.InterfaceRow, outcome.{Emission.Emission, Outcome.Outcome, Stop.Stop, Verdict.Verdict}}}}
use Rattle.pim_wire.{specs.{RegisterParts.{is_null, registered_group, registered_source}, Values.{Encapsulated, Null, Register}}}
use Rattle.pim_model.{specs.{Asserts.assert_received, Downstream.to_me, Firing.{fire_all, settled}, Forwarding.{Forwarded, forwarded, register_received}, Full.is_full, Hellos.{hello_received, triggered_hello_delay}, Judging.{Judged, judged}, Messages.Message, Querier.{querier_up, query_seen, report_seen}, Registers.{register_stop_seen, registers_after_rps}, Seen.seen, State.State, Tables.{delay_in, drop_where, put}, Writing.{copies_of, tunnel_of}, declared.accepted.Accepted.Accepted}}

-- ---- changes

-- an event's own change: the state after it, the messages, the copies of a packet on links, and the Register around
-- that packet
pub record Change : Type 0 where
  pub state : State
  pub messages : List Message
  pub copies : List Emission
  pub registered : List Emission

-- a change of the state that sends nothing
abbrev pub changed : State → Change
changed s = record { state = s; messages = []; copies = []; registered = [] }

-- a change with messages
abbrev pub with_messages : State × List Message → Change
with_messages c = record { state = c.0; messages = c.1; copies = []; registered = [] }

-- the change of a packet that leaves by a list of interfaces (4.2)
abbrev pub packet_forwarded : Packet → Forwarded → Change
packet_forwarded p f = record {
  state = f.state;
  messages = f.messages;
  copies = copies_of f.state p f.list;
  registered = tunnel_of f.state p f.to_tunnel;
}

-- the change of a Register (4.4.2): the packet inside it leaves; a Null-Register has none
abbrev pub decapsulated : Register → Forwarded → Change
decapsulated (Encapsulated inner) f = packet_forwarded inner f
decapsulated (Null source group) f = with_messages (f.state, f.messages)

-- PIM is enabled on the interface (4.3.1): a generation ID, the Hello Timer at rand(0, Triggered_Hello_Delay), here at
-- least 1 ms, a Hello owed; and IGMP's querier starts
unfoldable pub iface_up : State → ℕ → ℕ → State × List Message
iface_up s w i =
    let row : InterfaceRow = record {
      generation = w;
      hello_end = s.present + delay_in 1 triggered_hello_delay w;
      is_hello_owed = true;
    } in
    querier_up (record s { interfaces = put s.interfaces (iface_key i) row }) i

-- the interface goes down: all its facts are deleted; here: no Hello with holdtime 0 and nothing else leaves on it
unfoldable pub iface_down : State → ℕ → State
iface_down s i = record s {
  interfaces = drop_where (is_on i) s.interfaces;
  neighbours = drop_where (is_on i) s.neighbours;
  queriers = drop_where (is_on i) s.queriers;
  group_records = drop_where (is_on i) s.group_records;
  source_records = drop_where (is_on i) s.source_records;
  group_repeats = drop_where (is_on i) s.group_repeats;
  source_repeats = drop_where (is_on i) s.source_repeats;
  sendings = drop_where (is_on i) s.sendings;
  downstream = drop_where (is_on i) s.downstream;
  asserts = drop_where (is_on i) s.asserts;
}

-- the RP ranges and the candidates are replaced: RP changed (4.4.1)
unfoldable pub rps_replaced : State → RpTable → State
rps_replaced s rps =
    let after : State = record s { ranges = rps } in
    record after { registers = registers_after_rps s after }

-- the own change of an accepted event, with its draw; an Advance has none, but the timers that expire have
unfoldable pub change : State → ℕ → Accepted → Change
change s w (Accepted.Advance moment) = changed s
change s w (Accepted.Up i) = with_messages (iface_up s w i.number)
change s w (Accepted.Down i) = changed (iface_down s i.number)
change s w (Accepted.Routes routes) = changed (record s { routes = routes })
change s w (Accepted.Rps ranges) = changed (rps_replaced s ranges)
change s w (Accepted.Hello i from h) = changed (hello_received s i.number from.bits h w)
change s w (Accepted.JoinPruneToMe i m) = changed (to_me s i.number m)
change s w (Accepted.JoinPruneSeen i m) = changed (seen s w i.number m)
change s w (Accepted.Assert i from a) = with_messages (assert_received s i.number from.bits a)
change s w (Accepted.Query i from q) = changed (query_seen s i.number from.bits q)
change s w (Accepted.Report i records) = with_messages (report_seen s i.number records)
change s w (Accepted.Data i p) = packet_forwarded p (forwarded s p.destination p.source i.number)
change s w (Accepted.Register p r) =
    decapsulated r (register_received s p (registered_group r) (registered_source r) (is_null r))
change s w (Accepted.RegisterStop from r) = changed (register_stop_seen s w r.group.bits r.source.bits)

-- ---- the step

-- the answer to an event, what leaves, how many of that are copies of a packet, and the state after it
pub record Answered : Type 0 where
  pub answer : Result Verdict Refusal
  pub emissions : List Emission
  pub copies : ℕ
  pub state : State

-- the answer to an event that is refused or ignored
abbrev pub stopped : State → Stop → Answered
stopped s (Stop.Refuse refusal) = record { answer = Err refusal; emissions = []; copies = 0; state = s }
stopped s (Stop.Ignore reason) = record { answer = Ok (Verdict.Ignored reason); emissions = []; copies = 0; state = s }

-- the answer to a change of a state, with what follows from it
unfoldable pub done : State → ℕ → Change → Answered
done s w c =
    let sent : State × List Emission = settled s (c.state, c.messages) w in
    record {
      answer = Ok Verdict.Done;
      emissions = sent.1 ++ c.copies ++ c.registered;
      copies = length c.copies;
      state = sent.0;
    }

-- an Advance: timers expire in their order; no other event changes the present time
unfoldable pub advanced : State → ℕ → ℕ → Answered
advanced s w moment =
    let fires : State × List Emission = fire_all w moment s in
    record { answer = Ok Verdict.Done; emissions = fires.1; copies = 0; state = record (fires.0) { present = moment } }

-- the answer to an accepted event for which there is room
unfoldable pub taken : State → ℕ → Accepted → Answered
taken s w (Accepted.Advance moment) = advanced s w moment
taken s w a = done s w (change s w a)

-- the answer to an accepted event; here: one that needs more facts than there is room for is refused whole
unfoldable pub taken_unless_full : State → ℕ → Accepted → Answered
taken_unless_full s w a = elim (is_full s a) [ true ↦ stopped s (Stop.Refuse Refusal.Full) | false ↦ taken s w a ]

-- the answer by a judgement: what stopped the event, or what an accepted event brings
abbrev pub concluded : State → (Accepted → Answered) → Judged → Answered
concluded s next (Err stop) = stopped s stop
concluded s next (Ok a) = next a

-- one event: it is judged, refused if there is no room for its facts, and else taken
unfoldable pub step : State → Event → Answered
step s e = concluded s (taken_unless_full s e.draw) (judged s e.kind)

-- the outcome of an event, which a user sees
abbrev pub outcome_of : Answered → Outcome
outcome_of a = record { answer = a.answer; emissions = a.emissions; copies = a.copies }

-- events one after the other: their outcomes, and the state at the end
unfoldable pub ran : State → List Event → List Outcome × State
ran s [] = ([], s)
ran s (e ∷ es) =
    let first : Answered = step s e in
    let later : List Outcome × State = ran first.state es in
    (outcome_of first ∷ later.0, later.1)

-- the outcomes of a list of events
unfoldable pub run : State → List Event → List Outcome
run s events = (ran s events).0

-- the state after a list of events
unfoldable pub state_after : State → List Event → State
state_after s events = (ran s events).1
