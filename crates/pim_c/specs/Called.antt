-- What a call does to a handle and answers, by what the handle had: nothing, a router that has failed, or one that
-- works.
use Rattle.std.{specs.{Option.option_map_or, Prelude.{[], Bool, Err, IfSome, List, None, Ok, Option, Result, Some, drop, false, filter, length, min, nat_le, nat_lt, true, unwrap_or, ℕ, ◌+◌, ◌∷◌, ◌≡◌, ◌⊎◌}}}
use Rattle.pim_ip.{specs.{Refusal.refusal_number, declared.refusal.Refusal.Refusal}}
use Rattle.pim_ifset.{specs.Members.mask_of}
use Rattle.pim_model.{specs.{Cache.{Answers, cached}, Cause.is_on_link, Judging.last_moment, Limits.config_test, Sets.{Set, is_kept_alive}, State.opening, Step.step, Unicast.rpf_interface_rp}}
use Rattle.pim_rows.{specs.{Printed.rows, declared.table.{Row.Row, Table.Table}}}
use Rattle.law_plane.{specs.{Keeping.keep, Offered.{Offered, offered}}}
use Rattle.law_states.{specs.History.Given}
use Rattle.pim_event.{specs.Replacing.may_differ}
use Rattle.pim_worlds.{specs.Resuming.IsResumable}
use Rattle.igmp_older_saved.{specs.{Reading.{held_reading, held_restore_test}, Refused.held_refusal_number, Text.{Held, held_text, FitsHeld}, declared.refusal.HeldRefusal.HeldRefusal}}
use Rattle.pim_router.{specs.{Asked.LeadsOn, Standing.{Standing, begun, nothing_shown, standing, with_state}, Stepped.TellsEvent}}
use Rattle.pim_guard.{specs.Guard.is_stopped}
use Rattle.pim_anycast.{specs.{Sets.are_rp_sets, declared.set.RpSet.RpSet}}
use Rattle.pim_session.{specs.{Front.{Front, hosts_set, interface_test, older_rows, version_set}, Leaving.{GoesOnFrom, LeftIsAsked}, Saved.{front_resumed, saved_parts}, Session.ShownSession, Shared.{event_in, front_in, is_sure_in, leaving, left_in, seen_in, seen_leaving}, Untaken.{IsStill, SettingsStay, has_untaken}}}
use Rattle.igmp_older.{specs.declared.{mode.OlderRow.OlderRow, setting.{OlderHosts.OlderHosts, QueryVersion.QueryVersion}}}
use Rattle.pim_types.{specs.declared.{config.Config.Config, event.Event.Event, fact.Key.Key, outcome.Emission.Emission}}
use Rattle.pim_c.{specs.{Returned.{answer_number, bytes_in, kept_number, no_interface_number, set_number, c_packet, written_into}, Written.{NoBytesWritten, Untouched, Unwritten, ValueWritten}, declared.returned.{Forwarding.Forwarding, Interfaces.Interfaces, Packet.Packet, PlaneRow.PlaneRow}}}

-- What a session shows of a router that goes on from a state: the guard stands before it, and what was saved of older
-- hosts, if anything was; it is in no set of RPs, and nothing is kept.
abbrev pub restored_shown : Held → ShownSession
restored_shown h = record {
  router = begun h.state;
  front = front_resumed h.state h.hosts;
  sets = [];
  guard = true;
  sent = [];
  rows = [];
  older_rows = [];
}

-- What a session shows of a new router.
abbrev pub new_shown : Config → ShownSession
new_shown config = restored_shown (record { hosts = []; state = opening config })

-- What a session shows after an allocation failed.
abbrev pub lost : ShownSession → ShownSession
lost s = record s { router = nothing_shown; front = None }

-- What a session shows after an event that had no fault, whether it was done, ignored or refused: by the event as the
-- router was given it. What led to the router's state goes on with that event.
abbrev pub Went : ShownSession → Standing → Event → ShownSession → Type 0
Went s r e left = (left.router.standing ≡ Some (standing (step r.state e)))
    × IfSome left.router.standing (λ after. LeadsOn r.state (Given.Happening e) after.state)
    × TellsEvent r.state e left.router × SettingsStay s left × (left.rows ≡ s.rows) × (left.older_rows ≡ s.older_rows)

-- The event of a packet that a data plane saw goes to the router as it came. What leaves is what the router sends, and
-- Null-Registers to the others of a set. Each copy that leaves has its cause in what led to the router's state.
abbrev pub Taken : ShownSession → Standing → Event → (group source : ℕ) → ShownSession → Type 0
Taken s r e group source left = Went s r e left × (left.front ≡ s.front) × (left.sent ≡ seen_leaving s r.state e group source)
    × IfSome left.router.standing (λ after.
    LeftIsAsked (seen_in s r.state e group source) r.state e (step r.state e).answer left.sent after.copies)

-- An event comes to the router through what stands before it, for RPs that share an address and for older hosts. Each copy
-- that leaves has its cause in what led to the router's state.
abbrev pub TakenBehind : ShownSession → Standing → Event → ShownSession → Type 0
TakenBehind s r e left = Went s r (event_in s r.state e) left × (left.front ≡ front_in s r.state e)
    × (left.sent ≡ leaving s r.state e)
    × IfSome left.router.standing (λ after. LeftIsAsked (left_in s r.state e) r.state (event_in s r.state e)
    (step r.state (event_in s r.state e)).answer left.sent after.copies)

-- What a call does to a handle and answers: without a router it answers 50; else it does what is said of the session.
abbrev pub AtSession : (ShownSession → ℕ → ShownSession → Type 0) → Option ShownSession → ℕ → Option ShownSession → Type 0
AtSession does None answer left = Untouched 50 None answer left
AtSession does (Some s) answer (Some left) = does s answer left
AtSession does (Some s) answer None = ⊥

-- While packets of the event before are untaken an event is refused, and nothing changes.
abbrev pub UnlessUntaken : Bool → ShownSession → ℕ → ShownSession → Type 0 → Type 0
UnlessUntaken true s answer left taken = Untouched 55 s answer left
UnlessUntaken false s answer left taken = taken

-- What a session shows after an event that its guard stopped: its router is in the same state and lists nothing as
-- changed, nothing is to be sent, and all else is as it was.
abbrev pub Stayed : ShownSession → ShownSession → Type 0
Stayed s left = IsStill s.router left.router × (left.front ≡ s.front) × SettingsStay s left × (left.sent ≡ s.sent)
    × (left.rows ≡ s.rows) × (left.older_rows ≡ s.older_rows)

-- An event that the guard stops doesn't come to the router.
abbrev pub UnlessGuarded : Bool → ShownSession → ℕ → ShownSession → Type 0 → Type 0
UnlessGuarded true s answer left taken = (answer ≡ 109) × Stayed s left
UnlessGuarded false s answer left taken = taken

abbrev pub SteppedFrom : ShownSession → Option Standing → Event → ℕ → ShownSession → Type 0
SteppedFrom s None e answer left = (answer ≡ 41) × (left ≡ lost s)
SteppedFrom s (Some r) e answer left = UnlessUntaken (has_untaken s) s answer left (
    UnlessGuarded (is_stopped s.guard e.kind) s answer left (
    ((answer ≡ answer_number (step r.state (event_in s r.state e)).answer) × TakenBehind s r e left)
    ⊎ ((answer ≡ 43) × (left ≡ lost s) × (is_sure_in s r.state e ≡ false))))

-- The event was refused for untaken packets, or the guard stopped it, or the router took it and the answer is the
-- router's, or an allocation failed.
abbrev pub Stepped : Option ShownSession → Event → ℕ → Option ShownSession → Type 0
Stepped old e answer left = AtSession (λ s. SteppedFrom s s.router.standing e) old answer left

abbrev pub refused_number : Option Standing → Bool → ℕ
refused_number None has_untaken = 41
refused_number (Some r) true = 55
refused_number (Some r) false = 40

-- An allocation failed for an event that is to be copied, and nothing changed.
abbrev pub Refused : Option ShownSession → ℕ → Option ShownSession → Type 0
Refused None answer left = Untouched 50 None answer left
Refused (Some s) answer left = (answer ≡ refused_number s.router.standing (has_untaken s)) × (left ≡ Some s)

-- The event was copied or an allocation failed for that; if it was copied, the router took it, or an allocation failed.
abbrev pub Copied : Option ShownSession → Event → ℕ → Option ShownSession → Type 0
Copied old e answer left = Stepped old e answer left ⊎ Refused old answer left

-- After a seen packet a session without a router answers that it is lost. Else the event that stands for the packet is
-- refused for untaken packets, or the router took it, or an allocation failed and the router is lost.
abbrev pub SeenFrom : ShownSession → Option Standing → Event → (group source : ℕ) → ℕ → ShownSession → Type 0
SeenFrom s None e group source answer left = (answer ≡ 41) × (left ≡ lost s)
SeenFrom s (Some r) e group source answer left = UnlessUntaken (has_untaken s) s answer left (
    ((answer ≡ answer_number (step r.state e).answer) × Taken s r e group source left) ⊎ ((answer ≡ 43) × (left ≡ lost s)))

-- The event that stands for a packet which a data plane saw was refused for untaken packets, or the router took it, or an
-- allocation failed, whatever the event is.
abbrev pub Seen : Option ShownSession → Event → (group source : ℕ) → ℕ → Option ShownSession → Type 0
Seen old e group source answer left = AtSession (λ s. SeenFrom s s.router.standing e group source) old answer left

abbrev pub SourceKeptFrom : ShownSession → Option Standing → ℕ → ℕ → ℕ → ℕ → ShownSession → Type 0
SourceKeptFrom s None source group moment answer left = (answer ≡ 41) × (left ≡ lost s)
SourceKeptFrom s (Some r) source group moment answer left =
    ((answer ≡ kept_number (is_kept_alive r.state group source))
    × (left ≡ record s { router = with_state s.router r (keep r.state group source (min moment last_moment)) })
    × IfSome left.router.standing (λ after. LeadsOn r.state (Given.Kept group source (min moment last_moment)) after.state))
    ⊎ ((answer ≡ 43) × (left ≡ lost s))

-- The source's keepalive timer was moved if it runs, with which what led to the router's state goes on, or an allocation failed.
abbrev pub SourceKept : Option ShownSession → ℕ → ℕ → ℕ → ℕ → Option ShownSession → Type 0
SourceKept old source group moment answer left = AtSession (λ s. SourceKeptFrom s s.router.standing source group moment) old answer left

-- A timestamp past the latest is refused, and nothing changes; else the source's keepalive timer is moved.
abbrev pub KeepAnswered : Bool → Option ShownSession → ℕ → ℕ → ℕ → ℕ → Option ShownSession → Type 0
KeepAnswered true old source group moment answer left = Untouched 21 old answer left
KeepAnswered false old source group moment answer left = SourceKept old source group moment answer left

abbrev pub ReadFrom : ShownSession → Option Standing → Table → ℕ → ShownSession → Type 0
ReadFrom s None table answer left = Untouched 41 s answer left
ReadFrom s (Some r) table answer left =
    ((answer ≡ 0) × (left ≡ record s { rows = rows r.state table }))
    ⊎ Untouched 40 s answer left

-- The rows of the table were read, or an allocation failed.
abbrev pub Read : Option ShownSession → Table → ℕ → Option ShownSession → Type 0
Read old table answer left = AtSession (λ s. ReadFrom s s.router.standing table) old answer left

-- A letter of no table is refused, and nothing is read; else the rows of its table are read.
abbrev pub ReadBy : Option ShownSession → Option Table → ℕ → Option ShownSession → Type 0
ReadBy old None answer left = Untouched 51 old answer left
ReadBy old (Some table) answer left = Read old table answer left

abbrev pub HostsSetFrom : ShownSession → Option Standing → ℕ → OlderHosts → ℕ → ShownSession → Type 0
HostsSetFrom s None i hosts answer left = Untouched 41 s answer left
HostsSetFrom s (Some r) i hosts answer left =
    ((answer ≡ set_number (interface_test r.state i)) × (left ≡ record s { front = hosts_set r.state s.front i hosts }))
    ⊎ Untouched 40 s answer left

-- The hosts that an interface hears were set, or the interface was refused, or an allocation failed.
abbrev pub HostsSet : Option ShownSession → ℕ → OlderHosts → ℕ → Option ShownSession → Type 0
HostsSet old i hosts answer left = AtSession (λ s. HostsSetFrom s s.router.standing i hosts) old answer left

-- A number that names no hosts is refused, and nothing changes; else the hosts are set.
abbrev pub HostsSetBy : Option ShownSession → ℕ → Option OlderHosts → ℕ → Option ShownSession → Type 0
HostsSetBy old i None answer left = Untouched 54 old answer left
HostsSetBy old i (Some hosts) answer left = HostsSet old i hosts answer left

abbrev pub VersionSetFrom : ShownSession → Option Standing → ℕ → QueryVersion → ℕ → ShownSession → Type 0
VersionSetFrom s None i version answer left = Untouched 41 s answer left
VersionSetFrom s (Some r) i version answer left =
    ((answer ≡ set_number (interface_test r.state i)) × (left ≡ record s { front = version_set r.state s.front i version }))
    ⊎ Untouched 40 s answer left

-- The version in which an interface queries was set, or the interface was refused, or an allocation failed.
abbrev pub VersionSet : Option ShownSession → ℕ → QueryVersion → ℕ → Option ShownSession → Type 0
VersionSet old i version answer left = AtSession (λ s. VersionSetFrom s s.router.standing i version) old answer left

-- A number that names no version is refused, and nothing changes; else the version is set.
abbrev pub VersionSetBy : Option ShownSession → ℕ → Option QueryVersion → ℕ → Option ShownSession → Type 0
VersionSetBy old i None answer left = Untouched 54 old answer left
VersionSetBy old i (Some version) answer left = VersionSet old i version answer left

abbrev pub GuardSetFrom : ShownSession → Option Standing → Bool → ℕ → ShownSession → Type 0
GuardSetFrom s None is_on answer left = Untouched 41 s answer left
GuardSetFrom s (Some r) is_on answer left = (answer ≡ 0) × (left ≡ record s { guard = is_on })

-- The guard was set on or off.
abbrev pub GuardSet : Option ShownSession → Bool → ℕ → Option ShownSession → Type 0
GuardSet old is_on answer left = AtSession (λ s. GuardSetFrom s s.router.standing is_on) old answer left

-- A number that says neither is refused, and nothing changes; else the guard is set.
abbrev pub GuardSetBy : Option ShownSession → Option Bool → ℕ → Option ShownSession → Type 0
GuardSetBy old None answer left = Untouched 54 old answer left
GuardSetBy old (Some is_on) answer left = GuardSet old is_on answer left

abbrev pub RpSetsTaken : Bool → ShownSession → List RpSet → ℕ → ShownSession → Type 0
RpSetsTaken true s sets answer left = (answer ≡ 0) × (left ≡ record s { sets = sets })
RpSetsTaken false s sets answer left = Untouched 74 s answer left

abbrev pub RpSetsSetFrom : ShownSession → Option Standing → List RpSet → ℕ → ShownSession → Type 0
RpSetsSetFrom s None sets answer left = Untouched 41 s answer left
RpSetsSetFrom s (Some r) sets answer left = RpSetsTaken (are_rp_sets r.state.configured sets) s sets answer left

-- The sets of RPs that share an address were set, if the router can have them; or they were refused, or an allocation
-- failed for their copy, and nothing changed.
abbrev pub RpSetsSet : Option ShownSession → List RpSet → ℕ → Option ShownSession → Type 0
RpSetsSet old sets answer left =
    AtSession (λ s. RpSetsSetFrom s s.router.standing sets) old answer left ⊎ Untouched 40 old answer left

abbrev pub OlderReadFrom : ShownSession → Option Standing → ℕ → ShownSession → Type 0
OlderReadFrom s None answer left = Untouched 41 s answer left
OlderReadFrom s (Some r) answer left =
    ((answer ≡ 0) × (left ≡ record s { older_rows = older_rows s.front r.state }))
    ⊎ Untouched 40 s answer left

-- The groups in an older mode were read, or an allocation failed.
abbrev pub OlderRead : Option ShownSession → ℕ → Option ShownSession → Type 0
OlderRead old answer left = AtSession (λ s. OlderReadFrom s s.router.standing) old answer left

-- What is to be sent: the packets that are untaken.
abbrev pub packets_in : Option ShownSession → List Emission
packets_in None = []
packets_in (Some s) = s.sent

abbrev pub rows_in : Option ShownSession → List Row
rows_in None = []
rows_in (Some s) = s.rows

abbrev pub older_rows_in : Option ShownSession → List OlderRow
older_rows_in None = []
older_rows_in (Some s) = s.older_rows

abbrev pub standing_in : Option ShownSession → Option Standing
standing_in None = None
standing_in (Some s) = s.router.standing

abbrev pub probes_in : Option ShownSession → ℕ
probes_in None = 0
probes_in (Some s) = s.router.probes

abbrev pub touched_in : Option ShownSession → ℕ
touched_in None = 0
touched_in (Some s) = s.router.touched

-- The sources that the last event listed as changed.
abbrev pub changed_in : Option ShownSession → List Key
changed_in None = []
changed_in (Some s) = s.router.changed

-- What is offered of the source may have changed in the last event.
abbrev pub may_differ_in : Option ShownSession → ℕ → ℕ → Bool
may_differ_in None source group = true
may_differ_in (Some s) source group =
    option_map_or (λ (r : Standing). may_differ s.router.disturbed r.state group source) s.router.standing true

-- The first packet, before others, is one of the given number of last packets on links.
abbrev pub is_copy : ℕ → List Emission → Bool
is_copy copies others = nat_lt (length (filter is_on_link others)) copies

abbrev pub copies_in : Option Standing → ℕ
copies_in standing = option_map_or (λ (r : Standing). r.copies) standing 0

abbrev pub NothingWritten : Bool → Packet → Packet → List ℕ → List ℕ → Type 0
NothingWritten is_taken packet written room filled = (is_taken ≡ false) × (written ≡ packet) × (filled ≡ room)

-- A packet is written out with its bytes, if there is room for them.
abbrev pub FirstWritten : Bool → Emission → Bool → Bool → Packet → Packet → List ℕ → List ℕ → Type 0
FirstWritten false first is_copied is_taken packet written room filled = NothingWritten is_taken packet written room filled
FirstWritten true first is_copied is_taken packet written room filled =
    (is_taken ≡ true) × (written ≡ c_packet first is_copied) × (filled ≡ written_into room (bytes_in first))

-- The first packet is written out, if there is one and room for its bytes.
abbrev pub PacketWritten : ℕ → List Emission → Bool → Packet → Packet → List ℕ → List ℕ → Type 0
PacketWritten copies [] is_taken packet written room filled = NothingWritten is_taken packet written room filled
PacketWritten copies (first ∷ others) is_taken packet written room filled =
    FirstWritten (nat_le (length (bytes_in first)) (length room)) first (is_copy copies others) is_taken packet written room filled

-- what is untaken after a packet was taken, or after none was
abbrev pub sent_left : Bool → List Emission → List Emission
sent_left true sent = drop 1 sent
sent_left false sent = sent

-- The first of the packets that are to be sent was written out and is no more to be sent; or there is none, or no room
-- for it, and nothing changed.
abbrev pub PacketTaken : Option ShownSession → Bool → Packet → Packet → List ℕ → List ℕ → Option ShownSession → Type 0
PacketTaken None is_taken packet written room filled left =
    (is_taken ≡ false) × (written ≡ packet) × (filled ≡ room) × (left ≡ None)
PacketTaken (Some s) is_taken packet written room filled left =
    PacketWritten (copies_in s.router.standing) s.sent is_taken packet written room filled
    × (left ≡ Some (record s { sent = sent_left is_taken s.sent }))

-- no packet is to be sent, and nothing else changed
abbrev pub cleared : ShownSession → ShownSession
cleared s = record s { sent = [] }

-- the interfaces that pass a test, as bits
abbrev pub interface_bits : Set → Interfaces
interface_bits p = record { low = mask_of p 64; high = mask_of (λ q. p (64 + q)) 56 }

-- RPF_interface(RP(G)) and the answers of a source, as C reads them.
abbrev pub forwarding_of : Option ℕ → Answers → Forwarding
forwarding_of shared_rpf a = record {
  rpf = unwrap_or a.rpf no_interface_number;
  shared_rpf = unwrap_or shared_rpf no_interface_number;
  has_spt_bit = a.spt;
  has_tunnel = a.has_tunnel;
  immediate = interface_bits a.immediate;
  inherited = interface_bits a.inherited;
  shared_tree = interface_bits a.inherited_rpt;
}

-- The row of a source with a fact is written out.
abbrev pub CachedWritten : Option Standing → ℕ → ℕ → Bool → Forwarding → Forwarding → Type 0
CachedWritten None source group is_there row written = Unwritten is_there row written
CachedWritten (Some r) source group is_there row written =
    ValueWritten (forwarding_of (rpf_interface_rp r.state group)) (cached r.state group source) is_there row written

-- What is offered of a source, as C reads it.
abbrev pub plane_row_of : Offered → PlaneRow
plane_row_of o = record {
  is_known = o.is_known;
  incoming = unwrap_or o.row.incoming no_interface_number;
  outgoing = interface_bits o.row.outgoing;
  alive = interface_bits o.row.alive;
  to_core = interface_bits o.row.to_core;
}

-- What a data plane may do with the packets of a source is written out.
abbrev pub OffloadWritten : Option Standing → ℕ → ℕ → Bool → PlaneRow → PlaneRow → Type 0
OffloadWritten None source group is_there row written = Unwritten is_there row written
OffloadWritten (Some r) source group is_there row written =
    ValueWritten plane_row_of (offered r.state group source) is_there row written

abbrev pub MadeBy : Result (Unit {0}) Refusal → Option ShownSession → Config → ℕ → Option ShownSession → Type 0
MadeBy (Ok _) old config answer left = (answer ≡ 0) × (left ≡ Some (new_shown config))
MadeBy (Err refusal) old config answer left = Untouched (refusal_number refusal) old answer left

-- A router was made of the configuration, or the configuration was refused, or an allocation failed.
abbrev pub Made : Option ShownSession → Config → ℕ → Option ShownSession → Type 0
Made old config answer left = MadeBy (config_test config) old config answer left ⊎ Untouched 40 old answer left

abbrev pub RestoredBy : Result (Unit {0}) HeldRefusal → List ℕ → Option ShownSession → ℕ → Option ShownSession → Type 0
RestoredBy (Ok _) bytes old answer left = (answer ≡ 0) × ((h : Held) → held_reading bytes ≡ Ok h → left ≡ Some (restored_shown h))
    × IfSome (standing_in left) (λ r. GoesOnFrom bytes r.state)
RestoredBy (Err refusal) bytes old answer left = Untouched (held_refusal_number refusal) old answer left

-- A router was made that is in the state that the bytes say, with the rows of older hosts in them before it, to which led
-- what led to the state of which they were saved, or the bytes were refused, or an allocation failed.
abbrev pub Restored : Option ShownSession → List ℕ → ℕ → Option ShownSession → Type 0
Restored old bytes answer left = RestoredBy (held_restore_test bytes) bytes old answer left ⊎ Untouched 40 old answer left

-- The bytes were written, as many as fit, with their length.
abbrev pub Wrote : Held → ℕ → List ℕ → List ℕ → Type 0
Wrote h written room filled =
    (written ≡ length (held_text h)) × (filled ≡ written_into room (held_text h)) × FitsHeld h × IsResumable h.state

abbrev pub SavedFrom : Option Standing → Option Front → ℕ → ℕ → ℕ → List ℕ → List ℕ → Type 0
SavedFrom None front answer size written room filled = NoBytesWritten 41 answer size written room filled
SavedFrom (Some r) front answer size written room filled =
    ((answer ≡ 0) × Wrote (saved_parts r.state front) written room filled) ⊎ NoBytesWritten 40 answer size written room filled

-- The text of the router's state with its rows of older hosts was written, as much as fits, with its length, or an
-- allocation failed.
abbrev pub Saved : Option ShownSession → ℕ → ℕ → ℕ → List ℕ → List ℕ → Type 0
Saved None answer size written room filled = NoBytesWritten 50 answer size written room filled
Saved (Some s) answer size written room filled = SavedFrom s.router.standing s.front answer size written room filled
