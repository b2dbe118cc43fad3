-- Which keys a change touches.
use Rattle.std.{specs.{Prelude.{Bool, List, false, true, ◌≡◌, [], ℕ, ◌∷◌, ◌++◌, Some, ◌==◌, if◌then◌else◌, ◌||◌}, List.Sorted.IsStrictlySortedBy}}
use Rattle.pim_model.{specs.{Unicast.is_rpf_interface_rp, Sets.spt_bit, Asserts.{assert_due, assert_received}, Firing.fired, Forwarding.{forwarded, register_received}, Registers.register_stop_seen, Tables.{keys_in, row_at}, Downstream.{joined_keys, pruned_keys, to_me}, Full.{asserted_keys, reported_groups}, Querier.{group_record_due, report_seen, source_record_due, query_seen}, Hellos.{hello_holdtime_of, hello_received, is_generation_changed}, Seen.seen, State.State}}
use Rattle.pim_wire.{specs.{Values.JoinPrune, declared.{assert.Assert.Assert as AssertMessage, hello.Hello.Hello as HelloValue}}}
use Rattle.pim_types.{specs.{declared.{fact.{AssertRow.AssertRow, Key.Key, NeighbourRow.NeighbourRow}, timer.TimerKind.TimerKind}, Keys.{group_in, key_cmp, neighbour_key, source_key, star_key}}}
use Rattle.pim_ip.{specs.Ipv4.Packet}
use Rattle.igmp_wire.{specs.Values.{Query as QueryValue, Record}}
use Rattle.law_events.{specs.Locality.{AgreesBut, touching}}

-- A Join/Prune to the router touches the keys that it names.
abbrev pub JoinPruneTouches : Type 0
JoinPruneTouches = (s : State) (i : ℕ) (m : JoinPrune)
    → AgreesBut (touching (joined_keys s i m ++ pruned_keys i m)) s (to_me s i m)

-- An Assert touches the keys that it names.
abbrev pub AssertTouches : Type 0
AssertTouches = (s : State) (i from : ℕ) (a : AssertMessage)
    → AgreesBut (touching (asserted_keys i a)) s (assert_received s i from a).0

-- The expiry of an assert timer touches the assert's key.
abbrev pub AssertDueTouches : Type 0
AssertDueTouches = (s : State) (k : Key) (r : AssertRow) → AgreesBut (touching (k ∷ [])) s (assert_due s k r).0

-- What the expiry of a timer touches: its key; for a timer of a record its group; for an upstream timer nothing.
abbrev pub touched_by : TimerKind → Key → List Key
touched_by TimerKind.PrunePending k = k ∷ []
touched_by TimerKind.DownstreamExpiry k = k ∷ []
touched_by TimerKind.GroupRecord k = star_key 0 (group_in k) ∷ []
touched_by TimerKind.SourceRecord k = star_key 0 (group_in k) ∷ []
touched_by TimerKind.Assert k = k ∷ []
touched_by TimerKind.Keepalive k = k ∷ []
touched_by TimerKind.Register k = k ∷ []
touched_by _ k = []

-- The timer isn't a neighbour's, whose expiry concerns all groups.
abbrev pub isnt_neighbour : TimerKind → Bool
isnt_neighbour TimerKind.Neighbour = false
isnt_neighbour _ = true

abbrev pub TimerTouches : Type 0
TimerTouches = (s : State) (k : Key) (kind : TimerKind) → isnt_neighbour kind ≡ true
    → AgreesBut (touching (touched_by kind k)) s (fired s kind k).0

-- a packet touches its source, and its group where it may make an assert of (*,G): where it came on another interface
-- than that to the RP, and SPTbit isn't set
abbrev pub packet_keys : State → ℕ → ℕ → ℕ → List Key
packet_keys s g src iif =
    source_key 0 g src ∷ (if is_rpf_interface_rp s g iif || spt_bit s g src then [] else star_key 0 g ∷ [])

abbrev pub PacketTouches : Type 0
PacketTouches = (s : State) (g src iif : ℕ)
    → AgreesBut (touching (packet_keys s g src iif)) s (forwarded s g src iif).state

-- A report touches the groups that it names.
abbrev pub ReportTouches : Type 0
ReportTouches = (s : State) (i : ℕ) (records : List Record)
    → AgreesBut (touching (reported_groups i records)) s (report_seen s i records).0

-- The expiry of a group timer or a source timer touches the group.
abbrev pub GroupEndTouches : Type 0
GroupEndTouches = (i g : ℕ) (s : State) → AgreesBut (touching (star_key 0 g ∷ [])) s (group_record_due s i g)

abbrev pub SourceEndTouches : Type 0
SourceEndTouches = (i g : ℕ) (s : State) (src : ℕ)
    → AgreesBut (touching (star_key 0 g ∷ [])) s (source_record_due s i g src)

-- a Join/Prune to another router touches nothing
abbrev pub SeenTouchesNone : Type 0
SeenTouchesNone = (s : State) (w i : ℕ) (m : JoinPrune) → AgreesBut (touching []) s (seen s w i m)

-- a Hello of a neighbour with the priority and the generation that it had touches nothing
abbrev pub HelloAgainTouchesNone : Type 0
HelloAgainTouchesNone = (s : State) (i address : ℕ) (h : HelloValue) (w : ℕ) (old : NeighbourRow)
    → IsStrictlySortedBy key_cmp (keys_in s.neighbours) → row_at s.neighbours (neighbour_key i address) ≡ Some old
    → h.priority ≡ old.priority → (hello_holdtime_of h == 0) ≡ false → is_generation_changed s i address h ≡ false
    → AgreesBut (touching []) s (hello_received s i address h w)

-- A query lowers timers, and touches nothing.
abbrev pub QueryTouchesNone : Type 0
QueryTouchesNone = (s : State) (i from : ℕ) (q : QueryValue) → AgreesBut (touching []) s (query_seen s i from q)

-- A Register touches its source. A Register-Stop touches its source, or its group where it names no source.
abbrev pub RegisterStopTouches : Type 0
RegisterStopTouches = (s : State) (w g src : ℕ)
    → AgreesBut (touching (source_key 0 g src ∷ [])) s (register_stop_seen s w g src)

abbrev pub RegisterTouches : Type 0
RegisterTouches = (s : State) (p : Packet) (g src : ℕ) (is_null : Bool)
    → AgreesBut (touching (source_key 0 g src ∷ [])) s (register_received s p g src is_null).state
