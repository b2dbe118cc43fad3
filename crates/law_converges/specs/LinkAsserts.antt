-- Two routers of a link that are both the winner of an assert: the one with the better metric answers the other's Assert,
-- and by its answer the other is the winner no longer (RFC 7761, 4.6.1 and 4.6.2).
use Rattle.std.{specs.{List.Contains, Option.option_map_or, Prelude.{Bool, List, None, Some, false, if◌then◌else◌, length, not, slice_get, true, ℕ, ◌&&◌, ◌+◌, ◌<◌, ◌==◌, ◌||◌, ◌≡◌, ◌⊎◌, ◌^◌}}}
use Rattle.pim_ip.{specs.{declared.addr.Addr.Addr, Addr.addr, Ipv4.{all_pim_routers, first_multicast, is_link_local, is_multicast, is_unicast, pim_packet_text}}}
use Rattle.pim_types.{specs.{Keys.{source_key, star_key}, declared.{config.IfaceId.IfaceId, event.Event.Event, fact.{AssertMetric.AssertMetric, AssertRole.AssertRole, AssertRow.AssertRow, Key.Key}}}}
use Rattle.pim_wire.{specs.{Asserts.assert_text, declared.assert.Assert.Assert as AssertMessage}}
use Rattle.pim_model.{specs.{declared.accepted.Accepted.Accepted, Asserts.{asserted_metric, is_acceptable, is_from_winner, is_inferior, is_of_tree, is_tracking_at, theirs_of}, Cause.done_as, Full.is_full, Network.{Deliver, Move, Network, Station, event_of, frame_at, moved, network_ran, station_at}, Sets.{is_better, is_winner}, State.{State, my_address}, Step.step, Tables.row_at, Writing.on_link}}
use Rattle.law_streams.{specs.{Adjacent.Adjacent, Copies.happens, Joins.Hears}}

-- ---- at one router

-- the machine of which an Assert on an interface is an event: that of (S,G), or, with source 0.0.0.0, that of (*,G)
abbrev pub key_about : ℕ → AssertMessage → Key
key_about i a = if a.source.bits == 0 then star_key i a.group.bits else source_key i a.group.bits a.source.bits

-- an Assert of (*,G) has RPTbit set
abbrev pub is_about : AssertMessage → Bool
is_about a = a.rpt || not (a.source.bits == 0)

-- A winner gives way to a better metric; a loser to a better one, and to an acceptable one of its winner, of (S,G) with
-- RPTbit clear.
abbrev pub gives_way : State → Key → AssertRow → AssertMetric → Bool
gives_way s k r theirs =
    is_better theirs r.winner
    || (not (is_winner (Some r)) && (is_from_winner r theirs && (is_acceptable s k theirs && is_of_tree k theirs)))

-- A metric by which a machine loses, or has lost for longer. In NoInfo it is acceptable, which is better than what the router would assert
-- itself, of (S,G) has RPTbit clear, and AssertTrackingDesired holds. A winner gives way to what is better than what it won with.
abbrev pub loses_to : State → Key → AssertMetric → Bool
loses_to s k theirs =
    option_map_or (λ (r : AssertRow). gives_way s k r theirs) (row_at s.asserts k)
    (is_acceptable s k theirs && (is_of_tree k theirs && is_tracking_at s k))

-- the row of who lost to a metric, until a timestamp
abbrev pub lost_to : AssertMetric → ℕ → AssertRow
lost_to theirs end = record { role = AssertRole.Loser; winner = theirs; end = end }

-- the router lost the assert to a metric, until a timestamp, or has no assert
abbrev pub HasLost : Key → AssertMetric → ℕ → State → Type 0
HasLost k theirs end s = (row_at s.asserts k ≡ None) ⊎ (row_at s.asserts k ≡ Some (lost_to theirs end))

-- The router has a row in a machine, and takes an Assert that is an event of it.
pub record IsAsserted (k : Key) (r : AssertRow) (i : IfaceId) (from : Addr) (a : AssertMessage) (s : State) (e : Event) : Type 0 where
  pub taken : done_as (happens s e) ≡ Some (Accepted.Assert i from a)
  pub about : is_about a ≡ true
  pub key : key_about i.number a ≡ k
  pub row : row_at s.asserts k ≡ Some r

-- Who gives way to an Assert has lost to it for 180 s, or has no assert any more, where that must go.
abbrev pub GivesWayToAssert : Type 0
GivesWayToAssert = (k : Key) (r : AssertRow) (i : IfaceId) (from : Addr) (a : AssertMessage) (s : State) (e : Event)
    → IsAsserted k r i from a s e → gives_way s k r (theirs_of a from.bits) ≡ true
    → HasLost k (theirs_of a from.bits) (s.present + 180000) (step s e).state

-- an Assert with a metric, from an address to all routers of the link
abbrev pub assert_packet : (from g src : ℕ) → AssertMetric → List ℕ
assert_packet from g src m = pim_packet_text 1 from all_pim_routers (assert_text g src m.rpt m.preference m.metric)

-- A winner answers an inferior Assert, which is no better than what it won with, by its own.
abbrev pub WinnerAnswersAssert : Type 0
WinnerAnswersAssert = (k : Key) (r : AssertRow) (i : IfaceId) (from : Addr) (a : AssertMessage) (s : State) (e : Event)
    → IsAsserted k r i from a s e → is_winner (Some r) ≡ true → is_better (theirs_of a from.bits) r.winner ≡ false
    → is_inferior s k (theirs_of a from.bits) ≡ true
    → Contains (step s e).emissions
    (on_link i.number (assert_packet (my_address s i.number) a.group.bits a.source.bits (asserted_metric s k)))

-- ---- two routers of a link

-- an Assert can be written and read: its addresses are those of a host, of a group that isn't link-local, and of a source or
-- 0.0.0.0, and its metric fits
pub record IsSayable (from g src : ℕ) (m : AssertMetric) : Type 0 where
  pub from_host : is_unicast from ≡ true
  pub of_group : is_multicast g ≡ true
  pub goes_far : is_link_local g ≡ false
  pub of_source : src < first_multicast
  pub preference_fits : m.preference < 2 ^ 31
  pub metric_fits : m.metric < 2 ^ 32

-- the Assert as it is read
abbrev pub said : (g src : ℕ) → AssertMetric → AssertMessage
said g src m = record { group = addr g; mask_length = 32; source = addr src; rpt = m.rpt; preference = m.preference; metric = m.metric }

-- the move brings the first one, a winner, an inferior Assert
pub record AnswersBy (g src : ℕ) (metric : AssertMetric) (c : Adjacent) (n : Network) (m : Move) : Type 0 where
  pub station : Station
  pub there : station_at n c.lower ≡ Some station
  pub event : Event
  pub is : event_of n m ≡ Some (c.lower, event)
  pub row : AssertRow
  pub from : Addr
  pub message : AssertMessage
  pub of_group : message.group.bits ≡ g
  pub of_source : message.source.bits ≡ src
  pub asserted : IsAsserted (key_about c.iface message) row (record { number = c.iface }) from message station.state event
  pub wins : is_winner (Some row) ≡ true
  pub no_better : is_better (theirs_of message from.bits) row.winner ≡ false
  pub inferior : is_inferior station.state (key_about c.iface message) (theirs_of message from.bits) ≡ true
  pub sent : asserted_metric station.state (key_about c.iface message) ≡ metric
  pub own : my_address station.state c.iface ≡ c.address
  pub linked : slice_get station.links c.iface ≡ Some c.link

-- the other one hears the first one, has room, and gives way to its Assert, or loses to it without an assert of its own
pub record CanGiveWay (g src : ℕ) (metric : AssertMetric) (c : Adjacent) (st : Station) : Type 0 where
  pub hears : Hears st.state c.down c.address
  pub linked : slice_get st.links c.down ≡ Some c.link
  pub room : is_full st.state (Accepted.Assert (record { number = c.down }) (addr c.address) (said g src metric)) ≡ false
  pub gives : loses_to st.state (key_about c.down (said g src metric)) (theirs_of (said g src metric) c.address) ≡ true

-- the other one has lost the assert to the first one
pub record LosesTo (g src : ℕ) (metric : AssertMetric) (c : Adjacent) (st : Station) (n : Network) : Type 0 where
  pub state : State
  pub there : station_at n c.upper ≡ Some (record st { state = state })
  pub lost : HasLost (key_about c.down (said g src metric)) (theirs_of (said g src metric) c.address) ((st.state).present + 180000) state

-- The first one's Assert is on the link after the move, in a frame that wasn't there before. Whatever moves come next, its
-- delivery to the other one leaves that without what it won.
pub record IsToldOff (g src : ℕ) (metric : AssertMetric) (c : Adjacent) (n n' : Network) : Type 0 where
  pub number : ℕ
  pub later : length n.frames < number
  pub framed : frame_at n' number ≡ Some (record { link = Some c.link; bytes = assert_packet c.address g src metric })
  pub tells : (waits : List Move) (draw : ℕ) (st : Station) → station_at (network_ran n' waits).1 c.upper ≡ Some st
      → CanGiveWay g src metric c st
      → LosesTo g src metric c st (moved (network_ran n' waits).1 (Deliver c.upper c.down number draw)).1

-- Of two winners the one that hears an inferior Assert answers it, and by its answer the other, to whose metric its own is
-- better, is the winner no longer.
abbrev pub OneWinnerIsLeft : Type 0
OneWinnerIsLeft = (g src : ℕ) (metric : AssertMetric) (c : Adjacent) (n : Network) (m : Move) → IsSayable c.address g src metric
    → is_about (said g src metric) ≡ true → AnswersBy g src metric c n m → IsToldOff g src metric c n (moved n m).1
