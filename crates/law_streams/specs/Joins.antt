-- One hop: a Join that leaves, and a Join that comes.
use Rattle.std.{specs.{List.{All, AllByRecursion, Contains}, Prelude.{Bool, IsTrue, List, None, Ok, Option, Some, [], false, length, map, true, ℕ, ◌<◌, ◌==◌, ◌^◌, ◌∷◌, ◌≡◌, ◌≤◌}}}
use Rattle.pim_ip.{specs.Ipv4.{all_pim_routers, is_multicast, is_unicast, pim_packet_text}}
use Rattle.pim_types.{specs.{Keys.{iface_in, rpt_key, source_key, star_key}, declared.{config.IfaceId.IfaceId, event.{Event.Event, EventKind.EventKind}, fact.{DownstreamRow.DownstreamRow, Key.Key}, outcome.Emission.Emission, timer.TimerKind.TimerKind, path.Hop.Hop}}}
use Rattle.pim_wire.{specs.{JoinPrunes.{join_prune_holdtime, join_prune_text}, Values.JoinPrune, declared.join_prune.{Entry.Entry, EntryKind.EntryKind}}}
use Rattle.pim_model.{specs.{declared.accepted.Accepted.Accepted, Cause.done_as, Desires.{join_desired, join_desired_star, rpf_source, rpf_star}, Downstream.{holdtime_end, is_named, joined_keys, pruned_keys}, Firing.fire_once, Judging.judged, Messages.entry, Neighbours.is_neighbour, Sets.{assert_source, assert_star, immediate_olist, immediate_olist_star, is_loser, prunes}, State.{State, iface_count, is_own, is_up, my_address}, Step.step, Tables.{has_row, later_end, row_at}, Timers.{Ending, ending}, Unicast.rp_of, Upstream.{is_pruned_with_star, most_pruned, periodic_end, pruned_with_star}, Writing.on_link}}
use Rattle.law_events.{specs.Locality.IsQuiet}
use Rattle.law_streams.{specs.Copies.happens}

-- ---- a Join leaves

-- The IP packet of a Join from an address to a neighbour, with prunes.
unfoldable pub join_packet : ℕ → ℕ → ℕ → Entry → List Entry → List ℕ
join_packet from to g joined prunes = pim_packet_text 1 from all_pim_routers (join_prune_text to g (joined ∷ []) prunes)

-- A Join to a neighbour of the router, on the link to it.
unfoldable pub join_to : State → Hop → ℕ → Entry → List Entry → Emission
join_to s hop g joined prunes =
    on_link hop.iface.number (join_packet (my_address s hop.iface.number) hop.address.bits g joined prunes)

-- The emissions have a Join(*,G) that names RP(G) and prunes only sources that are to be pruned with it.
pub record SendsStar (t : State) (g rp : ℕ) (hop : Hop) (sent : List Emission) : Type 0 where
  pub pruned : List ℕ
  pub to_prune : AllByRecursion (λ src. is_pruned_with_star t g src ≡ true) pruned
  pub is_sent : Contains sent (join_to t hop g (entry EntryKind.Star rp) (map (entry EntryKind.SourceRpt) pruned))

-- The group is wanted in the second state and not in the first. RP(G) is known, and RPF'(*,G) is a neighbour.
pub record ComesToWantStar (s t : State) (g rp : ℕ) (hop : Hop) : Type 0 where
  pub unwanted : join_desired_star s g ≡ false
  pub wanted : join_desired_star t g ≡ true
  pub rp_known : rp_of t g ≡ Some rp
  pub upstream : rpf_star t g ≡ Some hop

-- An event is time that passes.
abbrev pub is_time : Accepted → Bool
is_time (Accepted.Advance moment) = true
is_time _ = false

-- Whatever event makes the group wanted, a Join(*,G) leaves to RPF'(*,G) at once.
abbrev pub StarJoinLeaves : Type 0
StarJoinLeaves = (s : State) (e : Event) (a : Accepted) (g rp : ℕ) (hop : Hop)
    → done_as (happens s e) ≡ Some a → is_time a ≡ false → ComesToWantStar s (step s e).state g rp hop
    → SendsStar (step s e).state g rp hop (step s e).emissions

-- Whatever timer's expiry makes the group wanted, a Join(*,G) leaves to RPF'(*,G) at once.
abbrev pub StarJoinLeavesInTime : Type 0
StarJoinLeavesInTime = (w : ℕ) (s : State) (e : Ending) (g rp : ℕ) (hop : Hop)
    → ComesToWantStar s (fire_once w s e).0 g rp hop → SendsStar (fire_once w s e).0 g rp hop (fire_once w s e).1

-- ---- a Join comes

-- A Join/Prune to the router that joins a tree for some time, and doesn't prune it too. The key of a tree is that of
-- (*,G), or of (S,G), on an interface.
pub record JoinsTree (s : State) (k : Key) (m : JoinPrune) : Type 0 where
  pub joined : is_named (joined_keys s (iface_in k) m) k ≡ true
  pub unpruned : is_named (pruned_keys (iface_in k) m) k ≡ false
  pub lasts : (m.holdtime == 0) ≡ false

-- A Join/Prune on an interface that joins (*,G).
abbrev pub JoinsStar : State → ℕ → ℕ → JoinPrune → Type 0
JoinsStar s i g m = JoinsTree s (star_key i g) m

-- A Join/Prune on an interface that joins (S,G).
abbrev pub JoinsSource : State → ℕ → ℕ → ℕ → JoinPrune → Type 0
JoinsSource s i g src m = JoinsTree s (source_key i g src) m

-- A router on the link has the tree joined there, at least until a timestamp, and no Prune of it is pending.
pub record HoldsTree (t : State) (k : Key) (end : Option ℕ) : Type 0 where
  pub row : DownstreamRow
  pub found : row_at t.downstream k ≡ Some row
  pub unpruned : row.pending ≡ None
  pub lasts : later_end row.expiry end ≡ row.expiry

-- A Join(*,G) is held, until it expires, if it does.
abbrev pub HoldsStar : State → ℕ → ℕ → Option ℕ → Type 0
HoldsStar t i g end = HoldsTree t (star_key i g) end

-- A Join(S,G) is held, until it expires, if it does.
abbrev pub HoldsSource : State → ℕ → ℕ → ℕ → Option ℕ → Type 0
HoldsSource t i g src end = HoldsTree t (source_key i g src) end

-- After the message (*,G) is held until its holdtime has expired, is on the outgoing list, and so is wanted. Each
-- source that the message doesn't prune isn't pruned there.
pub record TakesStar (s t : State) (i g : ℕ) (m : JoinPrune) : Type 0 where
  pub holds : HoldsStar t i g (holdtime_end s m.holdtime)
  pub unlost : is_loser (assert_star t g i) ≡ false
  pub unpruned : (src : ℕ) → is_named (pruned_keys i m) (rpt_key i g src) ≡ false → prunes t g src i ≡ false
  pub listed : immediate_olist_star t g i ≡ true
  pub wanted : i < iface_count s → join_desired_star t g ≡ true

-- A Join(*,G) that comes to the router is held, and puts its interface on the outgoing list.
abbrev pub StarJoinIsTaken : Type 0
StarJoinIsTaken = (s : State) (e : Event) (i : IfaceId) (m : JoinPrune) (g : ℕ)
    → done_as (happens s e) ≡ Some (Accepted.JoinPruneToMe i m) → JoinsStar s i.number g m
    → TakesStar s (step s e).state i.number g m

-- After the message (S,G) is held until its holdtime has expired, is on the outgoing list, and so is wanted.
pub record TakesSource (s t : State) (i g src : ℕ) (m : JoinPrune) : Type 0 where
  pub holds : HoldsSource t i g src (holdtime_end s m.holdtime)
  pub unlost : is_loser (assert_source t g src i) ≡ false
  pub listed : immediate_olist t g src i ≡ true
  pub wanted : i < iface_count s → join_desired t g src ≡ true

-- A Join(S,G) that comes to the router is held, and puts its interface on the outgoing list.
abbrev pub SourceJoinIsTaken : Type 0
SourceJoinIsTaken = (s : State) (e : Event) (i : IfaceId) (m : JoinPrune) (g src : ℕ)
    → done_as (happens s e) ≡ Some (Accepted.JoinPruneToMe i m) → JoinsSource s i.number g src m
    → TakesSource s (step s e).state i.number g src m

-- ---- as bytes

-- The value of a Join from an address to a neighbour, with prunes, as it is read.
abbrev pub join_value : ℕ → ℕ → Entry → List Entry → JoinPrune
join_value to g joined prunes = record {
  upstream = to;
  holdtime = join_prune_holdtime;
  groups = record { group = g; joins = joined ∷ []; prunes = prunes } ∷ [];
}

-- the router listens to a neighbour on an interface
pub record Hears (s : State) (i from : ℕ) : Type 0 where
  pub configured : i < iface_count s
  pub up : is_up s i ≡ true
  pub neighbour : is_neighbour s i from ≡ true
  pub other : is_own s from ≡ false

-- A Join/Prune can be written: its addresses are those of hosts and of a group, and it prunes no more than it may.
pub record IsWritable (from to g : ℕ) (joined : Entry) (prunes : List Entry) : Type 0 where
  pub from_host : is_unicast from ≡ true
  pub to_fits : to < 2 ^ 32
  pub to_group : is_multicast g ≡ true
  pub of_host : is_unicast joined.address.bits ≡ true
  pub of_hosts : All (λ e. IsTrue (is_unicast e.address.bits)) prunes
  pub few : length prunes ≤ most_pruned

-- The bytes of a Join are read as exactly that Join by the neighbour to which they go.
abbrev pub JoinIsRead : Type 0
JoinIsRead = (s : State) (i from g : ℕ) (joined : Entry) (prunes : List Entry) → Hears s i from
    → IsWritable from (my_address s i) g joined prunes
    → judged s (EventKind.Frame (record { number = i }) (join_packet from (my_address s i) g joined prunes))
    ≡ Ok (Accepted.JoinPruneToMe (record { number = i }) (join_value (my_address s i) g joined prunes))

-- The bytes of a Join are read as exactly that Join by another router of the link, to which they don't go.
abbrev pub JoinIsSeen : Type 0
JoinIsSeen = (s : State) (i from to g : ℕ) (joined : Entry) (prunes : List Entry) → Hears s i from
    → (to == my_address s i) ≡ false → IsWritable from to g joined prunes
    → judged s (EventKind.Frame (record { number = i }) (join_packet from to g joined prunes))
    ≡ Ok (Accepted.JoinPruneSeen (record { number = i }) (join_value to g joined prunes))

-- ---- a Join is sent again

-- While RPF'(*,G) is a neighbour, the expiry of the Join timer of (*,G) sends the Join again, and the timer runs for
-- another 60 seconds; s is the state when it expires.
pub record SendsAgain (s t : State) (g rp : ℕ) (hop : Hop) (sent : List Emission) : Type 0 where
  pub is_sent : Contains sent (join_to s hop g (entry EntryKind.Star rp) (pruned_with_star s g))
  pub timer : row_at t.join_timers (star_key 0 g) ≡ Some (record { end = periodic_end s })

-- The expiry of the Join timer of (*,G) sends the Join again, and restarts the timer.
abbrev pub StarJoinIsRepeated : Type 0
StarJoinIsRepeated = (w : ℕ) (s : State) (g rp now : ℕ) (hop : Hop) → IsQuiet s
    → has_row s.join_timers (star_key 0 g) ≡ true
    → rp_of (record s { present = now }) g ≡ Some rp → rpf_star (record s { present = now }) g ≡ Some hop
    → SendsAgain (record s { present = now }) (fire_once w s (ending TimerKind.Join (star_key 0 g) now)).0 g rp hop
    (fire_once w s (ending TimerKind.Join (star_key 0 g) now)).1

-- While RPF'(S,G) is a neighbour, the expiry of the Join timer of (S,G) sends the Join again, and the timer runs for
-- another 60 seconds; s is the state when it expires.
pub record SendsSourceAgain (s t : State) (g src : ℕ) (hop : Hop) (sent : List Emission) : Type 0 where
  pub is_sent : Contains sent (join_to s hop g (entry EntryKind.Source src) [])
  pub timer : row_at t.join_timers (source_key 0 g src) ≡ Some (record { end = periodic_end s })

-- The expiry of the Join timer of (S,G) sends a Join(S,G) again, and restarts the timer.
abbrev pub SourceJoinIsRepeated : Type 0
SourceJoinIsRepeated = (w : ℕ) (s : State) (g src now : ℕ) (hop : Hop) → IsQuiet s
    → has_row s.join_timers (source_key 0 g src) ≡ true → rpf_source (record s { present = now }) g src ≡ Some hop
    → SendsSourceAgain (record s { present = now }) (fire_once w s (ending TimerKind.Join (source_key 0 g src) now)).0 g src hop
    (fire_once w s (ending TimerKind.Join (source_key 0 g src) now)).1

-- ---- a source

-- A source comes to be wanted, and its upstream neighbour is a live one.
pub record ComesToWantSource (s t : State) (g src : ℕ) (hop : Hop) : Type 0 where
  pub unwanted : join_desired s g src ≡ false
  pub wanted : join_desired t g src ≡ true
  pub upstream : rpf_source t g src ≡ Some hop

-- Whatever event makes a source wanted, a Join(S,G) leaves to RPF'(S,G) at once.
abbrev pub SourceJoinLeaves : Type 0
SourceJoinLeaves = (s : State) (e : Event) (a : Accepted) (g src : ℕ) (hop : Hop)
    → done_as (happens s e) ≡ Some a → is_time a ≡ false → ComesToWantSource s (step s e).state g src hop
    → Contains (step s e).emissions (join_to (step s e).state hop g (entry EntryKind.Source src) [])

-- Where the expiry of a timer makes a source wanted, a Join(S,G) leaves at once to its next hop.
abbrev pub SourceJoinLeavesInTime : Type 0
SourceJoinLeavesInTime = (w : ℕ) (s : State) (e : Ending) (g src : ℕ) (hop : Hop)
    → ComesToWantSource s (fire_once w s e).0 g src hop
    → Contains (fire_once w s e).1 (join_to (fire_once w s e).0 hop g (entry EntryKind.Source src) [])
