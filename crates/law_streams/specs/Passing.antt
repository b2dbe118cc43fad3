-- What goes on at one router while a stream passes, and what ends it.
use Rattle.std.{specs.{List.Contains, Option.option_map_or, Prelude.{Bool, List, Option, Some, [], false, nat_le, not, true, ℕ, ◌&&◌, ◌<◌, ◌==◌, ◌||◌, ◌∷◌, ◌≡◌}}}
use Rattle.pim_ip.{specs.Ipv4.{Packet, copy_text}}
use Rattle.pim_model.{specs.{Writing.on_link, declared.accepted.Accepted.Accepted, Cause.done_as, Full.source_is_full, Neighbours.is_dr, Receivers.{is_exclude, local_receiver_exclude}, Sets.{assert_source, assert_star, is_loser, is_winner, prunes, spt_bit}, State.{State, iface_count, is_own, is_up}, Step.{state_after, step}, Tables.{has_row, row_at}, Unicast.{is_rpf_interface, is_rpf_interface_rp}}}
use Rattle.law_streams.{specs.{Served.Came, Copies.{copies_at, happens}}}
use Rattle.pim_types.{specs.{Keys.{rpt_key, source_key, star_key}, declared.{event.Event.Event, fact.{DownstreamRow.DownstreamRow, Key.Key, GroupRecordRow.GroupRecordRow, SourceRecordRow.SourceRecordRow}}}}
use Rattle.law_settled.{specs.Ready.IsSettled}

-- ---- what holds while a stream of (S,G) passes from an interface to another

-- the tree on which the packets come
pub data Tree : Type 0 where
  Shared : Tree
  Source : Tree

-- The interface is the way to the RP; where SPTbit is set it is also the way to the source.
pub record IsOnShared (s : State) (g src up : ℕ) : Type 0 where
  pub on_tree : is_rpf_interface_rp s g up ≡ true
  pub source_too : (spt_bit s g src && not (is_rpf_interface s src up)) ≡ false

-- The interface is the way to the source, and SPTbit is set.
abbrev pub is_on_source : State → ℕ → ℕ → ℕ → Bool
is_on_source s g src up = is_rpf_interface s src up && spt_bit s g src

-- The stream comes on the shared tree, or on the source's.
abbrev pub IsOn : Tree → State → ℕ → ℕ → ℕ → Type 0
IsOn Tree.Shared s g src up = IsOnShared s g src up
IsOn Tree.Source s g src up = is_on_source s g src up ≡ true

-- the source's packets come in on an interface that is up
pub record ComesIn (tree : Tree) (s : State) (g src up : ℕ) : Type 0 where
  pub configured : up < iface_count s
  pub is_up : is_up s up ≡ true
  pub foreign : is_own s src ≡ false
  pub on : IsOn tree s g src up

-- For whom a stream goes out: for a router on the link that joined the group, for a host there, or for a router that
-- joined the source.
pub data Receiver : Type 0 where
  Router : Receiver
  Host : Receiver
  SourceRouter : Receiver

-- a router on the link joined the group, and no Prune of it, or of the source off its tree, has taken effect there
pub record IsJoinedThere (s : State) (g src j : ℕ) : Type 0 where
  pub row : DownstreamRow
  pub found : row_at s.downstream (star_key j g) ≡ Some row
  pub none_prunes : prunes s g src j ≡ false

-- A host on the link requested the group and didn't exclude the source.
abbrev pub asks : State → ℕ → ℕ → ℕ → Bool
asks s g src j = is_exclude s g j && not (local_receiver_exclude s g src j)

-- The router serves the hosts of an interface: it is the DR, or won the assert of (*,G).
abbrev pub serves_it : State → ℕ → ℕ → Bool
serves_it s g j = is_dr s j || is_winner (assert_star s g j)

-- A host on an interface that the router serves asks for the source.
abbrev pub is_asked : State → ℕ → ℕ → ℕ → Bool
is_asked s g src j = asks s g src j && serves_it s g j

-- a router on the link joined the source, and no Prune of it there has taken effect
pub record IsSourceJoinedThere (s : State) (g src j : ℕ) : Type 0 where
  pub row : DownstreamRow
  pub found : row_at s.downstream (source_key j g src) ≡ Some row

-- A router or a host on an interface wants the stream.
abbrev pub IsWanted : Receiver → State → ℕ → ℕ → ℕ → Type 0
IsWanted Receiver.Router s g src j = IsJoinedThere s g src j
IsWanted Receiver.Host s g src j = is_asked s g src j ≡ true
IsWanted Receiver.SourceRouter s g src j = IsSourceJoinedThere s g src j

-- The stream goes out on an interface: it is wanted there, and no assert is lost on it.
pub record GoesOut (by : Receiver) (s : State) (g src j : ℕ) : Type 0 where
  pub configured : j < iface_count s
  pub group : is_loser (assert_star s g j) ≡ false
  pub source : is_loser (assert_source s g src j) ≡ false
  pub wanted : IsWanted by s g src j

-- A router that joined only the source is served by the source's tree.
abbrev pub AreMatched : Tree → Receiver → Type 0
AreMatched Tree.Shared Receiver.SourceRouter = ⊥
AreMatched tree by = Unit {0}

-- The source has no fact and there is no room for one. On its own tree the source has a fact, with SPTbit.
abbrev pub lacks_room : Tree → State → ℕ → ℕ → Bool
lacks_room Tree.Shared s g src = source_is_full s g src
lacks_room Tree.Source s g src = false

-- A router passes a stream of (S,G) from one interface to another.
pub record Passes (tree : Tree) (by : Receiver) (s : State) (g src up down : ℕ) : Type 0 where
  pub settled : IsSettled s
  pub matched : AreMatched tree by
  pub comes_in : ComesIn tree s g src up
  pub goes_out : GoesOut by s g src down
  pub room : lacks_room tree s g src ≡ false
  pub on : (down == up) ≡ false

-- ---- what may end a stream at a router

-- A timer expires at a timestamp or before it, if it runs.
abbrev pub ends_by : ℕ → Option ℕ → Bool
ends_by moment o = option_map_or (λ end. nat_le end moment) o false

-- The holdtime of the last Join of a tree expires by a timestamp, or the time in which a pending Prune of it can be
-- overridden does.
unfoldable pub has_expired : State → Key → ℕ → Bool
has_expired s k moment =
    option_map_or (λ (r : DownstreamRow). ends_by moment r.expiry || ends_by moment r.pending) (row_at s.downstream k)
    false

-- The time in which a pending Prune(S,G,rpt) can be overridden expires by a timestamp.
unfoldable pub takes_effect : State → Key → ℕ → Bool
takes_effect s k moment =
    option_map_or (λ (r : DownstreamRow). ends_by moment r.pending) (row_at s.downstream k) false

-- The Group Membership Interval of the group, or the timer of the source, expires by a timestamp.
unfoldable pub membership_ends : State → ℕ → ℕ → ℕ → ℕ → Bool
membership_ends s g src i moment =
    option_map_or (λ (r : GroupRecordRow). option_map_or (λ end. nat_le end moment) r.end false)
    (row_at s.group_records (star_key i g)) false
    || option_map_or (λ (r : SourceRecordRow). option_map_or (λ end. nat_le end moment) r.end false)
    (row_at s.source_records (source_key i g src)) false

-- The interface isn't the way to the RP, or SPTbit is set and it isn't the way to the source.
unfoldable pub has_moved : State → ℕ → ℕ → ℕ → Bool
has_moved t g src up = not (is_rpf_interface_rp t g up) || (spt_bit t g src && not (is_rpf_interface t src up))

-- an assert of the group or of the source is lost on the interface
unfoldable pub is_lost : State → ℕ → ℕ → ℕ → Bool
is_lost t g src down = is_loser (assert_star t g down) || is_loser (assert_source t g src down)

-- The event took an interface of the stream down, or lost an assert on the outgoing one; t is the state after it.
abbrev pub takes_link : State → ℕ → ℕ → ℕ → ℕ → Option Accepted → Bool
takes_link t g src up down (Some (Accepted.Down j)) = (j.number == down) || (j.number == up)
takes_link t g src up down (Some (Accepted.Assert j from a)) = is_lost t g src down
takes_link t g src up down o = false

-- The packets don't come on the source's tree any more. For a router that joined the source only Up, Down, new routes
-- and an Assert can cause this; for others any event that clears SPTbit or changes the way. t is the state after the
-- event.
abbrev pub leaves_source : Receiver → State → ℕ → ℕ → ℕ → Option Accepted → Bool
leaves_source Receiver.SourceRouter t g src up (Some (Accepted.Up j)) = not (is_rpf_interface t src up)
leaves_source Receiver.SourceRouter t g src up (Some (Accepted.Down j)) = not (is_rpf_interface t src up)
leaves_source Receiver.SourceRouter t g src up (Some (Accepted.Routes routes)) = not (is_rpf_interface t src up)
leaves_source Receiver.SourceRouter t g src up (Some (Accepted.Assert j from a)) = not (is_on_source t g src up)
leaves_source Receiver.SourceRouter t g src up o = false
leaves_source by t g src up o = not (is_on_source t g src up)

-- The packets don't come on the tree any more. For the shared tree only Up, Down, new routes or RP ranges, an Assert,
-- and a packet of the source on another interface can cause this. t is the state after the event.
abbrev pub leaves_tree : Tree → Receiver → State → ℕ → ℕ → ℕ → Option Accepted → Bool
leaves_tree Tree.Shared by t g src up (Some (Accepted.Up j)) = has_moved t g src up
leaves_tree Tree.Shared by t g src up (Some (Accepted.Down j)) = has_moved t g src up
leaves_tree Tree.Shared by t g src up (Some (Accepted.Routes routes)) = has_moved t g src up
leaves_tree Tree.Shared by t g src up (Some (Accepted.Rps ranges)) = has_moved t g src up
leaves_tree Tree.Shared by t g src up (Some (Accepted.Assert j from a)) = has_moved t g src up
leaves_tree Tree.Shared by t g src up (Some (Accepted.Data j p)) =
    ((p.destination == g) && (p.source == src) && not (j.number == up)) && has_moved t g src up
leaves_tree Tree.Shared by t g src up o = false
leaves_tree Tree.Source by t g src up o = leaves_source by t g src up o

-- The stream isn't wanted any more by its receiver; s is the state before the event and t the state after it.
abbrev pub takes_from : Receiver → State → State → ℕ → ℕ → ℕ → Option Accepted → Bool
takes_from Receiver.Router s t g src down (Some (Accepted.Advance moment)) =
    has_expired s (star_key down g) moment || takes_effect s (rpt_key down g src) moment
takes_from Receiver.Router s t g src down (Some (Accepted.JoinPruneToMe j m)) =
    (j.number == down) && (not (has_row t.downstream (star_key down g)) || prunes t g src down)
takes_from Receiver.Router s t g src down o = false
takes_from Receiver.Host s t g src down (Some (Accepted.Advance moment)) =
    membership_ends s g src down moment || not (serves_it t g down)
takes_from Receiver.Host s t g src down (Some (Accepted.Report j records)) =
    ((j.number == down) && local_receiver_exclude t g src down) || not (serves_it t g down)
takes_from Receiver.Host s t g src down o = not (serves_it t g down)
takes_from Receiver.SourceRouter s t g src down (Some (Accepted.Advance moment)) =
    has_expired s (source_key down g src) moment
takes_from Receiver.SourceRouter s t g src down (Some (Accepted.JoinPruneToMe j m)) =
    (j.number == down) && not (has_row t.downstream (source_key down g src))
takes_from Receiver.SourceRouter s t g src down o = false

-- All events that may end the stream at a router.
unfoldable pub ends_passing : Tree → Receiver → State → Event → ℕ → ℕ → ℕ → ℕ → Bool
ends_passing tree by s e g src up down =
    let t : State = (step s e).state in
    let done : Option Accepted = done_as (happens s e) in
    takes_link t g src up down done || leaves_tree tree by t g src up done || takes_from by s t g src down done
    || lacks_room tree t g src

-- ---- the law

-- A packet on the tree of its source needs no room for facts.
abbrev pub SourceTreeHasRoom : Type 0
SourceTreeHasRoom = (s : State) (g src up : ℕ) → is_on_source s g src up ≡ true → source_is_full s g src ≡ false

-- An event ends a stream at a router only where the test `ends_passing` says so.
abbrev pub EventKeepsPassing : Type 0
EventKeepsPassing = (tree : Tree) (by : Receiver) (s : State) (e : Event) (g src up down : ℕ)
    → Passes tree by s g src up down → ends_passing tree by s e g src up down ≡ false → Passes tree by (step s e).state g src up down

-- No event of a list ends the stream at a router.
abbrev pub NoneEndsPassing : Tree → Receiver → State → List Event → ℕ → ℕ → ℕ → ℕ → Type 0
NoneEndsPassing tree by s [] g src up down = Unit {0}
NoneEndsPassing tree by s (e ∷ es) g src up down =
    (ends_passing tree by s e g src up down ≡ false) × NoneEndsPassing tree by (step s e).state es g src up down

-- Whether one of a list of events ends the stream at a router.
unfoldable pub any_ends_passing : Tree → Receiver → State → List Event → ℕ → ℕ → ℕ → ℕ → Bool
any_ends_passing tree by s [] g src up down = false
any_ends_passing tree by s (e ∷ es) g src up down =
    let later : Bool = any_ends_passing tree by (step s e).state es g src up down in
    ends_passing tree by s e g src up down || later

-- A list of events, none of which ends the stream, leaves the router passing it.
abbrev pub RunKeepsPassing : Type 0
RunKeepsPassing = (tree : Tree) (by : Receiver) (s : State) (events : List Event) (g src up down : ℕ)
    → Passes tree by s g src up down → NoneEndsPassing tree by s events g src up down → Passes tree by (state_after s events) g src up down

-- While a router passes a stream, each packet of the source that comes on its way leaves on the link.
abbrev pub PassingServes : Type 0
PassingServes = (tree : Tree) (by : Receiver) (s : State) (e : Event) (p : Packet) (up down : ℕ)
    → Passes tree by s p.destination p.source up down → Came s e (record { number = up }) p
    → Contains (copies_at s e) (on_link down (copy_text p))
