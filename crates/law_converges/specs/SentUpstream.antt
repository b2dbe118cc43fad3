-- What a router sends upstream is due: a Join goes to RPF' of what is wanted, and a Prune to what was RPF' of what is wanted no more, or over
-- another neighbour now (RFC 7761, 4.5.4 and 4.5.5).
use Rattle.std.{specs.{List.AllByRecursion, Prelude.{List, Some, [], false, true, ℕ, ◌≡◌, ◌⊎◌}}}
use Rattle.pim_types.{specs.{Keys.{group_in, iface_in}, declared.{event.Event.Event, fact.Key.Key, outcome.Emission.Emission, path.Hop.Hop, timer.TimerKind.TimerKind}}}
use Rattle.pim_wire.{specs.declared.join_prune.{Entry.Entry, EntryKind.EntryKind}}
use Rattle.pim_model.{specs.{Cause.done_as, Firing.fire_once, Messages.Message, State.{InterfaceTable, State, my_address}, Step.step, Tables.{hop_at, same_hop}, Timers.Ending, Writing.emission_of, declared.accepted.Accepted.Accepted}}
use Rattle.law_streams.{specs.{Copies.{IsLower, IsLowerInside, happens}, InTimeJoins.{IsRp, Join, Source, Star, is_wanted, rpf_of}, Joins.is_time, Uncounted.is_wanted as is_key_wanted}}

-- A Join is due: what it joins is wanted, over that neighbour; (*,G) with the router's RP.
pub record IsJoinDue (x : Join) (t : State) (g : ℕ) (hop : Hop) : Type 0 where
  pub wanted : is_wanted x t g ≡ true
  pub rp_known : IsRp x t g
  pub upstream : rpf_of x t g ≡ Some hop

-- A Prune is due: what it prunes was wanted over that neighbour, and no longer is.
pub record IsPruneDue (x : Join) (s t : State) (g : ℕ) (hop : Hop) : Type 0 where
  pub wanted : is_wanted x s g ≡ true
  pub upstream : rpf_of x s g ≡ Some hop
  pub gone : (is_wanted x t g ≡ false) ⊎ (same_hop (rpf_of x s g) (rpf_of x t g) ≡ false)

-- an entry that joins; of (S,G,rpt) nothing is said
abbrev pub IsDueToJoin : State → ℕ → Hop → EntryKind → ℕ → Type 0
IsDueToJoin t g hop EntryKind.Star address = IsJoinDue (Star address) t g hop
IsDueToJoin t g hop EntryKind.Source address = IsJoinDue (Source address) t g hop
IsDueToJoin t g hop EntryKind.SourceRpt address = Unit {0}

-- an entry that prunes
abbrev pub IsDueToPrune : State → State → ℕ → Hop → EntryKind → ℕ → Type 0
IsDueToPrune s t g hop EntryKind.Star address = IsPruneDue (Star address) s t g hop
IsDueToPrune s t g hop EntryKind.Source address = IsPruneDue (Source address) s t g hop
IsDueToPrune s t g hop EntryKind.SourceRpt address = Unit {0}

-- Each Join of a message is due in the second state, and each Prune by what changed from the first one to it.
abbrev pub IsDue : State → State → Message → Type 0
IsDue s t (Message.JoinPrune i upstream g joins prunes) =
    AllByRecursion (λ (x : Entry). IsDueToJoin t g (hop_at i upstream) x.kind (x.address).bits) joins
    × AllByRecursion (λ (x : Entry). IsDueToPrune s t g (hop_at i upstream) x.kind (x.address).bits) prunes
IsDue s t m = Unit {0}

-- what is sent is such a message
pub record IsDueMessage (s t : State) (x : Emission) : Type 0 where
  pub table : InterfaceTable
  pub message : Message
  pub is : x ≡ emission_of table message
  pub due : IsDue s t message

-- What any event sends that isn't time that passes is such messages, copies of the packet that it brings, or a Register around that packet.
abbrev pub EachMessageIsDue : Type 0
EachMessageIsDue = (s : State) (e : Event) (a : Accepted) → done_as (happens s e) ≡ Some a → is_time a ≡ false
    → AllByRecursion (λ (x : Emission). IsDueMessage s (step s e).state x ⊎ (IsLower s e x ⊎ IsLowerInside s e x)) (step s e).emissions

-- a PruneEcho, which names the router itself, where the Prune-Pending Timer of the key expires (4.5.1, 4.5.2)
pub record IsEcho (s : State) (k : Key) (x : Emission) : Type 0 where
  pub table : InterfaceTable
  pub prunes : List Entry
  pub is : x ≡ emission_of table (Message.JoinPrune (iface_in k) (my_address s (iface_in k)) (group_in k) [] prunes)

-- What a timer's expiry sends is such messages, by what changes with it or by what it finds; or a PruneEcho. A Join Timer runs for what is wanted
-- (`EachJoinIsWanted`).
abbrev pub EachMessageIsDueInTime : Type 0
EachMessageIsDueInTime = (w : ℕ) (s : State) (e : Ending) → (e.timer.kind ≡ TimerKind.Join → is_key_wanted s e.timer.key ≡ true)
    → AllByRecursion
    (λ (x : Emission). IsDueMessage s (fire_once w s e).0 x
    ⊎ (IsDueMessage s s x ⊎ ((e.timer.kind ≡ TimerKind.PrunePending) × IsEcho s e.timer.key x)))
    (fire_once w s e).1
