-- A router joins only what it was asked for: each Join(*,G) and Join(S,G) that it sends has a cause at the router itself, as each copy of a
-- packet has (RFC 7761, 4.5.4 and 4.5.5).
use Rattle.std.{specs.{List.AllByRecursion, Prelude.{List, Ok, [], true, ℕ, ◌<◌, ◌∷◌, ◌≡◌, ◌⊎◌}}}
use Rattle.pim_types.{specs.declared.{config.Config.Config, event.Event.Event, outcome.Emission.Emission}}
use Rattle.pim_wire.{specs.declared.join_prune.{Entry.Entry, EntryKind.EntryKind}}
use Rattle.pim_model.{specs.{Cause.{Past, happened, has_cause, past_after}, Limits.{config_test, is_in_subnet}, Messages.Message, State.{InterfaceTable, State, iface_count, opening}, Step.{state_after, step}, Writing.emission_of}}
use Rattle.law_streams.{specs.Copies.{IsLower, IsLowerInside}}

-- All sources of the group have a cause on an interface, at the present time of a state.
pub record IsGroupAsked (past : Past) (s : State) (g : ℕ) : Type 0 where
  pub iface : ℕ
  pub configured : iface < iface_count s
  pub cause : (src : ℕ) → has_cause past s.present iface g src ≡ true

-- The source of the group has a cause on an interface.
pub record IsSourceAsked (past : Past) (s : State) (g src : ℕ) : Type 0 where
  pub iface : ℕ
  pub configured : iface < iface_count s
  pub cause : has_cause past s.present iface g src ≡ true

-- An entry of a Join is asked for: (*,G) for all sources; (S,G) for the source, or S is on a link of the router. Such a source the router may
-- register as its DR, and the register tunnel is then in immediate_olist(S,G) (4.4.1). Of (S,G,rpt) nothing is said.
abbrev pub IsAskedAs : Past → State → ℕ → EntryKind → ℕ → Type 0
IsAskedAs past s g EntryKind.Star address = IsGroupAsked past s g
IsAskedAs past s g EntryKind.Source address =
    IsSourceAsked past s g address ⊎ (is_in_subnet (s.configured).interfaces address ≡ true)
IsAskedAs past s g EntryKind.SourceRpt address = Unit {0}

-- each Join(*,G) and Join(S,G) of a message is asked for
abbrev pub JoinsAreAsked : Past → State → Message → Type 0
JoinsAreAsked past s (Message.JoinPrune i upstream g joins prunes) =
    AllByRecursion (λ (x : Entry). IsAskedAs past s g x.kind (x.address).bits) joins
JoinsAreAsked past s m = Unit {0}

-- what is sent is a message whose Joins are asked for
pub record IsAskedMessage (past : Past) (s : State) (x : Emission) : Type 0 where
  pub table : InterfaceTable
  pub message : Message
  pub is : x ≡ emission_of table message
  pub asked : JoinsAreAsked past s message

-- What an event sends in a state: such messages, where the event itself is part of the past; copies of the packet that it brings; a Register
-- around that packet.
abbrev pub SendsAsked : Past → State → Event → Type 0
SendsAsked past s e =
    AllByRecursion (λ (x : Emission). IsAskedMessage (happened s e ∷ past) s x ⊎ (IsLower s e x ⊎ IsLowerInside s e x))
    (step s e).emissions

-- After any events from the opening with an accepted configuration, each Join that an event sends is asked for when the event comes. Where
-- time passes, that is the time at which it began to: at the timestamp of the Join itself the cause may just expire.
abbrev pub EachJoinIsAsked : Type 0
EachJoinIsAsked =
    (c : Config) (earlier : List Event) (e : Event) → config_test c ≡ Ok tt
    → SendsAsked (past_after [] (opening c) earlier) (state_after (opening c) earlier) e
