-- Only copies are data: what a step sends, apart from the copies and a Register, are messages that the router wrote.
use Rattle.std.{specs.{List.{All, Contains}, Prelude.{Bool, List, false, true, ◌++◌, ◌≡◌, ◌⊎◌}}}
use Rattle.pim_types.{specs.declared.{event.Event.Event, outcome.Emission.Emission}}
use Rattle.pim_model.{specs.{Cause.is_on_link, Messages.Message, State.{InterfaceTable, State}, Step.step, Writing.emission_of}}
use Rattle.law_streams.{specs.Copies.{IsLower, IsLowerInside, copies_at}}

-- A Hello, a Join/Prune, an Assert or a query, which go on a link; not a Register-Stop or a Null-Register, which go to an
-- address.
abbrev pub goes_on_link : Message → Bool
goes_on_link (Message.RegisterStop from to group source) = false
goes_on_link (Message.NullRegister from to source group) = false
goes_on_link m = true

-- A message of PIM or IGMP, written by what the interfaces are.
pub record IsMessage (e : Emission) : Type 0 where
  pub table : InterfaceTable
  pub message : Message
  pub is : e ≡ emission_of table message
  pub on_link : is_on_link e ≡ goes_on_link message

-- What a step sends: messages, then the copies of the packet that came, with its TTL one lower, then a Register around
-- that packet.
pub record SendsOnly (s : State) (e : Event) : Type 0 where
  pub messages : List Emission
  pub registered : List Emission
  pub emissions : (step s e).emissions ≡ messages ++ copies_at s e ++ registered
  pub own : All IsMessage messages
  pub copies : All (IsLower s e) (copies_at s e)
  pub around : All (IsLowerInside s e) registered

abbrev pub OnlyCopiesAreData : Type 0
OnlyCopiesAreData = (s : State) (e : Event) → SendsOnly s e

-- An emission is a message, one of the copies, or a Register around the packet that came.
abbrev pub IsOfAKind : State → Event → Emission → Type 0
IsOfAKind s e x = IsMessage x ⊎ ((Contains (copies_at s e) x × IsLower s e x) ⊎ IsLowerInside s e x)

abbrev pub EachEmissionIsOfAKind : Type 0
EachEmissionIsOfAKind = (s : State) (e : Event) → All (IsOfAKind s e) (step s e).emissions
