-- What follows of a change, by what was opened: the touched groups and sources as they were before it.
use Rattle.std.{specs.Prelude.{List, ℕ, ◌++◌, ◌≡◌}}
use Rattle.pim_types.{specs.declared.{fact.Key.Key, outcome.Emission.Emission}}
use Rattle.pim_model.{specs.{Messages.Message, State.State, Writing.write_all}}
use Rattle.pim_state.{specs.declared.touched.Touched.Touched}
use Rattle.pim_views.{specs.declared.opening.GroupOpening.GroupOpening}
use Rattle.pim_register.{specs.Settling.registers_by}
use Rattle.pim_asserts.{specs.Opened.clear_by}
use Rattle.pim_upstream.{specs.Told.upstream_by}
use Rattle.pim_fanout.{specs.{Before.IsBefore, Contains.Contains, Laws.names_of, Named.named_among, declared.before.SourceBefore.SourceBefore}}

-- Registers are settled, then the asserts and SPTbits that must go are cleared.
unfoldable pub cleared_by : List GroupOpening → State → State × List Message
cleared_by opening a = clear_by opening (registers_by opening a)

-- After clearing, the messages upstream are made.
unfoldable pub followed_by : List GroupOpening → State → ℕ → State × List Message
followed_by opening a w =
    let after : State × List Message = cleared_by opening a in
    let told : State × List Message = upstream_by opening after.0 w in
    (told.0, after.1 ++ told.1)

-- The packets of the change's messages come first, then those of the messages that follow.
unfoldable pub settled_by : List GroupOpening → State → List Message → ℕ → State × List Emission
settled_by opening a messages w =
    let followed : State × List Message = followed_by opening a w in
    write_all followed.0 (messages ++ followed.1)

-- The keys are the sources that are named, by what the sources were before and by the state in which all is cleared.
abbrev pub AreNamed : List SourceBefore → State → List Key → Type 0
AreNamed before cleared names = (o : State) (touched : Touched) → IsBefore o touched before
    → names ≡ named_among o cleared touched

-- The names are those of the sources that a change touches, where what it touches covers the change.
pub record AreNames (o changed : State) (touched : Touched) (names : List Key) : Type 0 where
  pub covers : Contains touched o changed
  pub are : names ≡ names_of o changed touched
