-- What every event keeps: tables whose keys rise, and timers that expire later than the present time.
use Rattle.std.{specs.{List.{list_all, Sorted.IsStrictlySortedBy}, Prelude.{List, Ok, is_some, true, ◌||◌, ℕ, ◌≡◌}}}
use Rattle.pim_types.{specs.{declared.{config.Config.Config, event.{Event.Event, EventKind.EventKind}, fact.{AssertRow.AssertRow, DownstreamRow.DownstreamRow, GroupRecordRow.GroupRecordRow, GroupRepeatRow.GroupRepeatRow, NeighbourRow.NeighbourRow, SendingRow.SendingRow, SourceRecordRow.SourceRecordRow, SourceRepeatRow.SourceRepeatRow, SourceRow.SourceRow, Key.Key, QuerierRow.QuerierRow}}, Keys.{iface_in, key_cmp}}}
use Rattle.pim_model.{specs.{Firing.{fire_all, fire_instant, fire_once, settled}, Limits.config_test, Messages.Message, State.{State, is_up, opening}, Step.{state_after, step}, Tables.{Table, keys_in}, Timers.Ending}}
use Rattle.law_settled.{specs.Laws.{IsAhead, IsFirable}}

-- A table has one row for each key, and its keys rise.
abbrev pub Rises : {R : Type 0} → Table R → Type 0
Rises t = IsStrictlySortedBy key_cmp (keys_in t)

-- The keys of each table of a state rise.
pub record IsOrdered (s : State) : Type 0 where
  pub interfaces : Rises s.interfaces
  pub neighbours : Rises s.neighbours
  pub queriers : Rises s.queriers
  pub group_records : Rises s.group_records
  pub source_records : Rises s.source_records
  pub group_repeats : Rises s.group_repeats
  pub source_repeats : Rises s.source_repeats
  pub sendings : Rises s.sendings
  pub downstream : Rises s.downstream
  pub asserts : Rises s.asserts
  pub join_timers : Rises s.join_timers
  pub override_timers : Rises s.override_timers
  pub sources : Rises s.sources
  pub registers : Rises s.registers

-- no row is of an interface that is down, and a source runs or has SPTbit set
pub record IsTidy (s : State) : Type 0 where
  pub neighbours : list_all (λ (e : Key × NeighbourRow). is_up s (iface_in e.0)) s.neighbours ≡ true
  pub queriers : list_all (λ (e : Key × QuerierRow). is_up s (iface_in e.0)) s.queriers ≡ true
  pub group_records : list_all (λ (e : Key × GroupRecordRow). is_up s (iface_in e.0)) s.group_records ≡ true
  pub source_records : list_all (λ (e : Key × SourceRecordRow). is_up s (iface_in e.0)) s.source_records ≡ true
  pub group_repeats : list_all (λ (e : Key × GroupRepeatRow). is_up s (iface_in e.0)) s.group_repeats ≡ true
  pub source_repeats : list_all (λ (e : Key × SourceRepeatRow). is_up s (iface_in e.0)) s.source_repeats ≡ true
  pub sendings : list_all (λ (e : Key × SendingRow). is_up s (iface_in e.0)) s.sendings ≡ true
  pub downstream : list_all (λ (e : Key × DownstreamRow). is_up s (iface_in e.0)) s.downstream ≡ true
  pub asserts : list_all (λ (e : Key × AssertRow). is_up s (iface_in e.0)) s.asserts ≡ true
  pub sources : list_all (λ (e : Key × SourceRow). is_some (e.1).keepalive || (e.1).spt) s.sources ≡ true

-- The tables are in order, no robustness and no interval is 0, and IGMP's facts are under keys of their kind, whatever
-- is due.
pub record IsLawful (s : State) : Type 0 where
  pub ordered : IsOrdered s
  pub firable : IsFirable s
  pub tidy : IsTidy s

-- The state between two events: the tables are in order, and all timers that are due at the present time have expired.
pub record IsSettled (s : State) : Type 0 where
  pub ordered : IsOrdered s
  pub ahead : IsAhead s.present s
  pub tidy : IsTidy s

abbrev pub SettledIsLawful : Type 0
SettledIsLawful = (s : State) → IsSettled s → IsLawful s

abbrev pub OpeningIsSettled : Type 0
OpeningIsSettled = (c : Config) → config_test c ≡ Ok tt → IsSettled (opening c)

-- Every event leaves a settled state settled.
abbrev pub StepIsSettled : Type 0
StepIsSettled = (s : State) (e : Event) → IsSettled s → IsSettled (step s e).state

-- Only an Advance moves time.
abbrev pub IsTimeless : EventKind → Type 0
IsTimeless (EventKind.Advance moment) = ⊥
IsTimeless kind = Unit {0}

-- After an event other than Advance all timers still expire later than the present time, which is unchanged.
abbrev pub StepStaysAhead : Type 0
StepStaysAhead = (s : State) (e : Event) → IsTimeless e.kind → IsSettled s → IsAhead s.present (step s e).state

-- The state is settled after any events from the opening.
abbrev pub RunIsSettled : Type 0
RunIsSettled = (c : Config) (events : List Event) → config_test c ≡ Ok tt → IsSettled (state_after (opening c) events)

-- What follows from a change, and each expiry of a timer, leaves a lawful state lawful.
abbrev pub SettlingIsLawful : Type 0
SettlingIsLawful =
    (o : State) (change : State × List Message) (w : ℕ) → IsLawful change.0 → IsLawful (settled o change w).0

abbrev pub OneFiringIsLawful : Type 0
OneFiringIsLawful = (w : ℕ) (s : State) (e : Ending) → IsLawful s → IsLawful (fire_once w s e).0

abbrev pub InstantIsLawful : Type 0
InstantIsLawful = (w : ℕ) (s : State) (e : Ending) → IsLawful s → IsLawful (fire_instant w s e).0

abbrev pub FiringIsLawful : Type 0
FiringIsLawful = (w m : ℕ) (s : State) → IsLawful s → IsLawful (fire_all w m s).0
