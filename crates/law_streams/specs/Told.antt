-- What a cause is, as a rule: an earlier event that requests the copy, answered Done, with no Down of the interface
-- answered Done after it.
use Rattle.std.{specs.{List.Contains, Prelude.{List, Ok, Some, [], false, true, ℕ, ◌*◌, ◌++◌, ◌+◌, ◌<◌, ◌≡◌, ◌⊎◌, ◌∷◌}}}
use Rattle.pim_types.{specs.declared.{event.EventKind.EventKind, outcome.Verdict.Verdict}}
use Rattle.pim_wire.{specs.{Values.JoinPrune, declared.join_prune.EntryKind.EntryKind}}
use Rattle.igmp_wire.{specs.{Values.Record, declared.report.RecordType.RecordType}}
use Rattle.pim_model.{specs.{declared.accepted.Accepted.Accepted, Cause.{Happened, Passed, Past, has_cause, number_before}, Downstream.{Named, accepted_joins}, Judging.judged, Querier.{group_membership_interval, is_skipped}, State.State, Step.step}}

-- The message has an accepted Join(*,G) or Join(S,G).
pub record HasJoin (s : State) (m : JoinPrune) (g src : ℕ) : Type 0 where
  pub entry : Named
  pub accepted : Contains (accepted_joins s m) entry
  pub group : entry.0 ≡ g
  pub kind : ((entry.1).kind ≡ EntryKind.Star)
      ⊎ (((entry.1).kind ≡ EntryKind.Source) × ((entry.1).address.bits ≡ src))

-- A Join/Prune to the router with such a Join (`HasJoin`), whose holdtime never expires or hasn't expired yet.
pub record AsksByJoin (h : Happened) (now i g src : ℕ) : Type 0 where
  pub message : JoinPrune
  pub was : judged h.before h.event.kind ≡ Ok (Accepted.JoinPruneToMe (record { number = i }) message)
  pub join : HasJoin h.before message g src
  pub lasts : (message.holdtime ≡ 65535) ⊎ (now < h.before.present + 1000 * message.holdtime)

-- The records have one of G, not skipped, of type IS_EX or TO_EX, or of type IS_IN, ALLOW or TO_IN that names S.
pub record HasRecord (records : List Record) (g src : ℕ) : Type 0 where
  pub one : Record
  pub among : Contains records one
  pub kept : is_skipped one ≡ false
  pub group : one.group ≡ g
  pub type : ((one.type ≡ RecordType.IsExclude) ⊎ (one.type ≡ RecordType.ToExclude))
      ⊎ (((one.type ≡ RecordType.IsInclude) ⊎ ((one.type ≡ RecordType.Allow) ⊎ (one.type ≡ RecordType.ToInclude)))
      × Contains one.sources src)

-- A report that has a record for the group and the source (`HasRecord`), from which the Group Membership Interval
-- hasn't expired yet.
pub record AsksByReport (h : Happened) (now i g src : ℕ) : Type 0 where
  pub records : List Record
  pub was : judged h.before h.event.kind ≡ Ok (Accepted.Report (record { number = i }) records)
  pub wants : HasRecord records g src
  pub lasts : now < h.before.present + group_membership_interval h.before i

-- An event was answered Done.
abbrev pub IsDone : Happened → Type 0
IsDone h = (step h.before h.event).answer ≡ Ok Verdict.Done

-- The event isn't a Down of the interface that was answered Done.
abbrev pub StaysUp : ℕ → Happened → Type 0
StaysUp i h = h.event.kind ≡ EventKind.Down (record { number = i }) → IsDone h → ⊥

-- The interface, which had the second number before this past, didn't go down in it.
abbrev pub StayedUp : Past → ℕ → ℕ → Type 0
StayedUp [] i was = i ≡ was
StayedUp (Passed.Happening h ∷ past) i was = StaysUp i h × StayedUp past i was
StayedUp (Passed.Renumbered m ∷ past) i was = (old : ℕ) × (number_before 0 m i ≡ Some old) × StayedUp past old was

-- The event is a cause among the events of the past, the latest first. The interface may have had another number then.
pub record IsCause (past : Past) (now i g src : ℕ) (h : Happened) : Type 0 where
  pub later : Past
  pub earlier : Past
  pub number : ℕ
  pub place : past ≡ later ++ Passed.Happening h ∷ earlier
  pub done : IsDone h
  pub asks : AsksByJoin h now number g src ⊎ AsksByReport h now number g src
  pub stays_up : StayedUp later i number

-- A cause is an earlier event, answered Done, that requests the copy; and the interface didn't go down after it.
abbrev pub CauseIsAnEarlierEvent : Type 0
CauseIsAnEarlierEvent = (past : Past) (now i g src : ℕ) → has_cause past now i g src ≡ true
    → (h : Happened) × IsCause past now i g src h
