-- A host on interface 2 that answers each general query within a second and a half, at a router that asks every 125 s and
-- then, by a reload, every 10 s; and two that answer too late.
use Rattle.std.{specs.Prelude.{List, [], false, map, suc, true, zero, ℕ, ◌+◌, ◌∷◌, ◌≡◌}}
use Rattle.pim_types.{specs.declared.{config.Config.Config, event.Event.Event}}
use Rattle.pim_model.{specs.{Receivers.local_receiver_star, State.{State, opening}, Step.step}}
use Rattle.law_states.{specs.History.{AreAccepted, Given, IsLedTo, state_given}}
use Rattle.law_hosts.{specs.Members.{ForQuery, IsReported, answers_before, answers_still, is_answered, margin}}
use Rattle.pim_runs.{specs.{Base.{base, group, opening_events}, Packets.{is_exclude, to_exclude}, Words.{advance, frame}}}

-- the same router that asks every 10 s, for responses within 1 s
abbrev pub quick : Config
quick = record base { query_interval = 10; query_response_interval = 10 }

-- every 12 s, for responses within 11 s
abbrev pub patient : Config
patient = record base { query_interval = 12; query_response_interval = 110 }

abbrev pub opened : List Given
opened = map Given.Happening opening_events

-- the host joins
abbrev pub joins : Event
joins = frame 2 to_exclude

-- ---- in time

abbrev pub before : State
before = state_given (opening base) opened

-- time passes to 1.5 s after the query that leaves at a timestamp, and the host answers it; and so on, every 10 s
abbrev pub answered_from : ℕ → ℕ → List Given
answered_from zero at = []
answered_from (suc n) at =
    Given.Happening (advance (at + 1500)) ∷ Given.Happening (frame 2 is_exclude) ∷ answered_from n (at + 10000)

-- The reload comes at 5 s. The next query, which was to leave at 31.25 s, leaves at 15 s, and 30 more follow.
abbrev pub later : List Given
later = Given.Happening (advance 5000) ∷ Given.Reload quick 7 ∷ answered_from 31 15000

abbrev pub kept : State
kept = state_given (step before joins).state later

-- the premises, where answers take a second to be delivered
pub record MemberAnswers : Type 0 where
  pub led : IsLedTo base opened before
  pub accepted : AreAccepted (step before joins).state later
  pub reported : IsReported 1000 2 group before joins
  pub answered : is_answered 1000 2 group (ForQuery (margin before.settings)) (step before joins).state later ≡ true

-- 316.5 s after the opening the record is there
abbrev pub MemberIsKept : Type 0
MemberIsKept = (kept.present ≡ 316500) × (local_receiver_star kept group 2 ≡ true)

-- ---- too late

-- A router that asks every 10 s. A second startup query leaves 2.5 s after the opening, and the host joins: its record lasts
-- until 23.5 s. The next query leaves at 12.5 s.
abbrev pub asked : State
asked = state_given (opening quick) (map Given.Happening opening_events)

abbrev pub joined : State
joined = state_given asked (Given.Happening (advance 2500) ∷ Given.Happening joins ∷ [])

-- It is to be answered by 23.5 s where answers take 10 s to be delivered, as long as the query interval: then nobody is
-- there any more.
abbrev pub SlowAnswersComeTooLate : Type 0
SlowAnswersComeTooLate =
    (answers_before 10000 joined.settings (margin joined.settings) ≡ false)
    × ((answers_before 9999 joined.settings (margin joined.settings) ≡ true)
    × ((is_answered 10000 2 group (ForQuery (margin joined.settings)) joined (Given.Happening (advance 23500) ∷ []) ≡ true)
    × (local_receiver_star (state_given joined (Given.Happening (advance 23500) ∷ [])) group 2 ≡ false)))

-- Or where a reload lets responses take 11 s, and they are delivered at once.
abbrev pub reloaded : State
reloaded = state_given joined (Given.Reload patient 7 ∷ [])

abbrev pub PatientQueriesComeTooLate : Type 0
PatientQueriesComeTooLate =
    (answers_still 0 reloaded.settings (ForQuery (margin joined.settings)) ≡ false)
    × ((answers_before 0 reloaded.settings (margin reloaded.settings) ≡ true)
    × ((is_answered 0 2 group (ForQuery (margin joined.settings)) reloaded (Given.Happening (advance 23500) ∷ []) ≡ true)
    × (local_receiver_star (state_given reloaded (Given.Happening (advance 23500) ∷ [])) group 2 ≡ false)))
