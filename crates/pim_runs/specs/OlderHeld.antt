-- A host of version 2 reports to a router behind the front, and once more; then time passes to just before its time is over.
use Rattle.std.{specs.Prelude.{List, [], ℕ, ◌++◌, ◌∷◌}}
use Rattle.pim_types.{specs.declared.event.Event.Event}
use Rattle.pim_model.{specs.{State.opening, Step.state_after}}
use Rattle.igmp_older.{specs.{Joined.{FrontedRouter, joined, joined_step}, Laws.nobody_known, declared.setting.OlderHosts.OlderHosts}}
use Rattle.law_hosts.{specs.Held.IsHeld}
use Rattle.pim_runs.{specs.{Words.{advance, frame, hex}, ServedChain.{asked_group, first, first_meets}}}

-- a Version 2 Membership Report of 239.1.1.1 from 10.8.0.77, to the group, with Router Alert
abbrev pub report_two : List ℕ
report_two =
    hex "46 00 00 20 00 07 00 00 01 02 2a 7a 0a 08 00 4d ef 01 01 01 94 04 00 00"
    ++ hex "16 00 f9 fc ef 01 01 01"

abbrev pub before : FrontedRouter
before = nobody_known 100 (OlderHosts.All ∷ []) (state_after (opening first) first_meets)

abbrev pub reports : Event
reports = frame 0 report_two

abbrev pub known : FrontedRouter
known = (joined_step before reports).1

abbrev pub meanwhile : List Event
meanwhile = advance 100000 ∷ reports ∷ advance 259999 ∷ []

abbrev pub OlderHostBegins : Type 0
OlderHostBegins = IsHeld 260000 0 asked_group known

abbrev pub OlderHostIsHeld : Type 0
OlderHostIsHeld = IsHeld 260000 0 asked_group (joined known meanwhile).1
