-- The premises, computed.
use Rattle.std.{proofs.Common.{◌≡◌, Ok, refl}, specs.Prelude.⊤}
use Rattle.igmp_wire.{specs.declared.report.RecordType.RecordType}
use Rattle.pim_model.{specs.{Limits.config_test}}
use Rattle.law_settled.{specs.Ready.IsSettled, proofs.Steps.{run_is_settled, step_is_settled}}
use Rattle.igmp_older.{specs.{Joined.{bytes_given, event_given, joined, joined_step, kind_given, known_after, known_if}, Modes.{mode_of, row_by}, Naming.{groups_named, groups_of_packet}, Older.{kind_of, older_reading}, Presence.{doubted, forgotten, hosts_on, left, live_rows, looked, mode_at, report_noted, row_after, timers_at}, Translation.{are_left_whole, kept_of, message_translated, older_translated, packet_given, packet_translated, records_left, report_translated, translation}}}
use Rattle.law_hosts.{specs.Held.AllMayHold, proofs.{Begins.older_begins, Held.run_keeps_held}}
use Rattle.pim_runs.{specs.{ServedChain.{asked_group, first, first_meets}, OlderHeld.{OlderHostBegins, OlderHostIsHeld, before, known, meanwhile, report_two, reports}}, proofs.OnLiterals.machine_on_literals}

-- One name under which the front's definitions compute, beside the machine's.
unfoldable pub front_on_literals : ⊤
unfolding bytes_given kind_given event_given known_after known_if joined_step joined mode_of row_by groups_of_packet
    groups_named kind_of older_reading hosts_on live_rows timers_at mode_at report_noted doubted forgotten row_after
    looked left packet_given older_translated kept_of records_left are_left_whole report_translated message_translated
    packet_translated translation
front_on_literals = tt

accepted : config_test first ≡ Ok tt
unfolding machine_on_literals
accepted = refl

settled_before : IsSettled before.state
settled_before = run_is_settled first first_meets accepted

settled_known : IsSettled known.state
unfolding joined_step
settled_known = step_is_settled before.state (event_given before reports) settled_before

pub older_host_begins : OlderHostBegins
unfolding machine_on_literals front_on_literals
older_host_begins =
    older_begins before 0 (record { number = 0 }) report_two _ _ asked_group refl refl refl refl refl refl

apart : RecordType.IsExclude ≡ RecordType.ToInclude → ⊥
apart e = cc

may_hold : AllMayHold 260000 0 asked_group known meanwhile
unfolding machine_on_literals front_on_literals
may_hold = (
  record { before = refl; whole = refl; kind = refl; taken = tt },
  (
    record { before = refl; whole = refl; kind = tt; taken = λ on. (λ same type. absurd (apart type), tt) },
    (record { before = refl; whole = refl; kind = refl; taken = tt }, tt),
  ),
)

pub older_host_is_held : OlderHostIsHeld
older_host_is_held = run_keeps_held 260000 0 asked_group known meanwhile settled_known older_host_begins may_hold
