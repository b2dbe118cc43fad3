-- The premises, computed.
use Rattle.std.{proofs.Common.{◌≡◌, [], ◌∷◌, Ok, refl}}
use Rattle.pim_model.{specs.Limits.config_test}
use Rattle.law_plane.{specs.Keeping.{keep, keepalive_end, kept_until}}
use Rattle.law_states.{specs.{Documented.{AreRight, act, acted, before, given, is_for_core, plane_at_opening}, Guests.{guest_handled, guest_of}, Kept.{kept_core, kept_time, told_note, told_notes}}}
use Rattle.igmp_older.{specs.declared.setting.OlderHosts.OlderHosts}
use Rattle.law_hosts.{specs.Behind.{act_given, before_event, after_notes, fronted, fronted_after, plain_behind}, proofs.PlanesBehind.plain_acts_behind_are_right}
use Rattle.pim_runs.{specs.{Switch.switching, Behind.{HostBehindPlane, behind, reported_again}}, proofs.{OlderHost.front_on_literals, OnLiterals.machine_on_literals, SplitLiterals.split_on_literals}}

accepted : config_test switching ≡ Ok tt
unfolding machine_on_literals
accepted = refl

right : AreRight (plane_at_opening switching) (behind reported_again).0
right = (plain_acts_behind_are_right switching 100 (OlderHosts.All ∷ []) reported_again accepted).0

pub host_behind_plane : HostBehindPlane
unfolding split_on_literals machine_on_literals act acted before given is_for_core guest_handled guest_of kept_core kept_time told_note told_notes keep keepalive_end kept_until act_given before_event after_notes fronted fronted_after plain_behind front_on_literals
host_behind_plane = record { owes = refl; tells = refl; knows = refl; right = right }
