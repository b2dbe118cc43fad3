-- Computed.
use Rattle.std.{proofs.Common.{◌≡◌, Ok, refl}}
use Rattle.pim_model.{specs.Limits.config_test}
use Rattle.pim_runs.{specs.{History.smaller, Switch.switching, Plane.{PlaneGoesOn, PlaneOwesANote, made_again, told_after}}, proofs.{OnLiterals.machine_on_literals, SplitLiterals.split_on_literals}}
use Rattle.law_states.{specs.{Reloading.{asserts_under, goodbyes, hellos_anew, is_won_before, leaves_address, queriers_under, reload, removals, replaced, says_same, tells_anew, under}, Anew.{plain_stages, stage, staged}, Documented.{act, acted, before, given, is_for_core, plain_acts}, Guests.{guest_handled, guest_of}, Kept.{kept_core, kept_time, told_note, told_notes}}, proofs.{Anew.plain_stages_are_right, DocumentedPlanes.plain_acts_are_right}}
use Rattle.law_plane.{specs.Keeping.{keep, keepalive_end, kept_until}}

accepted_smaller : config_test smaller ≡ Ok tt
unfolding machine_on_literals
accepted_smaller = refl

accepted : config_test switching ≡ Ok tt
unfolding machine_on_literals
accepted = refl

pub plane_owes_a_note : PlaneOwesANote
unfolding split_on_literals machine_on_literals act acted before given is_for_core plain_acts guest_handled guest_of kept_core kept_time told_note told_notes keep keepalive_end kept_until
plane_owes_a_note = record { owes = refl; tells = refl; right = (plain_acts_are_right switching told_after accepted).0 }

pub plane_goes_on : PlaneGoesOn
unfolding split_on_literals machine_on_literals stage staged plain_stages act acted before given is_for_core plain_acts guest_handled guest_of kept_core kept_time told_note told_notes keep keepalive_end kept_until reload replaced removals under queriers_under asserts_under is_won_before goodbyes leaves_address hellos_anew says_same tells_anew
plane_goes_on = record {
  reloaded = refl;
  restored = refl;
  right = plain_stages_are_right switching made_again accepted (accepted_smaller, (refl, tt));
}
