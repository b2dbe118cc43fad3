-- A list of interfaces without its first one, computed.
use Rattle.std.{proofs.Common.{◌≡◌, Ok, refl}}
use Rattle.pim_model.{specs.Limits.config_test}
use Rattle.law_states.{specs.{Reload.config_of, Reloading.{asserts_under, goodbyes, hellos_anew, is_won_before, leaves_address, queriers_under, replaced, says_same, tells_anew, under}, Placing.{are_places, gone_on, in_order, index_of, is_kept, is_left_out, is_new, is_resubnetted, moved, new_order, number_at, old_order, placed_under, reload_by, resubnetted, to_order, without_neighbours}, History.{past_given, state_given}}, proofs.Asked.call_is_asked}
use Rattle.pim_runs.{specs.{Words.frame, ServedChain.sent_packet, Switch.switching, Placed.{CauseHasOldNumber, PlacedCopyIsAskedFor, PlacesLead, StreamGoesOn, left, with_one_before, without_it}}, proofs.OnLiterals.machine_on_literals}

accepted : config_test with_one_before ≡ Ok tt
unfolding machine_on_literals
accepted = refl

accepted_without : config_test switching ≡ Ok tt
unfolding machine_on_literals
accepted_without = refl

pub places_lead : PlacesLead
unfolding machine_on_literals are_places
places_lead = record { accepted = accepted; reloads = (accepted_without, refl, tt); led = refl }

pub stream_goes_on : StreamGoesOn
unfolding machine_on_literals state_given reload_by moved placed_under without_neighbours gone_on in_order old_order new_order to_order is_kept is_left_out is_new index_of number_at is_resubnetted resubnetted config_of replaced under queriers_under asserts_under is_won_before goodbyes leaves_address hellos_anew says_same tells_anew
stream_goes_on = refl

pub cause_has_old_number : CauseHasOldNumber
unfolding machine_on_literals past_given
cause_has_old_number = (refl, refl)

pub placed_copy_is_asked_for : PlacedCopyIsAskedFor
placed_copy_is_asked_for = call_is_asked with_one_before without_it left (frame 1 sent_packet) places_lead
