-- The premises, computed.
use Rattle.std.proofs.Common.{◌≡◌, Ok, refl}
use Rattle.pim_model.{specs.Limits.config_test}
use Rattle.law_plane.{specs.Keeping.{keep, keepalive_end, kept_until}}
use Rattle.law_states.{specs.{Reloading.{asserts_under, goodbyes, hellos_anew, is_won_before, leaves_address, queriers_under, reload, removals, replaced, says_same, tells_anew, under}, History.{IsLedTo, state_given}}, proofs.Asked.call_is_asked}
use Rattle.pim_runs.{specs.{Words.frame, ServedChain.sent_packet, Switch.switching, History.{CopyIsMade, CopyIsAskedFor, HistoryLeads, before, smaller, then}}, proofs.OnLiterals.machine_on_literals}

accepted : config_test switching ≡ Ok tt
unfolding machine_on_literals
accepted = refl

accepted_smaller : config_test smaller ≡ Ok tt
unfolding machine_on_literals
accepted_smaller = refl

led : IsLedTo switching before then
led = record { accepted = accepted; reloads = (accepted_smaller, tt); led = refl }

pub history_leads : HistoryLeads
unfolding machine_on_literals state_given keep keepalive_end kept_until reload replaced removals under queriers_under asserts_under is_won_before goodbyes leaves_address hellos_anew says_same tells_anew
history_leads = record { led = led; kept = refl }

pub copy_is_made : CopyIsMade
unfolding machine_on_literals state_given keep keepalive_end kept_until reload replaced removals under queriers_under asserts_under is_won_before goodbyes leaves_address hellos_anew says_same tells_anew
copy_is_made = refl

pub copy_is_asked_for : CopyIsAskedFor
copy_is_asked_for = call_is_asked switching before then (frame 1 sent_packet) led
