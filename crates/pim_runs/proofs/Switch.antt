-- The premises, computed.
use Rattle.std.proofs.Common.{◌≡◌, Ok, false, true, refl, lit≤}
use Rattle.pim_runs.{specs.{ServedChain.{asked_group, sender}, Switch.{StreamChangesTree, asked, first_on_source, meets, on_shared, on_source, still_shared, switched, switching}}, proofs.OnLiterals.machine_on_literals}
use Rattle.pim_model.{specs.Limits.config_test}
use Rattle.law_settled.{specs.Ready.IsSettled, proofs.Steps.{run_is_settled, step_is_settled}}
use Rattle.law_streams.{specs.Passing.{Passes, Receiver, Tree, any_ends_passing, ends_passing, has_expired, has_moved, is_lost, membership_ends}, proofs.Passing.{none_ends, stays_settled}}

accepted : config_test switching ≡ Ok tt
unfolding machine_on_literals
accepted = refl

asked_settled : IsSettled asked
asked_settled = run_is_settled switching meets accepted

shared : Passes Tree.Shared Receiver.Host asked asked_group sender 1 0
unfolding machine_on_literals
shared = record {
  settled = asked_settled;
  matched = tt;
  comes_in = record { configured = lit≤ tt; is_up = refl; foreign = refl; on = record { on_tree = refl; source_too = refl } };
  goes_out = record { configured = lit≤ tt; group = refl; source = refl; wanted = refl };
  room = refl;
  on = refl;
}

source : Passes Tree.Source Receiver.Host switched asked_group sender 2 0
unfolding machine_on_literals
source = record {
  settled = step_is_settled still_shared first_on_source (stays_settled asked on_shared asked_settled);
  matched = tt;
  comes_in = record { configured = lit≤ tt; is_up = refl; foreign = refl; on = refl };
  goes_out = record { configured = lit≤ tt; group = refl; source = refl; wanted = refl };
  room = refl;
  on = refl;
}

stays : any_ends_passing Tree.Shared Receiver.Host asked on_shared asked_group sender 1 0 ≡ false
unfolding machine_on_literals any_ends_passing ends_passing has_expired has_moved is_lost membership_ends
stays = refl

ends : ends_passing Tree.Shared Receiver.Host still_shared first_on_source asked_group sender 1 0 ≡ true
unfolding machine_on_literals any_ends_passing ends_passing has_expired has_moved is_lost membership_ends
ends = refl

goes_on : any_ends_passing Tree.Source Receiver.Host switched on_source asked_group sender 2 0 ≡ false
unfolding machine_on_literals any_ends_passing ends_passing has_expired has_moved is_lost membership_ends
goes_on = refl

pub stream_changes_tree : StreamChangesTree
stream_changes_tree = record {
  shared = shared;
  stays = none_ends Tree.Shared Receiver.Host asked on_shared asked_group sender 1 0 stays;
  ends = ends;
  source = source;
  goes_on = none_ends Tree.Source Receiver.Host switched on_source asked_group sender 2 0 goes_on;
}
