-- The premises, computed.
use Rattle.std.{proofs.Common.{◌≡◌, ◌==◌, [], ◌∷◌, false, lit<, refl, subst}}
use Rattle.pim_anycast.{specs.{Sets.{set_for, set_sharing}, declared.set.RpSet.RpSet}}
use Rattle.pim_model.{specs.{Step.step, Unicast.route}}
use Rattle.pim_msdp.{specs.Actives.{active_message, active_text, given_active, is_connected, is_packet_of}, proofs.Taking.{active_is_known, active_is_taken, link_local_is_ignored, none_sent_back, other_address_is_ignored, other_rp_changes_nothing, sets_leave_actives}}
use Rattle.pim_runs.{specs.{Anycast.{first_own, first_set, shared}, Words.unicast}, proofs.OnLiterals.machine_on_literals}
use Rattle.law_converges.{specs.SourceActiveRun.{ActiveComes, ActiveRegisters, ActiveIsNotSentBack, OtherActivesAreIgnored, OtherActivesCome, SetLeavesActive, ActiveMakesKnown, bytes, elsewhere, group, link_group, peer, rp, source, text}}

pub active_comes : ActiveComes
unfolding machine_on_literals active_message active_text given_active is_connected is_packet_of set_for set_sharing
active_comes = record {
  addresses = record { peer_host = refl; rp_fits = lit< tt; source_host = refl; multicast = refl };
  learns = record { own = refl; for_it = refl; forwarded = refl; wanted = refl; room = refl };
  packet = refl;
  given = refl;
  apart = λ set is. let same : first_set ≡ set = cc is in subst (λ (x : RpSet). (shared == x.own.bits) ≡ false) same refl;
}

pub active_registers : ActiveRegisters
active_registers = active_is_taken rp peer shared group source bytes (active_comes).addresses ((active_comes).learns).own

pub active_makes_known : ActiveMakesKnown
active_makes_known = active_is_known rp peer shared group source 0 bytes (active_comes).addresses (active_comes).learns

pub set_leaves_active : SetLeavesActive
set_leaves_active = sets_leave_actives (first_set ∷ []) (rp).ranges peer shared group source bytes (active_comes).addresses (active_comes).apart

same_route : route (step rp (unicast text)).state source ≡ route rp source
unfolding machine_on_literals active_message active_text is_packet_of
same_route = refl

pub active_is_not_sent_back : ActiveIsNotSentBack
active_is_not_sent_back =
    none_sent_back rp (step rp (unicast text)).state peer shared group source bytes text (active_comes).addresses (active_comes).given
    same_route

pub other_actives_come : OtherActivesCome
unfolding machine_on_literals
other_actives_come = record {
  elsewhere_addresses = record { peer_host = refl; rp_fits = lit< tt; source_host = refl; multicast = refl };
  elsewhere_not_own = refl;
  link_addresses = record { peer_host = refl; rp_fits = lit< tt; source_host = refl; multicast = refl };
  own = refl;
  not_rp = refl;
}

pub other_actives_are_ignored : OtherActivesAreIgnored
other_actives_are_ignored = record {
  elsewhere_ignored = other_address_is_ignored rp peer elsewhere group source bytes (other_actives_come).elsewhere_addresses
      (other_actives_come).elsewhere_not_own;
  link_ignored = link_local_is_ignored rp peer shared link_group source [] (other_actives_come).link_addresses (other_actives_come).own refl;
  nothing_changes = other_rp_changes_nothing rp peer first_own group source bytes false (other_actives_come).not_rp;
}
