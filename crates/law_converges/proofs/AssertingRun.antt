-- The premises, computed.
use Rattle.std.{proofs.Common.{Some, refl, true, ◌≡◌}}
use Rattle.pim_ip.{specs.{Addr.addr, Ipv4.packet_of}}
use Rattle.pim_model.{specs.{Cause.done_as, Sets.metric_of, declared.accepted.Accepted.Accepted}}
use Rattle.law_streams.{specs.{Copies.happens, Joins.join_packet, Served.renewed}}
use Rattle.pim_runs.{proofs.OnLiterals.machine_on_literals, specs.{Base.group, Packets.packet, Words.address}}
use Rattle.law_converges.{proofs.Asserting.{duplicate_is_answered, inferior_is_answered}, specs.{AssertingRun.{ClaimIsWorse, NearerAsserts, PacketIsDuplicate, claims, comes, joined}, LinkAsserts.said}}

pub packet_is_duplicate : PacketIsDuplicate
unfolding machine_on_literals join_packet renewed
packet_is_duplicate = record { off_source = refl; off_group = refl; listed = refl; could = refl; none = refl }

is_taken : done_as (happens joined comes) ≡ Some (Accepted.Data (record { number = 1 }) (packet_of packet))
unfolding machine_on_literals join_packet
is_taken = refl

pub claim_is_worse : ClaimIsWorse
unfolding machine_on_literals join_packet
claim_is_worse = record { taken = refl; about = refl; none = refl; could = refl; inferior = refl }

pub nearer_asserts : NearerAsserts
unfolding machine_on_literals join_packet renewed
nearer_asserts = (
  duplicate_is_answered joined comes (record { number = 1 }) (packet_of packet) is_taken packet_is_duplicate,
  inferior_is_answered joined claims (record { number = 1 }) (addr (address 10 0 1 2)) (said group 0 (metric_of true 110 21 (address 10 0 1 2)))
      claim_is_worse,
  refl,
)
