use Rattle.std.{proofs.Common.{List, ap, ◌∙◌, ℕ}}
use Rattle.pim_saved.{specs.Crc.after_bytes}
use Rattle.pim_saver.{specs.Records.packet_text}
use Rattle.pim_saver.proofs.sent.with_emission.Goals as goal

pub returns-in-Link : goal.returns-in-Link
returns-in-Link c =
    rw c.in-Link.is
    (c.with_packet.ensures ∙ ap (λ (b : List ℕ). after_bytes c.args.register (packet_text 102 c.in-Link.iface.number b)) c.as_slice.ensures)

pub returns-in-Unicast : goal.returns-in-Unicast
returns-in-Unicast c =
    rw c.in-Unicast.is
    (c.with_packet-in-Unicast.ensures ∙ ap (λ (b : List ℕ). after_bytes c.args.register (packet_text 117 c.in-Unicast.destination.bits b)) c.as_slice-in-Unicast.ensures)
