use Rattle.pim_reloader.{proofs.Leaving.goodbye_packet}
use Rattle.pim_reloader.proofs.addresses.goodbye.Goals as goal

pub returns : goal.returns
returns c =
    goodbye_packet c.args.world.now c.args.iface.number c.address-source.result.bits _ _ _ c.from_vec-bytes.ensures
    c.in_ok-write_pim_packet.ensures.ok c.new-packet.ensures.items c.address-source.ensures
