-- What a view of a Register keeps.
use Rattle.pim_wire.{specs.declared.register.Content.{Content, TheVariants.{Packet, Null}}}
use Rattle.pim_wire.specs.Values as values

abbrev pub register_from : Content → values.Register
register_from (Packet packet) = values.Encapsulated packet
register_from (Null source group) = values.Null source.bits group.bits
