-- What the lab knows of a router's configuration, and of its older hosts at the beginning.
use Rattle.std.{specs.Prelude.{List, map, ◌++◌}}
use Rattle.pim_ip.{specs.declared.addr.Addr.Addr}
use Rattle.pim_types.{specs.declared.config.Config.Config}
use Rattle.igmp_older.{specs.{Laws.none_known, Presence.Present, declared.setting.OlderHosts.OlderHosts}}

-- the addresses of the interfaces, and then those of no interface
abbrev pub own_addresses : Config → List Addr
own_addresses c = map (λ i. i.address) c.interfaces ++ c.addresses

-- nobody is known yet behind the configuration, and such hosts are heard on each interface
abbrev pub nobody_behind : Config → OlderHosts → Present
nobody_behind c hosts = none_known c.limit (map (λ _. hosts) c.interfaces)
