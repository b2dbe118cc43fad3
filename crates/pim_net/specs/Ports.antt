-- Ports: for each router one for each of its interfaces, and one for unicasts.
use Rattle.std.{specs.Prelude.{List, [], length, ℕ, ◌+◌, ◌∷◌}}
use Rattle.pim_net.{specs.declared.node.Node.Node}

-- the first ports of these routers, counted on from a port
unfoldable pub ports_from : ℕ → List Node → List ℕ
ports_from port [] = []
ports_from port (n ∷ ns) = port ∷ ports_from (port + (length n.links + 1)) ns

-- the first ports of all routers of a network
abbrev pub first_ports : List Node → List ℕ
first_ports nodes = ports_from 0 nodes
