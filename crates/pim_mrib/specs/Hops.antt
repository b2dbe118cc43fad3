-- The next hops of routes as a set of addresses.
use Rattle.std.{specs.{List.list_any, Ordering.{is_eq, nat_cmp}, Prelude.{List, ◌==◌, ◌≡◌}}}
use Rattle.pim_ip.{specs.declared.addr.Addr.Addr}
use Rattle.pim_types.{specs.declared.config.Route.Route}

-- the set has the next hops of the routes, and no other address
abbrev pub AreNextHops : List Route → List Addr → Type 0
AreNextHops routes hops =
    (q : Addr)
    → list_any (λ a. is_eq (nat_cmp q.bits a.bits)) hops ≡ list_any (λ (r : Route). r.next_hop.bits == q.bits) routes
