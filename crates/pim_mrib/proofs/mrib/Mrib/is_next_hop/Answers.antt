use Rattle.std.{proofs.Common.{ap, ◌==◌, ◌∙◌}, specs.List.list_any}
use Rattle.pim_types.{specs.declared.config.Route.Route}
use Rattle.pim_mrib.{specs.Routes.RouteTable}
use Rattle.pim_mrib.proofs.mrib.Mrib.is_next_hop.Goals as goal

pub returns : goal.returns
returns c =
    c.contains.ensures ∙ c.self.invariant.1 c.args.address
    ∙ ap (λ (t : RouteTable). list_any (λ (r : Route). r.next_hop.bits == c.args.address.bits) t.routes) c.self.view_is
