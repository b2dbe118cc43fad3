use Rattle.std.{proofs.{Common.{List, ap, refl, ◌==◌, ◌∙◌}, lemmas.List.take_all}, specs.{List.list_any, Ordering.{is_eq, nat_cmp}}}
use Rattle.pim_ip.{specs.declared.addr.Addr.Addr}
use Rattle.pim_types.{specs.declared.config.Route.Route}
use Rattle.pim_mrib.{proofs.Hops.next_hop}
use Rattle.pim_mrib.proofs.mrib.next_hops.Goals as goal

pub loop-route-init : goal.loop-route-init
loop-route-init c = λ q. ap (λ (hops : List Addr). list_any (λ a. is_eq (nat_cmp q.bits a.bits)) hops) c.new-hops.ensures.empty

pub loop-route-preserved : goal.loop-route-preserved
loop-route-preserved c =
    next_hop c.args.routes.now c.loop-route.hops.keys c.insert.new.self.keys c.loop-route.route-index _ _
    c.loop-route-test.true refl c.in_ok-insert.ensures.updates.0 c.loop-route.invariant

pub returns : goal.returns
returns c = λ q.
    c.loop-route.invariant q
    ∙ ap (λ (rs : List Route). list_any (λ (r : Route). r.next_hop.bits == q.bits) rs)
    (take_all c.loop-route.route-index c.args.routes.now c.loop-route-test.false)
