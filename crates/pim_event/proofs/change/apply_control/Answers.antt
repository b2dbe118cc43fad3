use Rattle.std.{proofs.Common.{OnOk, subst, sym, true, ◌≡◌, ◌∙◌}}
use Rattle.pim_downstream.{proofs.OnInterface.{joined_on, pruned_on}, specs.Naming.are_on}
use Rattle.pim_mrib.{specs.Routes.RouteTable}
use Rattle.pim_model.{specs.Step.{change, rps_replaced}}
use Rattle.pim_plan.{specs.{Acting.control_event, declared.act.Control.Control}}
use Rattle.pim_event.{specs.Replacing.replaced_after, proofs.Acts.{seen_heard, to_me_changes, to_me_heard}}
use Rattle.pim_event.proofs.change.apply_control.Goals as goal

pub take_changes-requires-clause-joined : goal.take_changes-requires-clause-joined
take_changes-requires-clause-joined c =
    subst (λ ks. are_on c.in-JoinPruneToMe.iface.number ks ≡ true)
    (sym (to_me_heard c.args.world.now c.args.control _ _ _ _ c.in-JoinPruneToMe.is c.requires.heard).joins)
    (joined_on c.in-JoinPruneToMe.iface.number c.args.world.now c.in-JoinPruneToMe.message)

pub take_changes-requires-clause-pruned : goal.take_changes-requires-clause-pruned
take_changes-requires-clause-pruned c =
    subst (λ ks. are_on c.in-JoinPruneToMe.iface.number ks ≡ true)
    (sym (to_me_heard c.args.world.now c.args.control _ _ _ _ c.in-JoinPruneToMe.is c.requires.heard).prunes)
    (pruned_on c.in-JoinPruneToMe.iface.number c.in-JoinPruneToMe.message)

pub take_changes-requires-clause-changes : goal.take_changes-requires-clause-changes
take_changes-requires-clause-changes c =
    c.deref.ensures.value
    ∙ to_me_changes c.args.world.now c.args.control _ _ _ _ c.in-JoinPruneToMe.is c.requires.heard _
    c.holdtime.ensures

pub seen-requires-clause-joined : goal.seen-requires-clause-joined
seen-requires-clause-joined c =
    (seen_heard c.args.world.now c.args.control _ _ _ c.in-JoinPruneSeen.is c.requires.heard).joins

pub seen-requires-clause-pruned : goal.seen-requires-clause-pruned
seen-requires-clause-pruned c =
    (seen_heard c.args.world.now c.args.control _ _ _ c.in-JoinPruneSeen.is c.requires.heard).prunes

pub returns-in-Routes-clause-state : goal.returns-in-Routes-clause-state
unfolding change
returns-in-Routes-clause-state c =
    subst (λ (x : Control). c.take_routes.new.world
    ≡ (change c.args.world.now c.args.turn.now.draw (control_event x)).state)
    (sym c.in-Routes.is)
    (subst (λ (t : RouteTable). c.take_routes.new.world ≡ record c.args.world.now { routes = t.routes }) c.into_inner.ensures
    c.take_routes.ensures.state)

pub returns-in-Ranges-clause-state : goal.returns-in-Ranges-clause-state
unfolding change
returns-in-Ranges-clause-state c =
    subst (λ (x : Control). OnOk c.take_ranges.result (c.take_ranges.new.world
    ≡ (change c.args.world.now c.args.turn.now.draw (control_event x)).state))
    (sym c.in-Ranges.is)
    (subst (λ (t : RouteTable). OnOk c.take_ranges.result (c.take_ranges.new.world
    ≡ rps_replaced c.args.world.now t.ranges)) c.into_inner-in-Ranges.ensures c.take_ranges.ensures.state)

pub returns-in-Routes-clause-replaced : goal.returns-in-Routes-clause-replaced
returns-in-Routes-clause-replaced c =
    subst (λ (x : Control). c.take_routes.new.replaced
    ≡ replaced_after c.args.world.now (control_event x) c.args.replaced.now)
    (sym c.in-Routes.is) c.take_routes.ensures.replaced

pub returns-in-Ranges-clause-replaced : goal.returns-in-Ranges-clause-replaced
returns-in-Ranges-clause-replaced c =
    subst (λ (x : Control). OnOk c.take_ranges.result (c.take_ranges.new.replaced
    ≡ replaced_after c.args.world.now (control_event x) c.args.replaced.now))
    (sym c.in-Ranges.is) c.take_ranges.ensures.replaced
