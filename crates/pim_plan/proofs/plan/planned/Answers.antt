use Rattle.std.{proofs.Common.{subst, sym, ◌∙◌}}
use Rattle.pim_model.{specs.{declared.accepted.Accepted.Accepted}}
use Rattle.pim_plan.{specs.{Naming.Brings}, proofs.{Plans.planned_of, Tables.{holds, is_there}}}
use Rattle.pim_plan.proofs.plan.planned.Goals as goal

pub returns-in-Up : goal.returns-in-Up
returns-in-Up c =
    planned_of c.args.world.now c.args.accepted (Accepted.Up c.in-Up.iface) c.plan_up.result c.in-Up.is c.plan_up.ensures

pub returns-in-Down : goal.returns-in-Down
returns-in-Down c =
    planned_of c.args.world.now c.args.accepted (Accepted.Down c.in-Down.iface) c.plan_down.result c.in-Down.is
    c.plan_down.ensures

pub plan_routes-requires : goal.plan_routes-requires
plan_routes-requires c =
    holds _ c.args.table _ _ (subst (λ (a : Accepted). Brings a c.args.table) c.in-Routes.is c.requires.table) c.unwrap.ensures
    ∙ sym c.as_slice.ensures

pub plan_rps-requires : goal.plan_rps-requires
plan_rps-requires c =
    holds _ c.args.table _ _ (subst (λ (a : Accepted). Brings a c.args.table) c.in-Rps.is c.requires.table)
    c.unwrap-in-Rps.ensures

pub unwrap-requires : goal.unwrap-requires
unwrap-requires c = is_there _ c.args.table _ (subst (λ (a : Accepted). Brings a c.args.table) c.in-Routes.is c.requires.table)
