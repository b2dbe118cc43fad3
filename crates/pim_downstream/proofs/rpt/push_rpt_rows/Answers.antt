use Rattle.std.{proofs.Common.{◌≡◌, ◌++◌, subst}, specs.Prelude.OnOk}
use Rattle.pim_model.{specs.{Downstream.rpt_rows_joined, Tables.keys_in}}
use Rattle.pim_downstream.{proofs.RptGroups.{rpt_keys_are, rpt_keys_of_one}}
use Rattle.pim_downstream.proofs.rpt.push_rpt_rows.Goals as goal

pub returns-in-Some : goal.returns-in-Some
unfolding rpt_rows_joined
returns-in-Some c =
    subst (λ ks. OnOk c.push_rpt_keys_at.result (c.push_rpt_keys_at.new.keys.items ≡ c.args.keys.now.items ++ ks))
    (rpt_keys_of_one c.args.iface.number c.args.joined.now (keys_in c.args.world.now.downstream) c.in-Some.group.bits
    c.in-Some.ensures) (rw c.store.ensures at c.push_rpt_keys_at.ensures)

pub returns : goal.returns
unfolding rpt_rows_joined
returns c =
    subst (λ ks. OnOk c.push_rpt_keys.result (c.push_rpt_keys.new.keys.items ≡ c.args.keys.now.items ++ ks))
    (rpt_keys_are c.args.iface.number c.args.joined.now (keys_in c.args.world.now.downstream)
    c.in_ok-groups.groups.keys c.in_ok-groups.ensures.joined) (rw c.store-2.ensures at c.push_rpt_keys.ensures)
