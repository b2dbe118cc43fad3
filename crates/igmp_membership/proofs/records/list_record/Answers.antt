use Rattle.std.{proofs.Common.{Bool, Some, subst}, specs.Prelude.OnOk}
use Rattle.pim_types.{specs.{declared.fact.Key.Key, Keys.iface_in}}
use Rattle.igmp_membership.{proofs.Told.key_again, specs.Listing.{Lists, record_key}}
use Rattle.igmp_membership.proofs.records.list_record.Goals as goal

pub returns-clause-ok : goal.returns-clause-ok
returns-clause-ok g c =
    subst (λ (k : Key). OnOk c.list.result (Lists c.args.index.now c.list.new.self k (Some (g.R.Record.runs c.args.row))))
    (key_again c.args.key c.requires)
    (subst (λ (b : Bool). OnOk c.list.result
    (Lists c.args.index.now c.list.new.self (record_key (iface_in c.args.key) c.args.key.group c.args.key.source) (Some b)))
    c.is_running.ensures c.list.ensures.ok)
