use Rattle.std.{proofs.Common.{ap, arith, rules}}
use Rattle.pim_model.{specs.Tables.Table}
use Rattle.igmp_older.{specs.{Presence.{Present, heard_on, row_heard}, declared.mode.PresentRow.PresentRow}, proofs.Quieted.{any_quiet, filter_map_pairs}}
use Rattle.igmp_older.proofs.presence.Presence.keep_heard.Goals as goal

pub invariant_of-self : goal.invariant_of-self
invariant_of-self c = (
  omega (arith, c.retain.ensures.bound, (c.self.invariant).0),
  any_quiet c.retain.new.self.entries,
)

pub returns : goal.returns
unfolding heard_on
returns c = rw (← c.self.view_is)
    (let limit = c.self.inside.limit in
    let hosts = c.self.inside.hosts.items in
    ap (λ (rows : Table PresentRow). let p : Present = record { rows = rows; limit = limit; hosts = hosts } in p)
    (filter_map_pairs _ (row_heard c.args.iface.number c.args.hosts) _ (λ k v b w f' t. search rules) _ _ c.retain.ensures.filtered))
