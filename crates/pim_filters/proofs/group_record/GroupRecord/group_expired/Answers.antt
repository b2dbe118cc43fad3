use Rattle.std.{proofs.Common.{ap, sym, subst, ◌∙◌, None, false, nat_lt}, specs.Option.option_map_or}
use Rattle.pim_filters.{specs.Members.{IsAscending, member_entries}, proofs.Members.{IsAscending-filter, entries_of-filter}}
use Rattle.pim_model.specs.Records as records
use Rattle.pim_filters.proofs.group_record.GroupRecord.group_expired.Goals as goal

pub invariant_of-self : goal.invariant_of-self
invariant_of-self c =
    let stays = λ (e : records.Member). option_map_or (nat_lt c.args.now) e.1 false in
    let kept = ap member_entries c.keep_running.ensures ∙ entries_of-filter stays c.self.inside.members.items in
    subst IsAscending (sym kept) (IsAscending-filter stays _ c.self.invariant)

pub returns : goal.returns
unfolding records.group_expired
returns c =
    let stays = λ (e : records.Member). option_map_or (nat_lt c.args.now) e.1 false in
    let kept = ap member_entries c.keep_running.ensures ∙ entries_of-filter stays c.self.inside.members.items in
    ap (λ es. record { timer = None; members = es }) kept ∙ ap (records.group_expired c.args.now) c.self.view_is
