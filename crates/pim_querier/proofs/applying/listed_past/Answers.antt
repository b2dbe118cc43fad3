use Rattle.std.{proofs.Common.{ap, sym, subst, ◌∙◌}}
use Rattle.pim_filters.{specs.Members.{IsAscending, is_named_source, member_entries}}
use Rattle.pim_querier.{proofs.{LateSources.{late_members, late_rise}, Looking.{if_ok, listed_past_are}}}
use Rattle.pim_querier.proofs.applying.listed_past.Goals as goal

pub returns-clause-members : goal.returns-clause-members
returns-clause-members c =
    let s = c.args.world.now in
    let i = c.args.place.iface.number in
    let g = c.args.place.group.bits in
    if_ok c.past.result
    (λ late e. e ∙ ap (λ ms. late_members c.args.moment (member_entries ms)) c.deref-2.ensures.value
    ∙ listed_past_are s i g c.args.looked.now.end c.args.moment c.args.looked.now.groups.items c.args.looked.now.late.items
    c.in_ok-listed.listed.items c.in_ok-sources.sources.keys (member_entries c.in_ok-members.members.items)
    c.requires.listed c.requires.known (rw c.membership.ensures at c.proof_keyed_source_records.ensures)
    (rw (rw c.membership-2.ensures at c.source_records_at.ensures.rows) at c.source_records_at.ensures.rising)
    c.in_ok-listed.ensures (λ n. c.in_ok-sources.ensures n ∙ ap (is_named_source n) c.deref.ensures.value)
    c.in_ok-members.ensures.members c.in_ok-members.ensures.ascending)
    c.past.ensures

pub returns-clause-ascending : goal.returns-clause-ascending
returns-clause-ascending c =
    if_ok c.past.result
    (λ late e. subst IsAscending
    (sym (e ∙ ap (λ ms. late_members c.args.moment (member_entries ms)) c.deref-2.ensures.value))
    (late_rise c.args.moment (member_entries c.in_ok-members.members.items) c.in_ok-members.ensures.ascending))
    c.past.ensures
