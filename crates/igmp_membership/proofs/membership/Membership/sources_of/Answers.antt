use Rattle.std.{proofs.Common.{◌||◌, ap, ◌∙◌}, specs.List.list_any}
use Rattle.pim_types.{specs.Keys.{addr_cmp, names_source}}
use Rattle.pim_model.{specs.Tables.keys_in}
use Rattle.igmp_membership.{proofs.Found.{all_sources, both_gathered}, specs.MembershipTables.MembershipTables}
use Rattle.igmp_membership.proofs.membership.Membership.sources_of.Goals as goal

pub returns : goal.returns
unfolding addr_cmp
returns c =
    all_sources c.args.group.bits c.args.self.now c.gather_sources-2.new.found.entries c.proof_keyed.ensures.records
    c.proof_keyed.ensures.group_repeats c.proof_keyed.ensures.source_repeats c.len.ensures.ordered (λ n.
    both_gathered c.args.group.bits c.self.inside.source_records c.self.inside.sendings c.new-found.result.entries
    c.gather_sources.new.found.entries c.gather_sources-2.new.found.entries c.new-found.ensures.empty
    c.in_ok-gather_sources.ensures c.in_ok-gather_sources-2.ensures n
    ∙ ap (λ (m : MembershipTables). list_any (names_source c.args.group.bits n) (keys_in m.source_records)
    || list_any (names_source c.args.group.bits n) (keys_in m.sendings)) c.self.view_is)
