use Rattle.std.{proofs.Common.{ap, sym, subst, ◌∙◌}}
use Rattle.pim_filters.{specs.{Lowering.{member_lowered, sources_lowered}, Members.{IsAscending, bits_of, with_end_lowered}}, proofs.Members.{IsAscending-map, entries_of-write, entry_of-with_end_lowered, member_lowered-source}}
use Rattle.pim_filters.proofs.group_record.GroupRecord.lower_sources.Goals as goal

pub invariant_of-self : goal.invariant_of-self
invariant_of-self c =
    let named = bits_of c.args.sources.now in
    let entries = entries_of-write (with_end_lowered c.args.sources.now c.args.end) (member_lowered named c.args.end) (entry_of-with_end_lowered c.args.sources.now c.args.end) c.self.inside.members c.as_mut_slice.result.now c.lower.new.members c.as_mut_slice.ensures.value c.lower.ensures in
    subst IsAscending (sym entries) (IsAscending-map (member_lowered named c.args.end) (member_lowered-source named c.args.end) _ c.self.invariant)

pub returns : goal.returns
returns c =
    let named = bits_of c.args.sources.now in
    let entries = entries_of-write (with_end_lowered c.args.sources.now c.args.end) (member_lowered named c.args.end) (entry_of-with_end_lowered c.args.sources.now c.args.end) c.self.inside.members c.as_mut_slice.result.now c.lower.new.members c.as_mut_slice.ensures.value c.lower.ensures in
    ap (λ es. record { timer = c.self.inside.timer; members = es }) entries ∙ ap (sources_lowered named c.args.end) c.self.view_is
