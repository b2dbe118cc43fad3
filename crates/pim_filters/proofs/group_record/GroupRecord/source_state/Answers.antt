use Rattle.std.{proofs.Common.{ap, sym, ◌∙◌, Some, None}}
use Rattle.pim_filters.{specs.Members.source_state_of, proofs.Members.source_state_found}
use Rattle.pim_filters.proofs.group_record.GroupRecord.source_state.Goals as goal

pub returns-in-Some : goal.returns-in-Some
returns-in-Some c =
    ap source_state_of c.source_state.ensures ∙ sym (source_state_found c.args.self.now c.args.source.bits c.members.result.now (Some c.in-Some.member) c.members.ensures.members (sym c.in-Some.is ∙ c.member_of.ensures))

pub returns-in-None : goal.returns-in-None
returns-in-None c =
    sym (source_state_found c.args.self.now c.args.source.bits c.members.result.now None c.members.ensures.members (sym c.in-None.is ∙ c.member_of.ensures))
