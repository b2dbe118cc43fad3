-- What a message makes of the cases of a record.
use Rattle.std.{specs.Prelude.{Bool, List, Option, Some, [], filter, if◌then◌else◌, map}}
use Rattle.pim_filters.{specs.{Asking.asked_in_order, Members.{bits_of, source_state_of}, Rules.{asks_group, asks_sources, source_state_after, is_asked}, declared.{case.Case.Case, rule.Rule.Rule}}}
use Rattle.pim_model.{specs.Records.{Asked, Member, member_of}}

abbrev pub entry_after : Rule → Case → Option Member
entry_after rule c =
    member_of c.source.bits (source_state_after rule.full rule.timer rule.record_type (source_state_of c.before) c.named)

abbrev pub is_case_asked : Rule → Case → Bool
is_case_asked rule c = is_asked rule.timer rule.record_type (source_state_of c.before) c.named

abbrev pub asked_after : Rule → List Case → List Asked
asked_after rule cs =
    if asks_sources rule.record_type
    then asked_in_order (Some (bits_of (map (λ c. c.source) (filter (is_case_asked rule) cs)))) (asks_group rule.timer rule.record_type)
    else []
