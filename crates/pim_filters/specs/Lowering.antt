-- Timers of a group record lowered to a timestamp, where they run (RFC 3376, section 6.6.3).
use Rattle.std.{specs.Prelude.{List, if◌then◌else◌, map, ℕ}}
use Rattle.pim_model.{specs.{Querier.lowered, Records.{GroupRecord, Member}, Tables.is_among}}

abbrev pub group_lowered : ℕ → GroupRecord → GroupRecord
group_lowered end r = record r { timer = lowered end r.timer }

abbrev pub member_lowered : List ℕ → ℕ → Member → Member
member_lowered sources end m = if is_among m.0 sources then (m.0, lowered end m.1) else m

abbrev pub sources_lowered : List ℕ → ℕ → GroupRecord → GroupRecord
sources_lowered sources end r = record r { members = map (member_lowered sources end) r.members }
