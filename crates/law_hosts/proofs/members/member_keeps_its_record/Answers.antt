use Rattle.law_hosts.{proofs.RecordsKept.member_keeps_its_record}
use Rattle.law_hosts.proofs.members.member_keeps_its_record.Goals as goal

pub returns : goal.returns
returns c = member_keeps_its_record
