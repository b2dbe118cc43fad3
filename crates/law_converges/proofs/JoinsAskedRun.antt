-- What is sent, and who asks for it, computed.
use Rattle.std.{proofs.Common.{lit<, refl}}
use Rattle.pim_runs.{proofs.OnLiterals.machine_on_literals}
use Rattle.law_streams.{specs.Joins.join_packet}
use Rattle.law_converges.{specs.JoinsAskedRun.{JoinIsPassedOn, ReportIsJoined}}

pub report_is_joined : ReportIsJoined
unfolding machine_on_literals join_packet
report_is_joined = (refl, record { iface = 0; configured = lit< tt; cause = λ src. refl })

pub join_is_passed_on : JoinIsPassedOn
unfolding machine_on_literals join_packet
join_is_passed_on = (refl, record { iface = 0; configured = lit< tt; cause = λ src. refl })
