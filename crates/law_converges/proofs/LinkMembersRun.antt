-- The premises, computed by their tests.
use Rattle.std.{proofs.Common.{◌≡◌, true, [], refl, lit<}}
use Rattle.pim_model.{specs.{Network.{Station, moved}, State.opening}}
use Rattle.law_streams.{proofs.{Computed.{stand, stands_there}, Pairs.ready_then}}
use Rattle.pim_runs.{specs.ServedChain.{asked_group, first}, proofs.OnLiterals.machine_on_literals}
use Rattle.law_converges.{specs.{LinkMembers.{KnowsGroupTo, MemberAnswers}, LinkMembersRun.{HostAnswersInTime, HostComesToBeKnown, HostStaysKnown, answer_bound, answering, asked_for, asking_pair, late_answer, next_bound, passing, queried, reported, was_answered}, LinkQuerier.LeadsBy, LinkQuerierRun.{both_ask, settings, started_apart}}, proofs.{LinkMembers.{member_comes_to_be_known, member_stays_known}, LinkQuerierRun.{first_ready, second_ready}, QueryTests.{leads_so, leads_test, member_so, member_test}}}

answering_passes : member_test late_answer answer_bound started_apart settings asking_pair asked_for asked_group both_ask answering ≡ true
unfolding machine_on_literals
answering_passes = refl

leads_passes : leads_test late_answer answer_bound started_apart settings asking_pair both_ask ≡ true
unfolding machine_on_literals
leads_passes = refl

pub host_answers_in_time : HostAnswersInTime
host_answers_in_time =
    member_so late_answer answer_bound started_apart settings asking_pair asked_for asked_group both_ask answering first_ready second_ready
    answering_passes

pub host_comes_to_be_known : HostComesToBeKnown
host_comes_to_be_known =
    member_comes_to_be_known settings asked_for late_answer answer_bound started_apart asked_group asking_pair both_ask answering
    host_answers_in_time (leads_so late_answer answer_bound started_apart settings asking_pair both_ask leads_passes)

-- ---- from then on

passing_passes : member_test late_answer next_bound started_apart settings asking_pair asked_for asked_group was_answered passing ≡ true
unfolding machine_on_literals
passing_passes = refl

leads_still : leads_test late_answer next_bound started_apart settings asking_pair was_answered ≡ true
unfolding machine_on_literals
leads_still = refl

abbrev nowhere : Station
nowhere = record { links = []; state = opening first }

knows_to : KnowsGroupTo started_apart asked_group asking_pair next_bound was_answered
unfolding machine_on_literals
knows_to = record {
  station = stand nowhere was_answered 1;
  there = stands_there nowhere was_answered 1 refl;
  end = 260000;
  is = refl;
  lasts = lit< tt;
}

answers_on : MemberAnswers settings asked_for late_answer started_apart asked_group asking_pair was_answered passing
answers_on =
    member_so late_answer next_bound started_apart settings asking_pair asked_for asked_group was_answered passing
    (ready_then 0 (moved both_ask queried).1 reported (ready_then 0 both_ask queried first_ready))
    (ready_then 1 (moved both_ask queried).1 reported (ready_then 1 both_ask queried second_ready)) passing_passes

leads_on : LeadsBy settings late_answer next_bound started_apart asking_pair was_answered
leads_on = leads_so late_answer next_bound started_apart settings asking_pair was_answered leads_still

pub host_stays_known : HostStaysKnown
host_stays_known = (
  answers_on,
  leads_on,
  knows_to,
  member_stays_known settings asked_for late_answer next_bound started_apart asked_group asking_pair was_answered passing answers_on leads_on
      knows_to,
)
