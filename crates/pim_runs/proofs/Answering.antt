-- The premises, computed.
use Rattle.std.{proofs.Common.{◌≡◌, ◌∷◌, [], Ok, refl}}
use Rattle.pim_model.{specs.{Limits.config_test, Step.step}}
use Rattle.igmp_wire.{specs.declared.report.RecordType.RecordType}
use Rattle.law_states.{specs.{Reloading.{asserts_under, goodbyes, hellos_anew, is_won_before, leaves_address, queriers_under, reload, removals, replaced, says_same, tells_anew, under}, History.{AreAccepted, IsLedTo, state_given}}}
use Rattle.law_hosts.{specs.Members.{IsReported, is_answered, may_be_given, may_happen, next_general, waiting_after, waiting_given}, proofs.RecordsKept.member_keeps_its_record}
use Rattle.pim_runs.{specs.{Answering.{MemberAnswers, MemberIsKept, PatientQueriesComeTooLate, SlowAnswersComeTooLate, before, joins, later, opened, quick}, Base.{base, group}}, proofs.OnLiterals.machine_on_literals}

accepted : config_test base ≡ Ok tt
unfolding machine_on_literals
accepted = refl

accepted_quick : config_test quick ≡ Ok tt
unfolding machine_on_literals
accepted_quick = refl

led : IsLedTo base opened before
led = record { accepted = accepted; reloads = tt; led = refl }

are_accepted : AreAccepted (step before joins).state later
are_accepted = (accepted_quick, tt)

reported : IsReported 1000 2 group before joins
unfolding machine_on_literals state_given next_general
reported = record {
  next = 31250;
  queries = refl;
  records = record { type = RecordType.ToExclude; group = group; sources = [] } ∷ [];
  taken = refl;
  asks = refl;
  stays = refl;
  timely = refl;
}

pub member_answers : MemberAnswers
unfolding machine_on_literals state_given reload replaced removals under queriers_under asserts_under is_won_before goodbyes leaves_address hellos_anew says_same tells_anew
    is_answered may_be_given may_happen next_general waiting_after waiting_given
member_answers = record { led = led; accepted = are_accepted; reported = reported; answered = refl }

pub member_is_kept : MemberIsKept
unfolding machine_on_literals state_given reload replaced removals under queriers_under asserts_under is_won_before goodbyes leaves_address hellos_anew says_same tells_anew
member_is_kept = (refl, member_keeps_its_record 1000 2 group base opened before joins later led are_accepted reported member_answers.answered)

pub slow_answers_come_too_late : SlowAnswersComeTooLate
unfolding machine_on_literals state_given is_answered may_be_given may_happen next_general waiting_after waiting_given
slow_answers_come_too_late = (refl, (refl, (refl, refl)))

pub patient_queries_come_too_late : PatientQueriesComeTooLate
unfolding machine_on_literals state_given reload replaced removals under queriers_under asserts_under is_won_before goodbyes leaves_address hellos_anew says_same tells_anew
    is_answered may_be_given may_happen next_general waiting_after waiting_given
patient_queries_come_too_late = (refl, (refl, (refl, refl)))
