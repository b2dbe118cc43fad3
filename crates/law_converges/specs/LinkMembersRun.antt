-- Two routers of the chain, to whose link a host belongs, which asks for a group when the first router queries.
use Rattle.std.{specs.Prelude.{List, [], ℕ, ◌∷◌}}
use Rattle.pim_ip.{specs.Ipv4.igmp_packet_text}
use Rattle.pim_types.{specs.declared.event.Event.Event}
use Rattle.igmp_wire.{specs.{Reports.report_text, Values.Record, declared.report.RecordType.RecordType}}
use Rattle.pim_model.{specs.Network.{At, Move, Network, moved}}
use Rattle.law_streams.{specs.{Adjacent.Adjacent, InTimeJoins.Always}}
use Rattle.pim_runs.{specs.{ServedChain.asked_group, Words.{address, advance, frame}}}
use Rattle.law_converges.{specs.{LinkDr.between, LinkMembers.{GroupKnownAfter, KnowsGroup, KnowsGroupTo, MemberAnswers}, LinkQuerier.LeadsBy, LinkQuerierRun.{both_ask, higher, lower, settings, started_apart}}}

-- the host's answer, an IS_EX of no source, as it comes to the second router
abbrev pub wish : Record
wish = record { type = RecordType.IsExclude; group = asked_group; sources = [] }

abbrev pub answer : Event
answer = frame 0 (igmp_packet_text (address 10 0 1 9) (address 224 0 0 22) (report_text (wish ∷ [])))

-- the first router is the querier, the second is to know the group
abbrev pub asking_pair : Adjacent
asking_pair = between 1 lower higher

-- the first router queries, the host answers, and the time of both goes past the bound
abbrev pub queried : Move
queried = At 0 (advance 31250)

abbrev pub reported : Move
reported = At 1 answer

abbrev pub passing : List Move
passing = At 0 (advance 34000) ∷ At 1 (advance 2751) ∷ []

abbrev pub answering : List Move
answering = queried ∷ reported ∷ passing

-- an answer comes within a second of its query
abbrev pub late_answer : ℕ
late_answer = 1000

-- [Group Membership Interval]: 2 x 125 s + 10 s
abbrev pub asked_for : ℕ
asked_for = 260000

-- the next query leaves at 31.25 s, and a second twice later is the bound
abbrev pub answer_bound : ℕ
answer_bound = 33250

abbrev pub HostAnswersInTime : Type 0
HostAnswersInTime = MemberAnswers settings asked_for late_answer started_apart asked_group asking_pair both_ask answering

abbrev pub HostComesToBeKnown : Type 0
HostComesToBeKnown = GroupKnownAfter started_apart asked_group asking_pair answer_bound both_ask answering

-- Once the answer came, the second router knows the group, and goes on to know it: the next query leaves at 156.25 s, and
-- a second twice later its group timer still runs.
abbrev pub was_answered : Network
was_answered = (moved (moved both_ask queried).1 reported).1

abbrev pub next_bound : ℕ
next_bound = 158250

abbrev pub HostStaysKnown : Type 0
HostStaysKnown =
    MemberAnswers settings asked_for late_answer started_apart asked_group asking_pair was_answered passing
    × LeadsBy settings late_answer next_bound started_apart asking_pair was_answered
    × KnowsGroupTo started_apart asked_group asking_pair next_bound was_answered
    × Always (KnowsGroup asked_group asking_pair) was_answered passing
