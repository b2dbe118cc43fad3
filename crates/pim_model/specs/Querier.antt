-- The querier of an interface. Sections are those of RFC 3376: queries (6.1), the reception of reports (6.4) and
-- queries (6.6), and the values of timers (8), which the RFC writes in brackets. All times are in ms.
use Rattle.std.{specs.{List.list_any, Option.option_map_or, Prelude.{Bool, List, None, Option, Some, [], drop, false, filter, filter_map, fold, if◌then◌else◌, length, map, min, nat_lt, not, option_and_then, suc, take, true, zero, ℕ, ◌&&◌, ◌*◌, ◌++◌, ◌+◌, ◌-◌, ◌/◌, ◌==◌, ◌||◌, ◌∷◌}}}
use Rattle.pim_ip.{specs.Ipv4.is_source_specific}
use Rattle.pim_types.{specs.{Keys.{iface_key, is_on, same_key, source_in, source_key, star_key}, declared.fact.{GroupRecordRow.GroupRecordRow, GroupRepeatRow.GroupRepeatRow, Key.Key, QuerierRole.QuerierRole, QuerierRow.QuerierRow, SendingRow.SendingRow, SourceRecordRow.SourceRecordRow, SourceRepeatRow.SourceRepeatRow}}}
use Rattle.igmp_wire.{specs.{Codes.{code_value, value_code}, Values.{Query as QueryValue, Record}, declared.report.RecordType.RecordType}}
use Rattle.pim_model.{specs.{Messages.Message, Records.{AskGroup, AskSources, Asked, GroupRecord, apply_record, group_expired, is_at_group, record_of, source_expired, with_members, with_record}, State.{State, my_address}, Tables.{Table, change_row, drop_where, is_among, is_empty_list, put, row_at, set_row}}}

-- the querier row of an interface, which has one while it is up
abbrev pub querier_on : State → ℕ → Option QuerierRow
querier_on s i = row_at s.queriers (iface_key i)

-- [Robustness Variable] in force (8.1): adopted from the querier's QRV where another one is (4.1.6)
unfoldable pub robustness : State → ℕ → ℕ
robustness s i = option_map_or (λ (q : QuerierRow). q.robustness) (querier_on s i) s.settings.robustness

-- [Query Interval] in force (8.2): adopted from the querier's QQIC where another one is (4.1.7)
unfoldable pub query_interval : State → ℕ → ℕ
query_interval s i =
    1000 * option_map_or (λ (q : QuerierRow). q.query_interval) (querier_on s i) s.settings.query_interval

-- [Query Response Interval] (8.3), always the configured one
abbrev pub query_response_interval : State → ℕ
query_response_interval s = 100 * s.settings.query_response_interval

-- [Last Member Query Interval] (8.8), always the configured one
abbrev pub last_member_query_interval : State → ℕ
last_member_query_interval s = 100 * s.settings.last_member_query_interval

-- [Group Membership Interval] = [Robustness Variable] * [Query Interval] + [Query Response Interval] (8.4)
unfoldable pub group_membership_interval : State → ℕ → ℕ
group_membership_interval s i = robustness s i * query_interval s i + query_response_interval s

-- [Other Querier Present Interval] = [Robustness Variable] * [Query Interval] + [Query Response Interval] / 2 (8.5)
unfoldable pub other_querier_interval : State → ℕ → ℕ
other_querier_interval s i = robustness s i * query_interval s i + query_response_interval s / 2

-- [Startup Query Interval] = [Query Interval] / 4 (8.6)
unfoldable pub startup_query_interval : State → ℕ → ℕ
startup_query_interval s i = query_interval s i / 4

-- LMQT = [Last Member Query Interval] * [Last Member Query Count] (8.10), the count being [Robustness Variable] (8.9)
unfoldable pub last_member_query_time : State → ℕ → ℕ
last_member_query_time s i = last_member_query_interval s * robustness s i

-- the role is Querier, not Non-Querier
abbrev pub is_querier_role : QuerierRole → Bool
is_querier_role (QuerierRole.Querier next left) = true
is_querier_role (QuerierRole.NonQuerier end) = false

-- the router is the querier of the link
unfoldable pub is_querier : State → ℕ → Bool
is_querier s i = option_map_or (λ (q : QuerierRow). is_querier_role q.role) (querier_on s i) false

-- ---- queries as they are sent

-- a query as it is sent (4.1), with the values in force
unfoldable pub query_sent : State → ℕ → ℕ → ℕ → Bool → List ℕ → Message
query_sent s i response_tenths group suppress sources = Message.Query i (record {
  max_response_code = value_code response_tenths;
  group = group;
  suppress = suppress;
  robustness = robustness s i;
  interval_code = value_code (query_interval s i / 1000);
  sources = sources;
})

-- a general query (4.1.11), which asks for responses within [Query Response Interval]
abbrev pub general_query : State → ℕ → Message
general_query s i = query_sent s i s.settings.query_response_interval 0 false []

-- a group-specific, or a group-and-source-specific query (4.1.11), for responses within [Last Member Query Interval]
abbrev pub specific_query : State → ℕ → ℕ → Bool → List ℕ → Message
specific_query s i g suppress sources = query_sent s i s.settings.last_member_query_interval g suppress sources

-- ---- election

-- the row of a querier with the configured values, its next general query, and how many startup queries are still to
-- leave
unfoldable pub querier_row : State → ℕ → ℕ → QuerierRow
querier_row s next left = record {
  role = QuerierRole.Querier next left;
  robustness = s.settings.robustness;
  query_interval = s.settings.query_interval;
}

-- the state in which the router is the querier of the interface, with the configured values
unfoldable pub querying : State → ℕ → ℕ → ℕ → State
querying s i next left = record s { queriers = put s.queriers (iface_key i) (querier_row s next left) }

-- the state in which the router is the querier of the interface, with the configured values, where the interface has a
-- querier row
unfoldable pub querying_on : State → ℕ → ℕ → ℕ → State
querying_on s i next left =
    record s { queriers = change_row (λ (old : QuerierRow). Some (querier_row s next left)) (iface_key i) s.queriers }

-- the interface goes up: a general query leaves at once; [Startup Query Count] (8.7) queries leave, [Startup Query
-- Interval] apart
unfoldable pub querier_up : State → ℕ → State × List Message
querier_up s i =
    let started : State = querying s i 0 0 in
    let after : State = querying s i (s.present + startup_query_interval started i) (s.settings.robustness - 1) in
    (after, general_query after i ∷ [])

-- the general query timer expires (6.1): the next query leaves after [Startup Query Interval] while startup queries are
-- left, else after [Query Interval]
unfoldable pub general_query_due : State → ℕ → ℕ → State × List Message
general_query_due s i left =
    let interval : ℕ = (if nat_lt 1 left then startup_query_interval s i else query_interval s i) in
    (querying_on s i (s.present + interval) (left - 1), general_query s i ∷ [])

-- the Other-Querier-Present timer expires (6.6.2): the router queries at once, and again after [Query Interval]; here:
-- with the configured values
unfoldable pub other_querier_gone : State → ℕ → State × List Message
other_querier_gone s i =
    let started : State = querying_on s i 0 0 in
    let after : State = querying_on s i (s.present + query_interval started i) 0 in
    (after, general_query after i ∷ [])

-- QRV, or QQI, of a query; where it is 0 the configured value counts (4.1.6, 4.1.7)
abbrev pub given_or : ℕ → ℕ → ℕ
given_or zero configured = configured
given_or (suc n) configured = suc n

-- another router becomes the querier (6.6.2): its QRV and QQI are adopted, and queries that were to be repeated are
-- dropped
unfoldable pub querier_elected : State → ℕ → ℕ → ℕ → State
querier_elected s i qrv qqi =
    let row : ℕ → QuerierRow = λ end. record {
      role = QuerierRole.NonQuerier end;
      robustness = given_or qrv s.settings.robustness;
      query_interval = given_or qqi s.settings.query_interval;
    } in
    let adopted : State = record s { queriers = put s.queriers (iface_key i) (row 0) } in
    record s {
      queriers = put s.queriers (iface_key i) (row (s.present + other_querier_interval adopted i));
      group_repeats = drop_where (is_on i) s.group_repeats;
      source_repeats = drop_where (is_on i) s.source_repeats;
      sendings = drop_where (is_on i) s.sendings;
    }

-- ---- lowering

-- a timer lowered to a timestamp, where it runs
abbrev pub lowered : ℕ → Option ℕ → Option ℕ
lowered end None = None
lowered end (Some e) = Some (min e end)

-- a timer runs, and expires later than a timestamp
abbrev pub exceeds : ℕ → Option ℕ → Bool
exceeds end None = false
exceeds end (Some e) = nat_lt end e

-- the group timer is lowered to a timestamp
unfoldable pub lower_group : State → ℕ → ℕ → ℕ → State
lower_group s i g end = record s {
  group_records = map (λ (e : Key × GroupRecordRow).
      if same_key (star_key i g) e.0 then (e.0, record { end = lowered end (e.1).end }) else e) s.group_records;
}

-- the source timers of the given sources are lowered to a timestamp
unfoldable pub lower_sources : State → ℕ → ℕ → List ℕ → ℕ → State
lower_sources s i g sources end = record s {
  source_records = map (λ (e : Key × SourceRecordRow).
      if is_at_group i g e.0 && is_among (source_in e.0) sources
      then (e.0, record { end = lowered end (e.1).end }) else e) s.source_records;
}

-- LMQT from the present time: the timestamp to which a query lowers timers (6.6.1)
abbrev pub query_end : State → ℕ → ℕ
query_end s i = s.present + last_member_query_time s i

-- ---- Q(G) and Q(G,X), by the querier alone

-- when the group timer expires, if it runs
abbrev pub group_end : State → ℕ → ℕ → Option ℕ
group_end s i g = option_and_then (λ (r : GroupRecordRow). r.end) (row_at s.group_records (star_key i g))

-- when a source timer expires, if it runs
abbrev pub source_end : State → ℕ → ℕ → ℕ → Option ℕ
source_end s i g src = option_and_then (λ (r : SourceRecordRow). r.end) (row_at s.source_records (source_key i g src))

-- Send Q(G) (6.6.3.1): the group timer is lowered to LMQT, the query leaves at once, and again LMQC - 1 times
unfoldable pub query_group : State → ℕ → ℕ → State × List Message
query_group s i g =
    let repeat : GroupRepeatRow =
    record { next = s.present + last_member_query_interval s; left = robustness s i - 1 } in
    let after : State =
    record (lower_group s i g (query_end s i)) { group_repeats = put s.group_repeats (star_key i g) repeat } in
    (after, specific_query s i g false [] ∷ [])

-- the repeat of Q(G) is due; S is set where the group timer is larger than LMQT (6.6.3.1)
unfoldable pub group_repeat_due : State → ℕ → ℕ → ℕ → State × List Message
group_repeat_due s i g left =
    let repeat : GroupRepeatRow = record { next = s.present + last_member_query_interval s; left = left - 1 } in
    let row : Option GroupRepeatRow = (if nat_lt 1 left then Some repeat else None) in (
      record s { group_repeats = change_row (λ (old : GroupRepeatRow). row) (star_key i g) s.group_repeats },
      specific_query s i g (exceeds (query_end s i) (group_end s i g)) [] ∷ [],
    )

-- the most sources that one query names: what a frame of 1500 bytes holds (4.1.8)
abbrev pub most_sources : ℕ
most_sources = 366

-- the queries of the given sources, in messages of at most 366 of them; there are at most `most` messages
unfoldable pub queries_of : (List ℕ → Message) → ℕ → List ℕ → List Message
queries_of message zero sources = []
queries_of message (suc most) sources =
    let later : List Message = queries_of message most (drop most_sources sources) in
    elim (is_empty_list sources) [ true ↦ [] | false ↦ message (take most_sources sources) ∷ later ]

-- the group-and-source-specific queries of the given sources, with S set or clear (6.6.3.2)
abbrev pub specific_queries : State → ℕ → ℕ → Bool → List ℕ → List Message
specific_queries s i g suppress sources =
    queries_of (specific_query s i g suppress) (length sources) sources

-- the row is a sending of a source of the group
abbrev pub is_sending : ℕ → ℕ → Key × SendingRow → Bool
is_sending i g e = is_at_group i g e.0

-- the sources of the group with sendings left, ascending
unfoldable pub sources_to_send : State → ℕ → ℕ → List ℕ
sources_to_send s i g = map (λ e. source_in e.0) (filter (is_sending i g) s.sendings)

-- a row with one sending less if it is of a source of the group, and no row where that was the last
abbrev pub one_sent : ℕ → ℕ → Key × SendingRow → Option (Key × SendingRow)
one_sent i g e =
    if not (is_sending i g e) then Some e
    else (if nat_lt 1 (e.1).left then Some (e.0, record { left = (e.1).left - 1 }) else None)

-- a group-and-source-specific query (6.6.3.2): with S set the sources whose timers are larger than LMQT, then with S
-- clear the rest; each has one sending less
unfoldable pub sources_sent : State → ℕ → ℕ → State × List Message
sources_sent s i g =
    let sources : List ℕ = sources_to_send s i g in
    let runs_on : ℕ → Bool = λ src. exceeds (query_end s i) (source_end s i g src) in (
      record s { sendings = filter_map (one_sent i g) s.sendings },
      specific_queries s i g true (filter runs_on sources)
          ++ specific_queries s i g false (filter (λ src. not (runs_on src)) sources),
    )

-- the next sending of queries of the group's sources is [Last Member Query Interval] from the present time, while any
-- source has one left
unfoldable pub next_sending : State → ℕ → ℕ → Option SourceRepeatRow
next_sending s i g =
    if list_any (is_sending i g) s.sendings
    then Some (record { next = s.present + last_member_query_interval s }) else None

-- the sources of the group are queried at once, and the next sending is set
unfoldable pub send_sources : State → ℕ → ℕ → State × List Message
send_sources s i g =
    let sent : State × List Message = sources_sent s i g in
    (record (sent.0) { source_repeats = set_row s.source_repeats (star_key i g) (next_sending sent.0 i g) }, sent.1)

-- the Group-and-Source-Specific Queries of a group are due to be sent again (6.6.3.2)
unfoldable pub source_repeat_due : State → ℕ → ℕ → State × List Message
source_repeat_due s i g =
    let sent : State × List Message = sources_sent s i g in
    (record (sent.0) { source_repeats = change_row (λ (old : SourceRepeatRow). next_sending sent.0 i g) (star_key i g) s.source_repeats }, sent.1)

-- Send Q(G,X) (6.6.3.2): of X the sources whose timers are larger than LMQT are lowered to it, and get LMQC sendings
-- here: each source has its own count, and a sending names all sources of the group that have sendings left
unfoldable pub query_sources : State → ℕ → ℕ → List ℕ → State × List Message
query_sources s i g asked =
    let sources : List ℕ = filter (λ src. exceeds (query_end s i) (source_end s i g src)) asked in
    let count : SendingRow = record { left = robustness s i } in
    let counted : Table SendingRow = fold (λ t src. put t (source_key i g src) count) s.sendings sources in
    let lower : State = record (lower_sources s i g sources (query_end s i)) { sendings = counted } in
    elim (is_empty_list sources) [ true ↦ (s, []) | false ↦ send_sources lower i g ]

-- Send Q(G) or Send Q(G,A) (6.4.2), as a record of a report requests
unfoldable pub query_asked : ℕ → ℕ → State → Asked → State × List Message
query_asked i g s AskGroup = query_group s i g
query_asked i g s (AskSources sources) = query_sources s i g sources

-- one change after another, with the messages of all
module _ {S A M : Type 0} (change : S → A → S × List M) where
  unfoldable pub each_in_turn : S → List A → S × List M
  each_in_turn s [] = (s, [])
  each_in_turn s (a ∷ as') =
      let first : S × List M = change s a in
      let later : S × List M = each_in_turn first.0 as' in
      (later.0, first.1 ++ later.1)

-- ---- what comes in

-- the record type is IS_EX or TO_EX
abbrev pub is_excluding : RecordType → Bool
is_excluding RecordType.IsExclude = true
is_excluding RecordType.ToExclude = true
is_excluding _ = false

-- a group record that a router doesn't take: one of an SSM group that excludes (RFC 4604, section 3.1)
abbrev pub is_skipped : Record → Bool
is_skipped r = is_source_specific r.group && is_excluding r.type

-- a group record of a report (6.4); only the querier sends the queries that it requests
unfoldable pub record_seen : ℕ → State → Record → State × List Message
record_seen i s r =
    let full : ℕ = s.present + group_membership_interval s i in
    let applied : GroupRecord × List Asked = apply_record full (record_of s i r.group) r.type r.sources in
    let written : State = with_record s i r.group applied.0 in
    if is_querier s i then each_in_turn (query_asked i r.group) written applied.1 else (written, [])

-- a report, record by record
unfoldable pub report_seen : State → ℕ → List Record → State × List Message
report_seen s i records = each_in_turn (record_seen i) s (filter (λ r. not (is_skipped r)) records)

-- a query from a lower address than the router's (6.6.2), which isn't 0.0.0.0
abbrev pub is_lower_querier : State → ℕ → ℕ → Bool
is_lower_querier s i from = nat_lt 0 from && nat_lt from (my_address s i)

-- a query with S clear lowers timers to LMQT (6.6.1), whoever sent it: Q(G) the group timer, Q(G,A) the source timers
-- of A
unfoldable pub lower_queried : State → ℕ → QueryValue → State
lower_queried s i q =
    if q.suppress || (q.group == 0) then s
    else (if is_empty_list q.sources then lower_group s i q.group (query_end s i)
    else lower_sources s i q.group q.sources (query_end s i))

-- a query is received (6.6); here: one from a higher address elects nobody, and its QRV and QQIC aren't adopted
unfoldable pub query_seen : State → ℕ → ℕ → QueryValue → State
query_seen s i from q =
    let elected : State =
    (if is_lower_querier s i from then querier_elected s i q.robustness (code_value q.interval_code) else s) in
    lower_queried elected i q

-- the group timer expires (6.5)
unfoldable pub group_record_due : State → ℕ → ℕ → State
group_record_due s i g =
    let timed : State = record s {
      group_records =
          change_row (λ (old : GroupRecordRow). Some (record { end = None })) (star_key i g) s.group_records;
    } in
    with_members timed i g (group_expired s.present (record_of s i g))

-- a source timer expires (6.2.3)
unfoldable pub source_record_due : State → ℕ → ℕ → ℕ → State
source_record_due s i g src = with_members s i g (source_expired src (record_of s i g))
