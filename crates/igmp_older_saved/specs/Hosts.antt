-- Which groups of older hosts are saved with a router's state, and what becomes of them.
use Rattle.std.specs.{List.list_all, Prelude.{ℕ, Bool, true, not, ◌&&◌, ◌||◌, ◌*◌, ◌+◌, ◌-◌, filter, is_none, is_some, map, nat_le, nat_lt, unwrap_or, Option, Some, None}}
use Rattle.pim_types.{specs.{Keys.group_in, declared.fact.{GroupRecordRow.GroupRecordRow, Key.Key}}}
use Rattle.pim_model.{specs.{State.State, Tables.Table}}
use Rattle.igmp_older.{specs.{Modes.running, Older.is_served, Presence.has_record, declared.mode.PresentRow.PresentRow}}
use Rattle.igmp_older_saved.{specs.declared.host.HostRow.HostRow}

-- [Older Host Present Interval] is at most this (RFC 3376, section 8.13): the greatest robustness variable, 7, times the
-- longest query interval, 31,744 s, and the longest response interval, 3,174.4 s (section 4.1)
abbrev pub longest_interval : ℕ
longest_interval = 7 * 31744000 + 3174400

-- a timer, if it runs, expires later than the present, and no later than in the longest interval
abbrev pub is_ahead : ℕ → Option ℕ → Bool
is_ahead now None = true
is_ahead now (Some end) = nat_lt now end && nat_le (end - now) longest_interval

-- one of the timers runs, and each that runs is ahead
unfoldable pub is_running : ℕ → HostRow → Bool
is_running now row =
    (is_some row.one_end || is_some row.two_end) && (is_ahead now row.one_end && is_ahead now row.two_end)

-- the key of a group on an interface that older hosts may join
abbrev pub is_group_key : Key → Bool
is_group_key k = is_none k.source && (not k.rpt && is_served (group_in k))

-- A row that a querier at this present with these group records has of older hosts: it is of a group that they may join,
-- and of which there is a record (RFC 3376, section 7.3.2), and one of its timers runs.
unfoldable pub is_held : Table GroupRecordRow → ℕ → Key × HostRow → Bool
is_held groups now e = is_group_key e.0 && (is_running now e.1 && has_record groups e.0)

-- each row is held
abbrev pub are_held : State → Table HostRow → Bool
are_held s hosts = list_all (is_held s.group_records s.present) hosts

-- which of the timers of a row run
abbrev pub host_told : ℕ → PresentRow → HostRow
host_told now row = record { one_end = running now row.one_end; two_end = running now row.two_end }

-- the row as it is saved, under its key
abbrev pub entry_told : ℕ → Key × PresentRow → Key × HostRow
entry_told now e = (e.0, host_told now e.1)

-- what is saved of the rows of older hosts: those that are held
unfoldable pub saved_hosts : Table GroupRecordRow → ℕ → Table PresentRow → Table HostRow
saved_hosts groups now rows = filter (is_held groups now) (map (entry_told now) rows)

-- the timers of a row that was saved; it is looked at when time passes
abbrev pub resumed_row : HostRow → PresentRow
resumed_row row = record { one_end = unwrap_or row.one_end 0; two_end = unwrap_or row.two_end 0; look = 0 }

abbrev pub entry_resumed : Key × HostRow → Key × PresentRow
entry_resumed e = (e.0, resumed_row e.1)

-- the rows of older hosts that were saved
unfoldable pub resumed_rows : Table HostRow → Table PresentRow
resumed_rows hosts = map entry_resumed hosts
