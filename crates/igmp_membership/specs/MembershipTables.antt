-- The IGMP membership facts of the router, as plain tables.
use Rattle.std.{specs.{List.{AllByRecursion, list_all, Sorted.IsStrictlySortedBy}, Prelude.{Bool, List, Some, [], is_none, is_some, length, nat_le, nat_lt, not, true, ℕ, ◌&&◌, ◌+◌, ◌++◌, ◌==◌, ◌≡◌}}}
use Rattle.pim_types.{specs.{declared.{fact.{GroupRecordRow.GroupRecordRow, GroupRepeatRow.GroupRepeatRow, Key.Key, QuerierRow.QuerierRow, SendingRow.SendingRow, SourceRecordRow.SourceRecordRow, SourceRepeatRow.SourceRepeatRow}, timer.TimerKind.TimerKind}, Keys.{group_in, iface_in, key_cmp}}}
use Rattle.pim_model.{specs.{Tables.{Table, keys_in}, Timers.{Ending, endings, next_query, other_querier_end}}}

-- the tables of IGMP's facts
pub record MembershipTables : Type 0 where
  -- under keys of interfaces
  pub queriers : Table QuerierRow
  -- under keys of interface, group and source
  pub group_records : Table GroupRecordRow
  pub source_records : Table SourceRecordRow
  pub group_repeats : Table GroupRepeatRow
  pub source_repeats : Table SourceRepeatRow
  pub sendings : Table SendingRow

-- of a group, and of a source of a group
abbrev pub is_star_kind : Key → Bool
is_star_kind k = not k.rpt && is_none k.source

-- a key of a source of a group, on any interface
abbrev pub is_source_kind : Key → Bool
is_source_kind k = not k.rpt && is_some k.source

-- of an interface that a set of interfaces can have
abbrev pub is_group_key : Key → Bool
is_group_key k = is_star_kind k && nat_lt (iface_in k) 120

-- a key of a source of a group on an interface that a set of interfaces can have
abbrev pub is_listed_key : Key → Bool
is_listed_key k = is_source_kind k && nat_lt (iface_in k) 120

-- of no group
abbrev pub is_querier_key : Key → Bool
is_querier_key k = is_star_kind k && (group_in k == 0)

-- the robustness variable has 3 bits
abbrev pub is_held_querier : Key × QuerierRow → Bool
is_held_querier e = is_querier_key e.0 && nat_le (e.1).robustness 7

abbrev pub AreHeld : Table QuerierRow → Type 0
AreHeld rows = AllByRecursion (λ (e : Key × QuerierRow). is_held_querier e ≡ true) rows

-- each is under a key of its kind
abbrev pub are_of_kind : MembershipTables → Bool
are_of_kind m =
    list_all (λ e. is_held_querier e) m.queriers
    && (list_all (λ e. is_group_key e.0) m.group_records
    && (list_all (λ e. is_listed_key e.0) m.source_records
    && (list_all (λ e. is_star_kind e.0) m.group_repeats
    && (list_all (λ e. is_star_kind e.0) m.source_repeats && list_all (λ e. is_source_kind e.0) m.sendings))))

-- the tables of IGMP's facts without rows
abbrev pub no_membership : MembershipTables
no_membership = record {
  queriers = [];
  group_records = [];
  source_records = [];
  group_repeats = [];
  source_repeats = [];
  sendings = [];
}

-- the keys of a table rise
abbrev pub Rises : {R : Type 0} → Table R → Type 0
Rises t = IsStrictlySortedBy key_cmp (keys_in t)

-- the keys of each table of IGMP's facts rise
pub record AllRise (m : MembershipTables) : Type 0 where
  pub queriers : Rises m.queriers
  pub group_records : Rises m.group_records
  pub source_records : Rises m.source_records
  pub group_repeats : Rises m.group_repeats
  pub source_repeats : Rises m.source_repeats
  pub sendings : Rises m.sendings

-- how many facts count
unfoldable pub counted_records : MembershipTables → ℕ
counted_records m = length m.group_records + length m.source_records

-- The timers that run in the rows.
unfoldable pub membership_endings : MembershipTables → List Ending
membership_endings m =
    endings TimerKind.GroupRecord (λ (r : GroupRecordRow). r.end) m.group_records
    ++ endings TimerKind.SourceRecord (λ (r : SourceRecordRow). r.end) m.source_records
    ++ (endings TimerKind.OtherQuerier (λ (r : QuerierRow). other_querier_end r.role) m.queriers
    ++ endings TimerKind.GeneralQuery (λ (r : QuerierRow). next_query r.role) m.queriers)
    ++ endings TimerKind.GroupRepeat (λ (r : GroupRepeatRow). Some r.next) m.group_repeats
    ++ endings TimerKind.SourceRepeat (λ (r : SourceRepeatRow). Some r.next) m.source_repeats

-- the keys of all facts of groups
unfoldable pub membership_keys : MembershipTables → List Key
membership_keys m =
    keys_in m.group_records ++ keys_in m.source_records ++ keys_in m.group_repeats ++ keys_in m.source_repeats
    ++ keys_in m.sendings
