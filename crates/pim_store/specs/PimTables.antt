-- The PIM facts of the router, as plain tables.
use Rattle.std.{specs.{Option.option_map_or, List.{Sorted.IsStrictlySortedBy, list_all}, Prelude.{Bool, List, Option, Some, [], false, is_none, is_some, length, min, nat_lt, not, option_map, true, ℕ, ◌&&◌, ◌+◌, ◌++◌, ◌==◌, ◌≡◌}}}
use Rattle.pim_ip.{specs.declared.addr.Addr.Addr}
use Rattle.pim_types.{specs.{declared.{fact.{AssertRow.AssertRow, DownstreamRow.DownstreamRow, JoinTimerRow.JoinTimerRow, Key.Key, OverrideTimerRow.OverrideTimerRow, RegisterRow.RegisterRow, SourceRow.SourceRow}, timer.TimerKind.TimerKind}, Keys.{iface_in, key_cmp, key_of}}}
use Rattle.pim_model.{specs.{State.State, Tables.{Table, keys_in}, Timers.{Ending, endings, register_end}}}

-- the tables of PIM's facts
pub record PimTables : Type 0 where
  -- under keys of interface, group and source
  pub downstream : Table DownstreamRow
  pub asserts : Table AssertRow
  -- under keys of the whole router, by group and source
  pub join_timers : Table JoinTimerRow
  pub override_timers : Table OverrideTimerRow
  pub sources : Table SourceRow
  pub registers : Table RegisterRow

-- The PIM facts of a state.
abbrev pub pim_tables : State → PimTables
pim_tables s = record {
  downstream = s.downstream;
  asserts = s.asserts;
  join_timers = s.join_timers;
  override_timers = s.override_timers;
  sources = s.sources;
  registers = s.registers;
}

-- the tables of PIM's facts without rows
abbrev pub no_facts : PimTables
no_facts = record {
  downstream = [];
  asserts = [];
  join_timers = [];
  override_timers = [];
  sources = [];
  registers = [];
}

-- the key of (*,G), where there is no source, or of a source of the group: of (S,G), or of (S,G,rpt)
abbrev pub fact_key : ℕ → Addr → Option Addr → Bool → Key
fact_key i group source rpt = key_of i group.bits (option_map (λ (a : Addr). a.bits) source) rpt

-- an assert is of an interface, and of (*,G) or of (S,G); a source and its register are of the whole router
abbrev pub is_assert_key : Key → Bool
is_assert_key k = nat_lt (iface_in k) 120 && not k.rpt

-- a key of (S,G) of the whole router
abbrev pub is_source_key : Key → Bool
is_source_key k = (iface_in k == 0) && not k.rpt && is_some k.source

-- Asserts, sources and registers are under keys of their kind, and the keys rise.
pub record AreKeyed (f : PimTables) : Type 0 where
  pub asserts : list_all (λ e. is_assert_key e.0) f.asserts ≡ true
  pub sources : list_all (λ e. is_source_key e.0) f.sources ≡ true
  pub registers : list_all (λ e. is_source_key e.0) f.registers ≡ true
  pub asserts_rise : IsStrictlySortedBy key_cmp (keys_in f.asserts)
  pub sources_rise : IsStrictlySortedBy key_cmp (keys_in f.sources)
  pub registers_rise : IsStrictlySortedBy key_cmp (keys_in f.registers)

-- a Join timer is of (*,G) or (S,G), an override timer of (S,G,rpt), both of the whole router
abbrev pub is_plain_key : Key → Bool
is_plain_key k = (iface_in k == 0) && not k.rpt

-- a key of (S,G,rpt) of the whole router
abbrev pub is_rpt_key : Key → Bool
is_rpt_key k = (iface_in k == 0) && k.rpt && is_some k.source

-- each is under a key of its kind
abbrev pub are_of_kind : PimTables → Bool
are_of_kind f =
    list_all (λ e. nat_lt (iface_in e.0) 120) f.downstream
    && (list_all (λ e. is_assert_key e.0) f.asserts
    && (list_all (λ e. is_plain_key e.0) f.join_timers
    && (list_all (λ e. is_rpt_key e.0) f.override_timers
    && (list_all (λ e. is_source_key e.0) f.sources && list_all (λ e. is_source_key e.0) f.registers))))

-- the keys of a table rise
abbrev pub Rises : {R : Type 0} → Table R → Type 0
Rises t = IsStrictlySortedBy key_cmp (keys_in t)

-- the keys of each table of PIM facts rise
pub record AllRise (f : PimTables) : Type 0 where
  pub downstream : Rises f.downstream
  pub asserts : Rises f.asserts
  pub join_timers : Rises f.join_timers
  pub override_timers : Rises f.override_timers
  pub sources : Rises f.sources
  pub registers : Rises f.registers

-- The downstream state is Prune, and not Prune-Pending.
abbrev pub is_prune : Option DownstreamRow → Bool
is_prune row = option_map_or (λ (r : DownstreamRow). is_none r.pending) row false

-- A source's row after KAT(S,G) is set to a timestamp, by the row before, if there is one.
abbrev pub kept_alive : ℕ → Option SourceRow → SourceRow
kept_alive end row = record { keepalive = Some end; spt = option_map_or (λ (r : SourceRow). r.spt) row false }

-- A Join timer that is lowered to a timestamp.
abbrev pub lowered_join_timer : ℕ → JoinTimerRow → Option JoinTimerRow
lowered_join_timer end row = Some (record { end = min row.end end })

-- the keys of all PIM facts, table by table
unfoldable pub stored_keys : PimTables → List Key
stored_keys f =
    keys_in f.downstream ++ keys_in f.asserts ++ keys_in f.join_timers ++ keys_in f.override_timers
    ++ keys_in f.sources ++ keys_in f.registers

-- how many facts count
unfoldable pub counted_facts : PimTables → ℕ
counted_facts f = length f.downstream + length f.asserts + length f.sources

-- The timers that run in the rows.
unfoldable pub stored_endings : PimTables → List Ending
stored_endings f =
    endings TimerKind.PrunePending (λ (r : DownstreamRow). r.pending) f.downstream
    ++ endings TimerKind.DownstreamExpiry (λ (r : DownstreamRow). r.expiry) f.downstream
    ++ endings TimerKind.Assert (λ (r : AssertRow). Some r.end) f.asserts
    ++ endings TimerKind.Keepalive (λ (r : SourceRow). r.keepalive) f.sources
    ++ endings TimerKind.Register (λ (r : RegisterRow). register_end r.state) f.registers
    ++ endings TimerKind.Override (λ (r : OverrideTimerRow). Some r.end) f.override_timers
    ++ endings TimerKind.Join (λ (r : JoinTimerRow). Some r.end) f.join_timers
