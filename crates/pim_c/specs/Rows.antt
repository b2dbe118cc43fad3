-- What C reads of a row of a table: the letter of the table, and the columns of its kind. Those of the other kinds are 0.
use Rattle.std.{specs.Prelude.{Bool, None, Option, Some, false, true, unwrap_or, ℕ}}
use Rattle.pim_types.{specs.declared.fact.AssertRole.AssertRole}
use Rattle.pim_rows.{specs.declared.table.{DownstreamState.DownstreamState, RegisterName.RegisterName, Row.Row}}
use Rattle.pim_c.specs.{Returned.{never, source_or_zero}, declared.rows.CRow.CRow}

abbrev pub downstream_number : DownstreamState → ℕ
downstream_number DownstreamState.Join = 1
downstream_number DownstreamState.PrunePending = 2
downstream_number DownstreamState.Prune = 3

abbrev pub register_number : Option RegisterName → ℕ
register_number None = 0
register_number (Some RegisterName.Join) = 1
register_number (Some RegisterName.JoinPending) = 2
register_number (Some RegisterName.Prune) = 3

abbrev pub is_loser_role : AssertRole → Bool
is_loser_role AssertRole.Winner = false
is_loser_role AssertRole.Loser = true

-- a row of the table of a letter, with no columns yet
abbrev pub blank : ℕ → CRow
blank letter = record {
  table = letter;
  neighbour = record { iface = 0; address = 0; end = 0 };
  group = record { iface = 0; group = 0; is_exclude = false; end = 0 };
  source = record { iface = 0; group = 0; source = 0; end = 0 };
  downstream = record { iface = 0; group = 0; source = 0; is_rpt = false; state = 0; end = 0; pending = 0 };
  asserted = record { iface = 0; group = 0; source = 0; is_loser = false; winner = 0; end = 0 };
  upstream = record { group = 0; source = 0; next_join = 0 };
  rpt = record { group = 0; source = 0; is_pruned = false };
  active = record { group = 0; source = 0; keepalive = 0; spt_bit = false; register_state = 0 };
}

abbrev pub row_of : Row → CRow
row_of (Row.Neighbour iface address end) = record (blank 78) {
  neighbour = record { iface = iface.number; address = address.bits; end = unwrap_or end never };
}
row_of (Row.Group iface group is_exclude end) = record (blank 71) {
  group = record { iface = iface.number; group = group.bits; is_exclude = is_exclude; end = unwrap_or end never };
}
row_of (Row.Source iface group source end) = record (blank 83) {
  source = record { iface = iface.number; group = group.bits; source = source.bits; end = unwrap_or end never };
}
row_of (Row.Downstream key state end pending) = record (blank 68) {
  downstream = record {
    iface = key.iface.number;
    group = key.group.bits;
    source = source_or_zero key.source;
    is_rpt = key.rpt;
    state = downstream_number state;
    end = unwrap_or end never;
    pending = unwrap_or pending never;
  };
}
row_of (Row.Assert key role winner end) = record (blank 65) {
  asserted = record {
    iface = key.iface.number;
    group = key.group.bits;
    source = source_or_zero key.source;
    is_loser = is_loser_role role;
    winner = winner.bits;
    end = end;
  };
}
row_of (Row.Upstream group source next_join) = record (blank 85) {
  upstream = record { group = group.bits; source = source_or_zero source; next_join = next_join };
}
row_of (Row.Tree group source is_pruned) = record (blank 82) {
  rpt = record { group = group.bits; source = source.bits; is_pruned = is_pruned };
}
row_of (Row.Active group source keepalive spt register) = record (blank 70) {
  active = record {
    group = group.bits;
    source = source.bits;
    keepalive = unwrap_or keepalive never;
    spt_bit = spt;
    register_state = register_number register;
  };
}
