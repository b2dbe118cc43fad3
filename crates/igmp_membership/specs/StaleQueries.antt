-- Which sendings may be of a source without a record. No public clause cites this module.
use Rattle.std.{specs.{List.AllByRecursion, Prelude.{Bool, false, not, true, ℕ, ◌&&◌, ◌||◌, ◌≡◌}}}
use Rattle.pim_types.{specs.{declared.fact.{Key.Key, SendingRow.SendingRow, SourceRecordRow.SourceRecordRow}, Keys.{group_in, iface_in, same_key}}}
use Rattle.pim_model.{specs.{Records.is_at_group, Tables.{Table, has_row}}}
use Rattle.igmp_membership.{specs.declared.stale_queries.StaleQueries.StaleQueries}

abbrev pub may_lack : StaleQueries → Key → Bool
may_lack StaleQueries.Empty k = false
may_lack (StaleQueries.OfSource key) k = same_key key k
may_lack (StaleQueries.OfGroup key) k = is_at_group (iface_in key) (group_in key) k
may_lack StaleQueries.Any k = true

-- All other sendings are of sources with a record.
abbrev pub HaveRecords : StaleQueries → Table SourceRecordRow → Table SendingRow → Type 0
HaveRecords u records sendings =
    AllByRecursion (λ (e : Key × SendingRow). (may_lack u e.0 || has_row records e.0) ≡ true) sendings

-- The key is of a source of the group on the interface that has no record.
abbrev pub is_unrecorded : ℕ → ℕ → Table SourceRecordRow → Key → Bool
is_unrecorded i g records k = is_at_group i g k && not (has_row records k)
