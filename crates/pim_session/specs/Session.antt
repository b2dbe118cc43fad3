-- What a session shows: its router, what stands before it, and what its last calls returned.
use Rattle.std.{specs.Prelude.{Bool, List, Option}}
use Rattle.pim_types.{specs.declared.outcome.Emission.Emission}
use Rattle.pim_rows.{specs.declared.table.Row.Row}
use Rattle.pim_router.{specs.Standing.Shown as RouterShown}
use Rattle.igmp_older.{specs.declared.mode.OlderRow.OlderRow}
use Rattle.pim_anycast.{specs.declared.set.RpSet.RpSet}
use Rattle.pim_session.{specs.Front.Front}

-- What a session shows.
pub record ShownSession : Type 0 where
  -- nothing once an allocation failed
  pub router : RouterShown
  -- none where no setting was made, and once an allocation failed
  pub front : Option Front
  -- the sets of RPs that share an address, of which the router is one
  pub sets : List RpSet
  -- whether the guard is on, which stops what would be forwarded as data though it is IGMP or PIM
  pub guard : Bool
  -- what is untaken of what the last event sent: the last of its packets, in their order
  pub sent : List Emission
  -- the rows of the table that was read last
  pub rows : List Row
  -- the groups in an older mode that were read last
  pub older_rows : List OlderRow
