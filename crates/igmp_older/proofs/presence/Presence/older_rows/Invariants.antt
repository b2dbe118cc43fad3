use Rattle.std.{proofs.Common.{◌≡◌, ◌++◌, map, filter, ◌&&◌}}
use Rattle.pim_types.{specs.declared.fact.Key.Key}
use Rattle.igmp_older.{specs.{Modes.runs, Presence.{has_record, row_told, rows_told}, declared.mode.PresentRow.PresentRow}}
use Rattle.igmp_older.proofs.presence.Presence.older_rows.Given as goal

abbrev pub invariant-loop-key : goal.invariant-loop-key
invariant-loop-key g l =
    let groups = g.Q.Querier.group_records l.querier in
    l.rows.items ++ map (row_told l.moment)
    (filter (λ (e : Key × PresentRow). runs l.moment e.1 && has_record groups e.0) l.key-iterator)
    ≡ rows_told groups l.moment l.self
